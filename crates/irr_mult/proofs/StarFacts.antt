-- What the calls on a star give.
--   few_arms                 a star has at most 48 arms
--   pushed                   what holds of each item of a list and of one more
--   full_list                a complete list of the program is a full one
--   IsCharacterAt, family_at, asked_family     the members of a list, one after another
--   steps_here, order_divides                  the table of the little group
--   star_here                the star of the arms and of the table of the little group
use Rattle.std.proofs.Common.{◌≡◌, sym, ◌∙◌, ap, subst, ℕ, zero, suc, ◌+◌, ◌<◌, ◌≤◌, inl, inr, List, [], ◌∷◌, ◌++◌, length, get_or, arith}
use Rattle.std.proofs.Math.Seq.{get_or-append_seam}
use Rattle.std.specs.Int.{◌∣◌}
use Rattle.std.proofs.lemmas.List.Elements.{All-get_or}
use Rattle.std.proofs.lemmas.Bool.{cases_lt}
use Rattle.std.proofs.lemmas.List.{get_or_append_left}
use Rattle.irr_algebra.specs.Fin.{Fin, to_nat}
use Rattle.irr_algebra.proofs.Indices.{from_nat, to_nat-from_nat, to_nat-lt}
use Rattle.irr_number.specs.Number.{Number}
use Rattle.irr_theory.specs.FactorSystem.{Representation}
use Rattle.irr_theory.specs.Representations.{IsFull, Representations}
use Rattle.irr_space.specs.Operation.{WaveVector}
use Rattle.irr_space.specs.Reciprocal.{IsOrder}
use Rattle.irr_space.specs.Star.{IsInLittleGroup}
use Rattle.irr_space.specs.PhaseTable.{PhaseTable, phases_at}
use Rattle.irr_seitz.specs.PhaseMeaning.{sign_of}
use Rattle.irr_seitz.specs.declared.op.Op.{Op}
use Rattle.irr_kvec.specs.WaveMeaning.{wave_vector}
use Rattle.irr_kvec.specs.declared.wave.Wave.{Wave}
use Rattle.irr_cyc.specs.declared.scalars.Scalar.{Ghosts}
use Rattle.irr_rep.specs.Twisted.{operation_places, phase_table, place_count}
use Rattle.irr_rep.specs.declared.family.Family.{Family}
use Rattle.irr_rep.specs.declared.table.Twisted.{Twisted}
use Rattle.irr_close.specs.Canonical.{numbered}
use Rattle.irr_close.specs.StandsFor.{stands_for}
use Rattle.irr_close.specs.declared.group.Group.{Group}
use Rattle.irr_little.specs.Arms.{AreArms}
use Rattle.irr_little.specs.Table.{IsLittleTable, listed_operations}
use Rattle.irr_little.specs.declared.arms.Arm.{Arm}
use Rattle.irr_little.proofs.Spaces.{form_of, numbering_of}
use Rattle.irr_chain.specs.NormalSubgroup.{HasSteps}
use Rattle.irr_steps.proofs.Tables.{tables_have_steps}
use Rattle.irr_climb.specs.Families.{AreRead, IsRead}
use Rattle.irr_climb.specs.Lists.{IsSmallList}
use Rattle.irr_climb.specs.Sizes.{IsSized}
use Rattle.irr_climb.proofs.FullRows.{size_few}
use Rattle.irr_mult.specs.declared.star.SmallCharacter.{SmallCharacter}
use Rattle.irr_mult.specs.StarParts.{IsCharacterOf}
use Rattle.irr_full.proofs.SameStars.{order_unique}
use Rattle.irr_mult.specs.Listing.{item}
use Rattle.irr_mult.specs.Traced.{StarOn}

-- increasing indices are at least their numbers
at_least : (a n : ℕ) (f : Fin a → Fin n) → ((i j : Fin a) → to_nat i < to_nat j → to_nat (f i) < to_nat (f j))
    → (k : ℕ) (i : Fin a) → to_nat i ≡ k
    → k ≤ to_nat (f i)
at_least a n f increasing zero i e = omega arith
at_least a n f increasing (suc k) i e =
    let w = to_nat-lt i in
    let l : k < a = omega (arith, w, e) in
    let j = from_nat a k l in
    let at = to_nat-from_nat a k l in
    let before = at_least a n f increasing k j at in
    let step = increasing j i (omega (arith, at, e)) in
    omega (arith, before, step)

no_more : (a n : ℕ) (f : Fin a → Fin n) → ((i j : Fin a) → to_nat i < to_nat j → to_nat (f i) < to_nat (f j)) → a ≤ n
no_more zero n f increasing = omega arith
no_more (suc a) n f increasing =
    let l : a < suc a = omega arith in
    let i = from_nat (suc a) a l in
    let b = at_least (suc a) n f increasing a i (to_nat-from_nat (suc a) a l) in
    let w = to_nat-lt (f i) in
    omega (arith, b, w)

-- an operation of the group
pub some_operation : (group : Group) → Op
some_operation group = item group.ops.items (from_nat (length group.ops.items) 0 (form_of group).nonempty)

pub few_arms : (group : Group) (k : WaveVector) (wave : Wave) (arms : List Arm) → AreArms group k arms
    → length arms ≤ 48
few_arms group k wave arms are =
    let few = (form_of group).few in
    let l = no_more (length arms) (length group.ops.items) are.number
    (are.star (some_operation group) (record { wave = wave; op = 0 })).ordered in
    omega (arith, few, l)

-- what holds of each item, with one more
pub pushed : {X : Type 0} (P : ℕ → X → Type 0) (xs after : List X) (x : X) (k : ℕ) → length xs ≡ k
    → after ≡ xs ++ x ∷ []
    → ((j : ℕ) (e : X) → j < k → P j (get_or xs j e)) → P k x → (j : ℕ) (e : X) → j < k + 1 → P j (get_or after j e)
pushed P xs after x k count is before here j e l = subst (λ zs. P j (get_or zs j e)) (sym is) (elim (cases_lt j k) [
  | inl inside ↦ subst (P j) (sym (get_or_append_left xs (x ∷ []) e j (subst (λ n. j < n) (sym count) inside)))
      (before j e inside)
  | inr past ↦ (
      let last : j ≡ length xs = (let c = count in omega (arith, c, past, l)) in
      subst (P j) (sym (ap (λ n. get_or (xs ++ x ∷ []) n e) last ∙ get_or-append_seam xs x [] e))
      (subst (λ n. P n x) (sym (last ∙ count)) here)
      )
])

pub full_list : {S : Type 0} {G : Ghosts S} {h : ℕ} (T : PhaseTable h) (fs : List (Family S G))
    (s : IsSmallList T fs) → IsFull s.list
full_list T fs s = record {
  positive = s.complete.positive;
  simple = s.simple;
  inequivalent = s.complete.inequivalent;
  squares = s.squares;
}

-- the star, with the table of the little group
pub star_here : (group : Group) (wave : Wave) (arms : List Arm) (t : Twisted) → AreArms group (wave_vector wave) arms
    → IsLittleTable group (wave_vector wave) (operation_places t) (phase_table t)
    → StarOn (sign_of group.phase) (stands_for group) (wave_vector wave) (phase_table t) (length arms)
star_here group wave arms t are little =
    let d = some_operation group in
    let a : Arm = record { wave = wave; op = 0 } in record {
      count = length group.ops.items;
      canonical = numbered group.ops.items d;
      canonical_numbering = numbering_of group d;
      arm = λ i. wave_vector (get_or arms (to_nat i) a).wave;
      number = are.number;
      are_arms = are.star d a;
      operation = listed_operations group (place_count t) (operation_places t) d;
      numbering = little.numbering d;
      is_table = little.table d;
    }

-- the character of the member with the number j
abbrev pub IsCharacterAt : {S : Type 0} (order : S → ℕ) (value : (n : ℕ) → S → Number n) {h : ℕ} (T : PhaseTable h)
    (M : ℕ) (v : T.order ∣ M)
    (L : Representations (phases_at T)) → ℕ → SmallCharacter S → Type 0
IsCharacterAt order value T M v L j x = (m : Fin L.count) → to_nat m ≡ j
    → IsCharacterOf order value T M v (L.member m) x

-- the family of a member
pub family_at : {S : Type 0} {G : Ghosts S} {h : ℕ} (T : PhaseTable h) (L : Representations (phases_at T))
    (fs : List (Family S G))
    → AreRead T.order (phases_at T) L fs → (k : ℕ) (f : Family S G) → f ≡ get_or fs k f → (m : Fin L.count)
    → to_nat m ≡ k
    → IsRead T.order (phases_at T) (L.member m) f
family_at T L fs read k f is m e = subst (IsRead T.order (phases_at T) (L.member m))
    (ap (λ n. get_or fs n f) e ∙ sym is) (read.read m f)

-- what is asked of the family at a place of a list
module _ {S : Type 0} {G : Ghosts S} {h : ℕ} (T : PhaseTable h) (few : h ≤ 48) (fs : List (Family S G))
    (s : IsSmallList T fs) (k : ℕ) (l : k < length fs)
    (f : Family S G) (is : f ≡ get_or fs k f) where
  pub asked_family : (d : ℕ) × (D : Representation (phases_at T) d) × (d ≤ 48) × IsRead T.order (phases_at T) D f
      × IsSized T.order h f
  asked_family =
      let below : k < s.list.count = subst (λ n. k < n) s.read.count l in
      let m = from_nat s.list.count k below in (
        s.list.size m,
        s.list.member m,
        size_few s.list (full_list T fs s) m few,
        family_at T s.list fs s.read k f is m (to_nat-from_nat s.list.count k below),
        subst (IsSized T.order h) (sym is) (All-get_or (λ (g : Family S G). IsSized T.order h g) fs k f l s.sized),
      )

-- a table whose order divides another one
module _ (group : Group) (wave : Wave) (t : Twisted) (little : IsLittleTable group (wave_vector wave)
    (operation_places t) (phase_table t)) (M : ℕ) (n : ℕ)
    (order : IsOrder (stands_for group) (wave_vector wave) n) (divides : n ∣ M) where
  pub steps_here : HasSteps (phase_table t)
  steps_here = let d = some_operation group in tables_have_steps (sign_of group.phase) (stands_for group)
      (IsInLittleGroup (stands_for group) (wave_vector wave)) (wave_vector wave)
      (listed_operations group (place_count t) (operation_places t) d)
      (phase_table t) (little.numbering d) (little.table d)

  pub order_divides : (phase_table t).order ∣ M
  order_divides = subst (λ k. k ∣ M) (order_unique (stands_for group) (wave_vector wave) n (phase_table t).order order
      (little.table (some_operation group)).is_order) divides
