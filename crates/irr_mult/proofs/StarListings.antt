-- The parts of a representation on one star, one member after another.
--   CharacterAt, character_at    the member at a place of the loop, with its character
--   characters                   what `multiplicity` asks for
--   SoFar                        the parts of the members below k
--   none_so_far, one_more        no member, and one more
--   all_members                  all members
use Rattle.std.proofs.Common.{◌≡◌, refl, sym, ◌∙◌, ap, subst, ℕ, zero, suc, ◌+◌, ◌*◌, ◌<◌, ◌≤◌, ◌⊎◌, inl, inr, List, [], ◌∷◌, ◌++◌, length, get_or, map, arith}
use Rattle.std.proofs.lemmas.List.{append_assoc, append-nil, map-append}
use Rattle.std.proofs.lemmas.Bool.{cases_lt}
use native.Mathlib.Nat as Nat
use Rattle.irr_algebra.specs.Fin.{Fin, to_nat}
use Rattle.irr_algebra.specs.Action.{HasDimension}
use Rattle.irr_algebra.specs.Matrix.{trace}
use Rattle.irr_algebra.specs.Pair.{times}
use Rattle.irr_algebra.proofs.Folding.{dimension_unique}
use Rattle.irr_algebra.proofs.Indices.{from_nat, to_nat-from_nat, to_nat_inj, to_nat-lt}
use Rattle.irr_algebra.proofs.Pairs.{times-mul}
use Rattle.irr_number.specs.Number.{Number}
use Rattle.irr_number.proofs.NumberField.{number_field}
use Rattle.irr_space.specs.CompleteList.{over}
use Rattle.irr_rep.specs.Twisted.{phase_table}
use Rattle.irr_kvec.specs.WaveMeaning.{wave_vector}
use Rattle.irr_char.specs.Characters.{AreCharacters, IsRowOf}
use Rattle.irr_full.proofs.OneMultiplicity.{part-ext}
use Rattle.irr_mult.specs.declared.part.Part.{Part}
use Rattle.irr_mult.specs.declared.star.SmallCharacter.{SmallCharacter}
use Rattle.irr_mult.specs.declared.star.StarCharacters.{StarCharacters}
use Rattle.irr_mult.specs.Listing.{IsListing}
use Rattle.irr_mult.specs.StarParts.{HasCharacters, IsCharacterOf, IsPartRow, listed_part, part_of}
use Rattle.irr_mult.proofs.Listings.{listing-append, listing-none, listing-one, listing-same}

module _ {S : Type 0} (order : S → ℕ) (value : (n : ℕ) → S → Number n) {M : ℕ} {c : StarCharacters S}
    (h : HasCharacters order value M c) where
  -- the member k of the list, where the program reads x
  module _ (k : ℕ) (l : k < length c.characters.items) (x : SmallCharacter S)
      (is : x ≡ get_or c.characters.items k x) where
    below : k < h.list.count
    below = subst (λ n. k < n) h.count l

    pub member : Fin h.list.count
    member = from_nat h.list.count k below

    pub member-number : to_nat member ≡ k
    unfolding member
    member-number = to_nat-from_nat h.list.count k below

    pub character_at : IsCharacterOf order value (phase_table c.table) M h.divides (h.list.member member) x
    character_at = subst (IsCharacterOf order value (phase_table c.table) M h.divides (h.list.member member))
        (ap (λ n. get_or c.characters.items n x) member-number ∙ sym is) (h.character member x)

    -- the product of the sizes fits
    pub small_product : c.arms * x.dim ≤ 2304
    small_product =
        let a : x.dim ≤ 48 = subst (λ n. n ≤ 48) (sym character_at.size) (h.small member) in
        let b : c.arms * x.dim ≤ 48 * 48 = Nat.mul-le-mul h.few_arms a in
        omega arith

    pub label_below : k < 48
    label_below = let b = below in let f = h.few in omega (arith, b, f)

    pub left_row : (row : List S) → row ≡ x.row.items → IsRowOf order value M
        (λ i. trace ((over (phase_table c.table) M h.divides (h.list.member member)).at i)) row
    left_row row same = subst (IsRowOf order value M (λ i. trace ((over (phase_table c.table) M h.divides
        (h.list.member member)).at i))) (sym same) character_at.row

    module _ {traces : List S} (r : IsPartRow h traces) where
      abbrev pub characters : (row : List S) → row ≡ x.row.items → AreCharacters order value (phase_table c.table)
          row traces
      characters row same = record {
        n = M;
        divides = h.divides;
        left_size = h.list.size member;
        right_size = r.count;
        left = over (phase_table c.table) M h.divides (h.list.member member);
        right = r.part;
        left_few = h.small member;
        right_few = r.few;
        left_row = left_row row same;
        right_row = r.row;
      }

zero_or_positive : (x : ℕ) → (x ≡ 0) ⊎ (0 < x)
zero_or_positive zero = inl refl
zero_or_positive (suc x) = inr (omega arith)

module _ {S : Type 0} (order : S → ℕ) (value : (n : ℕ) → S → Number n) {M : ℕ} {c : StarCharacters S}
    (h : HasCharacters order value M c) {traces : List S}
    (r : IsPartRow h traces) (mult : Fin h.list.count → ℕ)
    (dimension : (m : Fin h.list.count) → HasDimension (over (phase_table c.table) M h.divides (h.list.member m)).at
    r.part.at (mult m)) where
  abbrev Stands : ℕ → Fin h.list.count → Type 0
  Stands k m = (to_nat m < k) × (0 < mult m)

  abbrev Before : Fin h.list.count → Fin h.list.count → Type 0
  Before m n = to_nat m < to_nat n

  -- the parts of the first k members
  abbrev pub SoFar : List Part → ℕ → List Part → Type 0
  SoFar old k new = (pushed : List Part) × (new ≡ old ++ pushed)
      × IsListing (listed_part h mult) (λ m. (to_nat m < k) × (0 < mult m)) (λ m n. to_nat m < to_nat n)
      (map part_of pushed)

  pub none_so_far : (old : List Part) → SoFar old 0 old
  none_so_far old = (
    [],
    sym (append-nil old),
    listing-none (listed_part h mult) Before (Stands 0)
        (λ m s. let l : to_nat m < 0 = s.0 in omega (arith, l)),
  )

  module _ (k : ℕ) (l : k < length c.characters.items) (x : SmallCharacter S)
      (is : x ≡ get_or c.characters.items k x) (q : ℕ)
      (has : HasDimension (over (phase_table c.table) M h.divides (h.list.member (member order value h k l x is))).at
      r.part.at q)
      (p : Part) (same_wave : p.wave ≡ c.wave) (label : p.label ≡ k + 1) (same_mult : p.mult ≡ q)
      (size : p.dim ≡ c.arms * x.dim) where
    abbrev own : Fin h.list.count
    own = member order value h k l x is

    number : to_nat (member order value h k l x is) ≡ k
    number = member-number order value h k l x is

    mult_at : mult (member order value h k l x is) ≡ q
    mult_at = dimension_unique (number_field M h.positive) (over (phase_table c.table) M h.divides
        (h.list.member own)).at r.part.at (dimension own) has

    same_member : (m : Fin h.list.count) → to_nat m ≡ k → m ≡ own
    same_member m e = to_nat_inj m own (e ∙ sym number)

    below_or_own : (m : Fin h.list.count) → to_nat m < k + 1 → (to_nat m < k) ⊎ (to_nat m ≡ k)
    below_or_own m b = elim (cases_lt (to_nat m) k) [ inl a ↦ inl a | inr f ↦ inr (omega (arith, b, f)) ]

    made : part_of p ≡ listed_part h mult own
    made = part-ext (wave_vector p.wave) (wave_vector c.wave) p.label (suc (to_nat own)) p.mult (mult own) p.dim
        (times c.arms (h.list.size own))
        (ap wave_vector same_wave) (let e = number in omega (arith, label, e)) (same_mult ∙ sym mult_at)
        (size ∙ ap (λ n. c.arms * n) (character_at order value h k l x is).size
        ∙ sym (times-mul c.arms (h.list.size own)))

    absent : q ≡ 0 → (old new : List Part) → SoFar old k new → SoFar old (k + 1) new
    absent z old new (pushed, e, a) = (
      pushed,
      e,
      listing-same (listed_part h mult) Before (Stands k) (Stands (k + 1)) (map part_of pushed) a
          (λ m (b, o). (let w : to_nat m < k = b in omega (arith, w), o))
          (λ m (b, o). (
            elim (below_or_own m b) [
              | inl w ↦ w
              | inr w ↦ absurd (let v : 0 < q = subst (λ n. 0 < n) (ap mult (same_member m w) ∙ mult_at) o in omega
                  (arith, v, z))
            ],
            o,
          )),
    )

    present : 0 < q → (old now new : List Part) → new ≡ now ++ p ∷ [] → SoFar old k now → SoFar old (k + 1) new
    present some old now new f (pushed, e, a) = (
      pushed ++ p ∷ [],
      f ∙ ap (λ ps. ps ++ p ∷ []) e ∙ append_assoc old pushed (p ∷ []),
      subst (IsListing (listed_part h mult) (Stands (k + 1)) Before) (sym (map-append part_of pushed (p ∷ [])))
          (listing-append (listed_part h mult) Before (Stands k) Own (Stands (k + 1)) (map part_of pushed)
          (part_of p ∷ []) a
          (listing-one (listed_part h mult) Before Own own (part_of p) (number, subst (λ n. 0 < n) (sym mult_at) some)
          (λ m (w, o). sym (same_member m w)) made)
          (λ m (b, o). (let w : to_nat m < k = b in omega (arith, w), o))
          (λ m (b, o). (let w : to_nat m ≡ k = b in omega (arith, w), o))
          (λ m (b, o). elim (below_or_own m b) [ inl w ↦ inl (w, o) | inr w ↦ inr (w, o) ])
          (λ m n (b, o) (w, v). let u : to_nat m < k = b in let y : to_nat n ≡ k = w in omega (arith, u, y))),
    )
      where
        Own : Fin h.list.count → Type 0
        Own m = (to_nat m ≡ k) × (0 < mult m)

    pub one_more : (old now new : List Part) → (q ≡ 0 → new ≡ now) → (0 < q → new ≡ now ++ p ∷ []) → SoFar old k now
        → SoFar old (k + 1) new
    one_more old now new none some a = elim (zero_or_positive q) [
      | inl z ↦ absent z old new (subst (SoFar old k) (sym (none z)) a)
      | inr o ↦ present o old now new (some o) a
    ]

  pub all_members : (k : ℕ) → k ≡ length c.characters.items → (old new : List Part) → SoFar old k new
      → (pushed : List Part) × (new ≡ old ++ pushed)
      × IsListing (listed_part h mult) (λ m. 0 < mult m) Before (map part_of pushed)
  all_members k e old new (pushed, f, a) = (
    pushed,
    f,
    listing-same (listed_part h mult) Before (Stands k) (λ m. 0 < mult m) (map part_of pushed) a (λ m (b, o). o)
        (λ m o. (subst (λ n. to_nat m < n) (sym (e ∙ h.count)) (to_nat-lt m), o)),
  )
