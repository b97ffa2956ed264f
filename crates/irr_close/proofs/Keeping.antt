-- The kept operations as one more is looked at.
--   generated_at          a generator of the list is generated
--   generated_modulo      an operation that differs by a whole vector from a generated one
--   IsProductOf           the product of a kept operation and a generator, in the cell
--   product_kept          may be kept
--   with_new-partial      the kept operations with one more that may be kept
--   with_new-longer       are longer
--   with_new-has          and have its rotation
--   has_longer            what the shorter list has, the longer one has
--   refused               where nothing more is kept, the rotations are too many
use Rattle.std.proofs.Common.{◌≡◌, sym, ◌∙◌, ap, subst, refl, ℕ, ◌<◌, ◌≤◌, ◌+◌, inl, inr, List, [], ◌∷◌, ◌++◌, append_assoc, append-nil, map, length, get_or, arith}
use Rattle.std.specs.List.{All, AllPairs, Contains, HoldsAt}
use Rattle.std.specs.Int.{◌∣◌}
use Rattle.irr_rat.specs.Lcm.{IsLcm}
use Rattle.std.proofs.lemmas.List.{length-map, get_or-map, length-append, length_push, get_or_append_left, get_or_default, get_or_push}
use Rattle.std.proofs.lemmas.List.Elements.{All-push}
use Rattle.std.proofs.lemmas.Bool.{cases_lt}
use native.Mathlib.Nat as Nat
use Rattle.irr_algebra.specs.Fin.{Fin, to_nat}
use Rattle.irr_algebra.specs.Fin.Fin.{first, next}
use Rattle.irr_algebra.proofs.Indices.{to_nat-lt, to_nat_inj}
use Rattle.irr_algebra.specs.Matrix.{◌·◌, ◌⊖◌}
use Rattle.irr_space.specs.Operation.{Operation, Rotation, ◌⊙◌}
use Rattle.irr_space.specs.SpaceGroup.{Generated}
use Rattle.irr_space.specs.SpaceGroup.Generated.{generator, product}
use Rattle.irr_space.specs.CanonicalOperation.{IsInCell}
use Rattle.irr_lattice.proofs.Translations.{whole_vector_translation}
use Rattle.irr_seitz.specs.Rotation.{IsWithin}
use Rattle.irr_seitz.specs.OperationMeaning.{operation}
use Rattle.irr_seitz.specs.declared.op.Op.{Op}
use Rattle.irr_close.specs.declared.CloseError.{CloseError}
use Rattle.irr_close.specs.declared.CloseError.TheVariants.{Rotations, Denominator, Centrings, Memory}
use Rattle.irr_close.specs.Whole.{IsWholeVector}
use Rattle.irr_close.specs.Limits.{operations, HasFewRotations, HasSmallDenominator}
use Rattle.irr_close.specs.Closing.{IsKept, HasRotation, HasProducts, IsPartial, IsLonger, IsWithNew, IsKeepRefusal, IsClosingRefusal}
use Rattle.irr_close.proofs.Pigeons.{crowded}
use Rattle.irr_close.proofs.Closure.{by_translation, whole_flipped}

pub generated_at : (gs : List Op) (j : ℕ) (d : Op) → j < length gs → Generated (operations gs) (operation (get_or gs j d))
generated_at gs j d l =
    generator (
      j,
      (let e : length (map operation gs) ≡ length gs = length-map gs operation in omega arith),
      get_or-map operation gs j d
          (operation (get_or gs j d)) l,
    )

-- two operations with one rotation whose vectors differ by a whole one
pub generated_modulo : (gens : List Operation) (g h : Operation) → h.rotation ≡ g.rotation → IsWholeVector (h.vector ⊖ g.vector) → Generated gens g
    → Generated gens h
generated_modulo gens g h e w p = subst (Generated gens) (by_translation g h e) (product (whole_vector_translation gens (h.vector ⊖ g.vector) w) p)

pub product-rotation : (g h : Operation) → (g ⊙ h).rotation ≡ g.rotation · h.rotation
unfolding ◌⊙◌
product-rotation g h = refl

pub small_denominator : (gs : List Op) (op : Op) → HasSmallDenominator gs → IsKept gs op → op.den ≤ 100000
small_denominator gs op c k = let l : op.den ≤ c.common = Nat.le_of_dvd c.positive (k.divides c.common c.positive c.multiple) in let s = c.small in
    omega arith

-- what one of a list has, one of the longer list has
pub kept_longer : {X : Type 0} (P : X → Type 0) (old new : List X) → IsLonger old new → (k : ℕ) × (k < length old) × HoldsAt P old k
    → (k : ℕ) × (k < length new) × HoldsAt P new k
kept_longer P old new t h =
    (h.0, l, λ d. subst (λ xs. P (get_or xs h.0 d)) (sym t.is) (subst P (sym (get_or_append_left old t.more d h.0 h.1)) (h.2 d)))
  where
    l : h.0 < length new
    l = subst (λ ops. h.0 < length ops) (sym t.is)
        (let a : length (old ++ t.more) ≡ length old + length t.more = length-append old t.more in let b : h.0 < length old = h.1 in omega arith)

pub has_longer : (old new : List Op) (R : Rotation) → IsLonger old new → HasRotation old R → HasRotation new R
has_longer old new R t h = kept_longer (λ g. (operation g).rotation ≡ R) old new t h

pub longer_refl : {X : Type 0} (ops : List X) → IsLonger ops ops
longer_refl ops = record { more = []; is = sym (append-nil ops) }

pub longer_trans : {X : Type 0} (a b c : List X) → IsLonger a b → IsLonger b c → IsLonger a c
longer_trans a b c s t = record { more = s.more ++ t.more; is = t.is ∙ ap (λ xs. xs ++ t.more) s.is ∙ append_assoc a s.more t.more }

pub with_new-longer : (old : List Op) (g : Op) (new : List Op) → IsWithNew old g new → IsLonger old new
with_new-longer old g new (inl h) = subst (IsLonger old) (sym h.1) (longer_refl old)
with_new-longer old g new (inr h) = record { more = g ∷ []; is = h.3 }

pub with_new-has : (old : List Op) (g : Op) (new : List Op) → IsWithNew old g new → HasRotation new (operation g).rotation
with_new-has old g new (inl h) = subst (λ ops. HasRotation ops (operation g).rotation) (sym h.1) h.0
with_new-has old g new (inr h) = subst (λ ops. HasRotation ops (operation g).rotation) (sym h.3) (
  length old,
  (let a : length (old ++ g ∷ []) ≡ length old + 1 = length_push old g in omega arith),
  λ d. ap (λ (x : Op). (operation x).rotation)
      (get_or_push old g d (length old) refl),
)

-- one more operation with a new rotation
pub distinct_push : (old : List Op) (g : Op) → AllPairs (λ g h. ¬ ((operation g).rotation ≡ (operation h).rotation)) old
    → ¬ (HasRotation old (operation g).rotation)
    → AllPairs (λ g h. ¬ ((operation g).rotation ≡ (operation h).rotation)) (old ++ g ∷ [])
distinct_push old g apart none i j d l m =
    different (let a : length (old ++ g ∷ []) ≡ length old + 1 = length_push old g in let b : j < length (old ++ g ∷ []) = m in omega arith)
  where
    different : j < length old + 1 → ¬ ((operation (get_or (old ++ g ∷ []) i d)).rotation ≡ (operation (get_or (old ++ g ∷ []) j d)).rotation)
    different n e = elim (cases_lt j (length old)) [
      | inl below ↦ apart i j d l below (let b : i < length old = omega arith in
          sym (ap (λ (x : Op). (operation x).rotation) (get_or_append_left old (g ∷ []) d i b)) ∙ e
          ∙ ap (λ (x : Op). (operation x).rotation) (get_or_append_left old (g ∷ []) d j below))
      | inr last ↦ (let b : i < length old = omega arith in let q : length old ≡ j = omega arith in
          none (
            i,
            b,
            λ f. ap (λ (x : Op). (operation x).rotation) (get_or_default old i f d b)
                ∙ sym (ap (λ (x : Op). (operation x).rotation) (get_or_append_left old (g ∷ []) d i b)) ∙ e
                ∙ ap (λ (x : Op). (operation x).rotation) (get_or_push old g d j q),
          ))
    ]

pub with_new-partial : (gs old : List Op) (g : Op) (new : List Op) → IsPartial gs old → (IsWithin 9 (operation g).rotation → IsKept gs g)
    → IsWithNew old g new → IsPartial gs new
with_new-partial gs old g new p k (inl h) = subst (IsPartial gs) (sym h.1) p
with_new-partial gs old g new p k (inr h) = subst (IsPartial gs) (sym h.3) (record {
  nonempty = (let a : length (old ++ g ∷ []) ≡ length old + 1 = length_push old g in omega arith);
  identity_first = λ d. ap operation (get_or_append_left old (g ∷ []) d 0 p.nonempty) ∙ p.identity_first d;
  few = (let a : length (old ++ g ∷ []) ≡ length old + 1 = length_push old g in let b = h.2 in omega arith);
  kept = All-push (IsKept gs) old g p.kept (k h.1);
  distinct = distinct_push old g p.distinct h.0;
})

-- the new operation first, then those that are kept
abbrev with_first : Op → List Op → Fin 49 → Op
with_first g old first = g
with_first g old (next i) = get_or old (to_nat i) g

pub too_many : (gs old : List Op) (g : Op) → All (λ x. Generated (operations gs) (operation x)) old
    → AllPairs (λ g h. ¬ ((operation g).rotation ≡ (operation h).rotation)) old → Generated (operations gs) (operation g)
    → ¬ (HasRotation old (operation g).rotation) → 48 ≤ length old → ¬ (HasFewRotations (operations gs))
too_many gs old g all pairs k none l few = let t = crowded 48 few.rotations few.few (λ i. (operation (with_first g old i)).rotation) has in
    apart t.0 t.1 t.2 t.3
  where
    below : (i : Fin 48) → to_nat i < length old
    below i = let h = to_nat-lt i in omega arith

    has : (i : Fin 49) → Contains few.rotations (operation (with_first g old i)).rotation
    has first = few.all (operation g) k
    has (next i) = few.all (operation (get_or old (to_nat i) g)) (all (to_nat i) g (below i))

    met : (i : Fin 48) → (operation (get_or old (to_nat i) g)).rotation ≡ (operation g).rotation → ⊥
    met i e = none (to_nat i, below i, λ d. ap (λ (x : Op). (operation x).rotation) (get_or_default old (to_nat i) d g (below i)) ∙ e)

    apart : (i j : Fin 49) → (i ≡ j → ⊥) → (operation (with_first g old i)).rotation ≡ (operation (with_first g old j)).rotation → ⊥
    apart first first d e = d refl
    apart first (next j) d e = met j (sym e)
    apart (next i) first d e = met i e
    apart (next i) (next j) d e = elim (cases_lt (to_nat i) (to_nat j)) [
      | inl less ↦ pairs (to_nat i) (to_nat j) g less (below j) e
      | inr more ↦ elim (cases_lt (to_nat j) (to_nat i)) [
        | inl less ↦ pairs (to_nat j) (to_nat i) g less (below i) (sym e)
        | inr same ↦ d (ap next (to_nat_inj i j (omega arith)))
      ]
    ]

pub refused : (gs old : List Op) (g : Op) (e : CloseError) → IsPartial gs old → Generated (operations gs) (operation g) → IsKeepRefusal old g e
    → IsClosingRefusal gs e
refused gs old g Rotations p k (none, inl l) = too_many gs old g (λ i d m. (p.kept i d m).generated) p.distinct k none l
refused gs old g Rotations p k (none, inr large) = λ few. large (few.within (operation g) k)
refused gs old g Denominator p k h = h
refused gs old g Centrings p k h = h
refused gs old g Memory p k h = h

pub kept_at : (gs ops : List Op) (op : Op) (i : ℕ) → IsPartial gs ops → i < length ops → op ≡ get_or ops i op → IsKept gs op
kept_at gs ops op i p l e = subst (IsKept gs) (sym e) (p.kept i op l)

pub small_multiple : (gs : List Op) (op s : Op) (j m : ℕ) → HasSmallDenominator gs → IsKept gs op → j < length gs → s ≡ get_or gs j s
    → IsLcm op.den s.den m → m ≤ 100000
small_multiple gs op s j m c k l e h = let d : m ≤ c.common = Nat.le_of_dvd c.positive
    (h.2 c.common (k.divides c.common c.positive c.multiple) (subst (λ (x : Op). x.den ∣ c.common) (sym e) (c.multiple j s l))) in let b = c.small in
    omega arith

-- the product of a kept operation and the generator s, as the code makes it
pub record IsProductOf (gs : List Op) (op s h : Op) : Type 0 where
  pub place : ℕ
  pub below : place < length gs
  pub is : s ≡ get_or gs place s
  pub rotation : (operation h).rotation ≡ (operation op).rotation · (operation s).rotation
  pub in_cell : IsInCell (operation h).vector
  pub divides : (D : ℕ) → 0 < D → op.den ∣ D → s.den ∣ D → h.den ∣ D
  pub whole : IsWholeVector ((operation op ⊙ operation s).vector ⊖ (operation h).vector)

pub product_generated : (gs : List Op) (op s h : Op) → IsKept gs op → IsProductOf gs op s h → Generated (operations gs) (operation h)
product_generated gs op s h k p = generated_modulo (operations gs) (operation op ⊙ operation s) (operation h) (p.rotation
    ∙ sym (product-rotation (operation op) (operation s)))
    (whole_flipped (operation op ⊙ operation s).vector (operation h).vector p.whole)
    (product k.generated (subst (λ (x : Op). Generated (operations gs) (operation x)) (sym p.is) (generated_at gs p.place s p.below)))

pub product_kept : (gs : List Op) (op s h : Op) → IsKept gs op → IsProductOf gs op s h → IsWithin 9 (operation h).rotation → IsKept gs h
product_kept gs op s h k p small = record {
  generated = product_generated gs op s h k p;
  within = small;
  in_cell = p.in_cell;
  divides = λ D q all. p.divides D q (k.divides D q all) (subst (λ (x : Op). x.den ∣ D) (sym p.is) (all p.place s p.below));
}

-- the list with the product has the products with one more generator
pub more_products : (gs old new : List Op) (R : Rotation) (s h : Op) (n : ℕ) → s ≡ get_or gs n s → n < length gs
    → (operation h).rotation ≡ R · (operation s).rotation → IsWithNew old h new → HasProducts old R gs n → HasProducts new R gs (n + 1)
more_products gs old new R s h n e l r w have j m d = elim (cases_lt j n) [
  | inl less ↦ has_longer old new (R · (operation (get_or gs j d)).rotation) (with_new-longer old h new w) (have j less d)
  | inr last ↦ (let q : n ≡ j = omega arith in subst (λ (S : Rotation). HasRotation new S)
      (r ∙ ap (λ (x : Op). R · (operation x).rotation) (e ∙ get_or_default gs n s d l ∙ ap (λ k. get_or gs k d) q)) (with_new-has old h new w))
]

pub longer-at : {X : Type 0} (old new : List X) → IsLonger old new → (i : ℕ) (d : X) → i < length old → get_or old i d ≡ get_or new i d
longer-at old new t i d l = sym (ap (λ xs. get_or xs i d) t.is ∙ get_or_append_left old t.more d i l)

-- the operation at i of the longer list is the one that was multiplied
pub first_products : (gs old new : List Op) (op : Op) (i : ℕ) (d : Op) → i < length old → op ≡ get_or old i op → IsLonger old new
    → HasProducts new (operation op).rotation gs (length gs)
    → HasProducts new (operation (get_or new i d)).rotation gs (length gs)
first_products gs old new op i d l e t h = subst (λ (x : Op). HasProducts new (operation x).rotation gs (length gs)) (e ∙ get_or_default old i op d l
    ∙ longer-at old new t i d l) h

pub closed_further : (gs old new : List Op) (i : ℕ) → i < length old → IsLonger old new
    → ((k : ℕ) → k < i → HoldsAt (λ g. HasProducts old (operation g).rotation gs (length gs)) old k)
    → HoldsAt (λ g. HasProducts new (operation g).rotation gs (length gs)) new i → (k : ℕ) → k < i + 1
    → HoldsAt (λ g. HasProducts new (operation g).rotation gs (length gs)) new k
closed_further gs old new i l t have more k m d = elim (cases_lt k i) [
  | inl less ↦ (let b : k < length old = omega arith in λ j q f. has_longer old new
      ((operation (get_or new k d)).rotation · (operation (get_or gs j f)).rotation) t
      (subst (λ (x : Op). HasRotation old ((operation x).rotation · (operation (get_or gs j f)).rotation)) (longer-at old new t k d b)
      (have k less d j q f)))
  | inr last ↦ (let q : i ≡ k = omega arith in subst (λ n. HasProducts new (operation (get_or new n d)).rotation gs (length gs)) q (more d))
]

pub longer-length : {X : Type 0} (old new : List X) → IsLonger old new → length old ≤ length new
longer-length old new t = subst (λ xs. length old ≤ length xs) (sym t.is)
    (let a : length (old ++ t.more) ≡ length old + length t.more = length-append old t.more in omega arith)
