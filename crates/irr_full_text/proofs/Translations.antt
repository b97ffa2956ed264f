-- Generators of a group, as lists of operations.
--   translation_is                 an operation with the unit rotation
--   lowest_over_one                what stands over 1 is in lowest terms
--   units_are                      the unit translations
--   mapped_step                    one more translation
--   listed_map                     the operations of a list
--   unit_member, centring_member, place_member     translations and canonical operations are operations of the group
--   centrings_in_cell, small_translation, small_operations     and have small vectors
--   generators_are, generators_printable     all generators
use Rattle.std.proofs.Common.{◌≡◌, sym, ◌∙◌, ap, ap₂, subst, refl, ℕ, ℤ, pos, zero, suc, ◌+◌, ◌*◌, ◌<◌, ◌≤◌, List, [], ◌∷◌, ◌++◌, append_assoc, length, map, take, drop, get_or, unsigned_abs, arith}
use Rattle.std.specs.List.{All}
use Rattle.std.proofs.lemmas.List.{map-append, take_more, get_or-map, length-map, get_or_default}
use Rattle.std.proofs.lemmas.List.Elements.{All-nil, All-cons, All-append, All-drop, All-map}
use native.Mathlib.Nat as Nat
use Rattle.irr_algebra.specs.Fin.{Fin, to_nat}
use Rattle.irr_algebra.specs.Fin.Fin.{first, next}
use Rattle.irr_algebra.specs.Matrix.{column, unit, ◌⊖◌}
use Rattle.irr_algebra.specs.Sum.{delta}
use Rattle.irr_algebra.proofs.Matrices.{sub_self}
use Rattle.irr_rational.specs.Integer.{integer}
use Rattle.irr_rational.specs.Rational.{rationals, ratio, IsWhole}
use Rattle.irr_rational.specs.Ratio.{entry}
use Rattle.irr_rational.proofs.Integers.{integer-one}
use Rattle.irr_rational.proofs.ListedRatios.{ratios-at}
use Rattle.irr_rational.proofs.Orders.{ratio-zero}
use Rattle.irr_rational.proofs.Ratios.{ratio_is, over-integer}
use Rattle.irr_space.specs.Operation.{Operation, Vector, component, translation}
use Rattle.irr_space.specs.CanonicalOperation.{IsInCell}
use Rattle.irr_lattice.proofs.Vectors.{vector-ext, component-unit, whole-delta}
use Rattle.irr_rat.specs.Lowest.{AreThreeLowest}
use Rattle.irr_rat.specs.VectorMeaning.{vector, vector_of}
use Rattle.irr_rat.specs.declared.vec3.Vec3.{Vec3}
use Rattle.irr_seitz.specs.Rotation.{rotation_of}
use Rattle.irr_seitz.specs.OperationMeaning.{operation}
use Rattle.irr_seitz.specs.declared.op.Op.{Op}
use Rattle.irr_seitz.proofs.Orders.{unit_rotation}
use Rattle.irr_close.specs.Whole.{IsWholeVector}
use Rattle.irr_close.specs.Centring.{HasTranslation}
use Rattle.irr_close.specs.StandsFor.{stands_for}
use Rattle.irr_close.specs.declared.group.Group.{Group}
use Rattle.irr_close.proofs.Bareness.{first_of}
use Rattle.irr_close.proofs.CanonicalForm.{centred}
use Rattle.irr_close.proofs.Closure.{null_whole}
use Rattle.irr_close.proofs.Denominators.{small_numerators}
use Rattle.irr_little.proofs.Spaces.{form_of, canonical_at, centrings_of}
use Rattle.irr_star.specs.Sizes.{HasSmallVector}
use Rattle.irr_star.proofs.MemberSizes.{cell_sizes}
use Rattle.irr_full_text.specs.FullText.{AreGeneratorsOf, unit_translations, listed}
use Rattle.irr_full_text.specs.Reading.{ArePrintable}

abbrev pub unit_rows : List (List ℤ)
unit_rows = (pos 1 ∷ pos 0 ∷ pos 0 ∷ []) ∷ (pos 0 ∷ pos 1 ∷ pos 0 ∷ []) ∷ (pos 0 ∷ pos 0 ∷ pos 1 ∷ []) ∷ []

pub translation_is : (num : List ℤ) (den : ℕ) → ◌≡◌ {A = Operation} record
    { rotation = rotation_of unit_rows; vector = vector_of num den }
    (translation (vector_of num den))
unfolding translation
translation_is num den = λ i. record { rotation = unit_rotation i; vector = vector_of num den }

pub lowest_over_one : (num : List ℤ) → AreThreeLowest num 1
lowest_over_one num = record { positive = omega arith; lowest = λ d v each. Nat.dvd_antisymm v (Nat.one-dvd d) }

one_over_one : ratio (pos 1) 1 ≡ rationals.one
one_over_one = ratio_is (integer rationals (pos 1)) (pos 1) 1 (omega arith) (over-integer rationals (pos 1))
    ∙ integer-one rationals

zero_over_one : ratio (pos 0) 1 ≡ rationals.zero
zero_over_one = ratio-zero 1 (omega arith)

component_over_one : (num : List ℤ) (j : Fin 3) → component (vector_of num 1) j ≡ ratio (entry num j) 1
unfolding component vector_of
component_over_one num j = ratios-at num 1 j

unit_vector : (num : List ℤ) (i : Fin 3) → ((j : Fin 3) → ratio (entry num j) 1 ≡ delta rationals j i)
    → vector_of num 1 ≡ column (unit rationals 3) i
unit_vector num i e = vector-ext (vector_of num 1) (column (unit rationals 3) i) (λ j. component_over_one num j ∙ e j
    ∙ sym (component-unit i j))

entries_one : (j : Fin 3) → ratio (entry (pos 1 ∷ pos 0 ∷ pos 0 ∷ []) j) 1 ≡ delta rationals j first
unfolding delta to_nat
entries_one first = one_over_one
entries_one (next first) = zero_over_one
entries_one (next (next first)) = zero_over_one
entries_one (next (next (next x))) = elim x [ ]

entries_two : (j : Fin 3) → ratio (entry (pos 0 ∷ pos 1 ∷ pos 0 ∷ []) j) 1 ≡ delta rationals j (next first)
unfolding delta to_nat
entries_two first = zero_over_one
entries_two (next first) = one_over_one
entries_two (next (next first)) = zero_over_one
entries_two (next (next (next x))) = elim x [ ]

entries_three : (j : Fin 3) → ratio (entry (pos 0 ∷ pos 0 ∷ pos 1 ∷ []) j) 1 ≡ delta rationals j (next (next first))
unfolding delta to_nat
entries_three first = zero_over_one
entries_three (next first) = zero_over_one
entries_three (next (next first)) = one_over_one
entries_three (next (next (next x))) = elim x [ ]

pub units_are : (u v w : Op) → operation u ≡ translation (vector_of (pos 1 ∷ pos 0 ∷ pos 0 ∷ []) 1)
    → operation v ≡ translation (vector_of (pos 0 ∷ pos 1 ∷ pos 0 ∷ []) 1) → operation w
    ≡ translation (vector_of (pos 0 ∷ pos 0 ∷ pos 1 ∷ []) 1)
    → map operation (u ∷ v ∷ w ∷ []) ≡ unit_translations
units_are u v w a b c = λ i. (a ∙ ap translation one) i ∷ (b ∙ ap translation two) i ∷ (c ∙ ap translation three) i ∷ []
  where
    one : vector_of (pos 1 ∷ pos 0 ∷ pos 0 ∷ []) 1 ≡ column (unit rationals 3) first
    one = unit_vector (pos 1 ∷ pos 0 ∷ pos 0 ∷ []) first entries_one

    two : vector_of (pos 0 ∷ pos 1 ∷ pos 0 ∷ []) 1 ≡ column (unit rationals 3) (next first)
    two = unit_vector (pos 0 ∷ pos 1 ∷ pos 0 ∷ []) (next first) entries_two

    three : vector_of (pos 0 ∷ pos 0 ∷ pos 1 ∷ []) 1 ≡ column (unit rationals 3) (next (next first))
    three = unit_vector (pos 0 ∷ pos 0 ∷ pos 1 ∷ []) (next (next first)) entries_three

-- one more item, mapped
pub mapped_step : {A B C : Type 0} (f : A → C) (h : B → C) (old items : List A) (x : A) (xs : List B) (i : ℕ) (y : B)
    → i < length xs → y ≡ get_or xs i y
    → map f items ≡ map f old ++ map h (take i xs) → f x ≡ h y → map f (items ++ x ∷ []) ≡ map f old
    ++ map h (take (i + 1) xs)
mapped_step f h old items x xs i y l is t e = map-append f items (x ∷ []) ∙ ap₂ (λ u c. u ++ c ∷ []) t e
    ∙ append_assoc (map f old) (map h (take i xs)) (h y ∷ [])
    ∙ ap (λ u. map f old ++ u) (ap (λ z. map h (take i xs) ++ h z ∷ []) is
    ∙ sym (map-append h (take i xs) (get_or xs i y ∷ []))
    ∙ ap (map h) (sym (take_more xs i y l)))

pub listed_map : {A B : Type 0} (f : A → B) (xs : List A) (n : ℕ) (ops : Fin n → B) → length xs ≡ n
    → ((i : Fin n) (d : A) → f (get_or xs (to_nat i) d) ≡ ops i)
    → map f xs ≡ listed n ops
unfolding listed to_nat
listed_map f [] zero ops e same = refl
listed_map f [] (suc n) ops e same = absurd (omega (arith, e))
listed_map f (x ∷ xs) zero ops e same = absurd (omega (arith, e))
listed_map f (x ∷ xs) (suc n) ops e same = ap₂ (λ y ys. y ∷ ys) (same first x)
    (listed_map f xs n (λ i. ops (next i)) (omega (arith, e)) (λ i d. same (next i) d))

drop_one : {A B : Type 0} (f : A → B) (xs : List A) → map f (drop 1 xs) ≡ drop 1 (map f xs)
drop_one f [] = refl
drop_one f (x ∷ xs) = refl

unit_whole : (i : Fin 3) → IsWholeVector (column (unit rationals 3) i)
unit_whole i j = subst IsWhole (sym (component-unit i j)) (whole-delta j i)

module _ (group : Group) where
  some_centring : Vec3
  some_centring = first_of group.centrings.items (form_of group).has_centring

  translation_member : (t : Vector) → HasTranslation group.centrings.items t → stands_for group (translation t)
  translation_member t h = ((centrings_of group).translations t).1 (centred group.centrings.items some_centring t h)

  units_members : All (stands_for group) unit_translations
  units_members = All-cons (stands_for group) (unit_at first) (unit_at (next first) ∷ unit_at (next (next first)) ∷ [])
      (unit_member first)
      (All-cons (stands_for group) (unit_at (next first)) (unit_at (next (next first)) ∷ []) (unit_member (next first))
      (All-cons (stands_for group) (unit_at (next (next first))) [] (unit_member (next (next first)))
      (All-nil (stands_for group))))
    where
      unit_at : Fin 3 → Operation
      unit_at i = translation (column (unit rationals 3) i)

      unit_member : (i : Fin 3) → stands_for group (translation (column (unit rationals 3) i))
      unit_member i = translation_member (column (unit rationals 3) i)
          ((form_of group).lattice.whole (column (unit rationals 3) i) (unit_whole i))

  centrings_members : All (λ c. stands_for group (translation (vector c))) group.centrings.items
  centrings_members k d l = translation_member (vector (get_or group.centrings.items k d)) (
    k,
    l,
    λ e. subst IsWholeVector
        (sym (ap (λ (c : Vec3). vector (get_or group.centrings.items k d) ⊖ vector c) (default k e d l)
        ∙ sub_self (vector (get_or group.centrings.items k d)))) null_whole,
  )
    where
      default : (k : ℕ) (e d : Vec3) → k < length group.centrings.items → get_or group.centrings.items k e
          ≡ get_or group.centrings.items k d
      default k e d l = get_or_default group.centrings.items k e d l

  operations_members : All (λ g. stands_for group (operation g)) group.ops.items
  operations_members k d l = (canonical_at group d k l).member

  pub small_operations : All HasSmallVector group.ops.items
  small_operations k d l i =
      let o = get_or group.ops.items k d in
      let s : unsigned_abs (entry o.num i) ≤ 1 * o.den = cell_sizes o (canonical_at group d k l).in_cell i in
      Nat.le_trans s (Nat.mul-le-mul_right o.den (omega arith))

  pub operations_printable : ArePrintable group group.ops.items
  operations_printable k d l = (operations_members k d l, small_operations k d l)

  pub centrings_in_cell : All (λ c. IsInCell (vector c)) (drop 1 group.centrings.items)
  centrings_in_cell = All-drop (λ c. IsInCell (vector c)) 1 group.centrings.items
      (λ k d l. (centrings_of group).in_cell (get_or group.centrings.items k d)
      (k, l, get_or_default group.centrings.items k (get_or group.centrings.items k d) d l))

  module _ (gens more : List Op) (are : map operation gens ≡ unit_translations)
      (added : map operation more ≡ map operation gens ++ map (λ c. translation (vector c))
      (drop 1 group.centrings.items)) where
    all_are : map operation (more ++ drop 1 group.ops.items)
        ≡ unit_translations ++ map (λ c. translation (vector c)) (drop 1 group.centrings.items)
        ++ drop 1 (map operation group.ops.items)
    all_are = map-append operation more (drop 1 group.ops.items)
        ∙ ap₂ (λ s t. s ++ t) (added ∙ ap (λ u. u ++ map (λ c. translation (vector c)) (drop 1 group.centrings.items))
        are) (drop_one operation group.ops.items)

    pub generators_are : (n : ℕ) (ops : Fin n → Operation) → length group.ops.items ≡ n
        → ((i : Fin n) (d : Op) → operation (get_or group.ops.items (to_nat i) d) ≡ ops i)
        → AreGeneratorsOf (stands_for group) ops (map operation (more ++ drop 1 group.ops.items))
    generators_are n ops e same = record {
      centrings = group.centrings.items;
      are_centrings = centrings_of group;
      are = all_are ∙ ap (λ xs. unit_translations ++ map (λ c. translation (vector c)) (drop 1 group.centrings.items)
          ++ drop 1 xs)
          (listed_map operation group.ops.items n ops e same);
    }

    members : All (λ g. stands_for group (operation g)) (more ++ drop 1 group.ops.items)
    members = All-append (λ g. stands_for group (operation g)) more (drop 1 group.ops.items)
        (of_map more (subst (All (stands_for group))
        (sym (added ∙ ap (λ u. u ++ map (λ c. translation (vector c)) (drop 1 group.centrings.items)) are))
        (All-append (stands_for group) unit_translations
        (map (λ c. translation (vector c)) (drop 1 group.centrings.items)) units_members
        (All-map (stands_for group) (λ c. translation (vector c)) (drop 1 group.centrings.items)
        (All-drop (λ c. stands_for group (translation (vector c))) 1 group.centrings.items centrings_members)))))
        (All-drop (λ g. stands_for group (operation g)) 1 group.ops.items operations_members)
      where
        of_map : (xs : List Op) → All (stands_for group) (map operation xs) → All (λ g. stands_for group (operation g))
            xs
        of_map xs all k d l = subst (stands_for group) (get_or-map operation xs k d (operation d) l)
            (all k (operation d) (subst (λ n. k < n) (sym (length-map xs operation)) l))

    pub generators_printable : All HasSmallVector more → ArePrintable group (more ++ drop 1 group.ops.items)
    generators_printable small k d l = (
      members k d l,
      All-append HasSmallVector more (drop 1 group.ops.items) small (All-drop HasSmallVector 1 group.ops.items
          small_operations) k d l,
    )

pub small_translation : (num : List ℤ) (den : ℕ) → 0 < den → IsInCell (vector_of num den) → (i : Fin 3)
    → unsigned_abs (entry num i) ≤ 100000 * den
small_translation num den h cell i = let l : unsigned_abs (entry num i) ≤ den = small_numerators num den h cell i in
    omega (arith, l)

pub small_moved : (g : Op) (v : Vec3) → g.num ≡ v.num → g.den ≡ v.den → IsInCell (vector v) → HasSmallVector g
small_moved g v e f cell i = subst (λ (num : List ℤ). unsigned_abs (entry num i) ≤ 100000 * g.den) (sym e)
    (subst (λ den. unsigned_abs (entry v.num i) ≤ 100000 * den) (sym f)
    (small_translation v.num v.den v.lowest.positive cell i))
