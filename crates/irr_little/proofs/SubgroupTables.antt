-- The table of a subgroup of a little group, from its lists.
--   IsPlaceOf group P p        P holds for the canonical operation with the number p
--   product_translation        the translation of a product is in the group
--   turns_whole                n k.t is whole for each translation t of the group, where n is a multiple of the order of k
--   closed_places              the listed numbers are few, and have those of products
--   listed_numbering           the operations with listed numbers are a numbering of the subgroup
--   lists_group, lists_inverses, lists_factors    lists of products and exponents are a factor system
--   table_of_lists             and a table with them is that of the subgroup
use Rattle.std.proofs.Common.{◌≡◌, sym, ◌∙◌, ap, subst, subst₂, refl, ℕ, suc, zero, ◌<◌, ◌≤◌, pos, List, length, get_or, slice_index, Contains, arith}
use Rattle.std.specs.List.{HoldsAt}
use Rattle.std.proofs.lemmas.List.{get_or_default}
use Rattle.std.proofs.lemmas.List.Elements.{Contains-get_or}
use Rattle.irr_algebra.specs.Fin.{Fin, to_nat}
use Rattle.irr_algebra.specs.Ring.{whole}
use Rattle.irr_algebra.specs.Matrix.{◌⊖◌}
use Rattle.irr_algebra.proofs.Indices.{from_nat, to_nat-from_nat, to_nat-lt, to_nat_inj}
use Rattle.irr_algebra.proofs.Whole.{whole-mul}
use Rattle.irr_rational.specs.Integer.{integer}
use Rattle.irr_rational.specs.Rational.{Rational, rationals, IsWhole}
use Rattle.irr_rational.proofs.Integers.{integer-pos}
use Rattle.irr_rational.proofs.WholeNumbers.{whole-mul as product_whole, whole-integer}
use Rattle.irr_space.specs.Operation.{Operation, Vector, WaveVector, ◌⊙◌, identity, translation, dot}
use Rattle.irr_space.specs.SpaceGroup.{IsTranslation}
use Rattle.irr_space.specs.Reciprocal.{IsPhase}
use Rattle.irr_space.specs.CanonicalOperation.{IsNumbering, IsNumberedBefore}
use Rattle.irr_space.specs.PhaseTable.{PhaseTable}
use Rattle.irr_seitz.specs.OperationMeaning.{operation}
use Rattle.irr_seitz.specs.PhaseMeaning.{sign_of}
use Rattle.irr_seitz.specs.declared.op.Op.{Op}
use Rattle.irr_cocycle.specs.SpaceGroupLaws.{IsGroup}
use Rattle.irr_cocycle.specs.SubgroupTable.{IsSubgroupAt, IsOrderAt, IsTableAt}
use Rattle.irr_cocycle.proofs.Operations.{op-assoc, op-identity, rotation-translation-op, vector-translation-op, add-sub, dot-times}
use Rattle.irr_cocycle.proofs.Phases.{phase_unique}
use Rattle.irr_cocycle.proofs.PhaseTables.{subgroup_table, subgroup_table-is_table}
use Rattle.irr_cocycle.proofs.Numberings.{rotation_distinct}
use Rattle.irr_rep.specs.Table.{AreEntries, IsListed, HasInverses, IsFactorSystem, entry, IsGroup as ProductGroup}
use Rattle.irr_rep.proofs.Listed.{listed-group, listed-inverses, listed-factors}
use Rattle.irr_close.specs.Canonical.{numbered}
use Rattle.irr_close.specs.StandsFor.{stands_for}
use Rattle.irr_close.specs.declared.group.Group.{Group}
use Rattle.irr_close.proofs.Bareness.{first_of}
use Rattle.irr_close.specs.SpaceGroup.{IsSpaceGroup}
use Rattle.irr_little.specs.Places.{AreListed}
use Rattle.irr_little.specs.Products.{IsProduct}
use Rattle.irr_little.specs.Entries.{AreClosed, IsProductEntry, IsPhaseEntry}
use Rattle.irr_little.specs.Table.{listed_operations}
use Rattle.irr_little.proofs.Spaces.{form_of, at_place, numbering_of, canonical_at, has_canonical}

abbrev pub IsPlaceOf : Group → (Operation → Type 0) → ℕ → Type 0
IsPlaceOf group P p = HoldsAt (λ g. P (operation g)) group.ops.items p

-- g h = (1|t) f in a group: the translation is in it
pub product_translation : (G : Operation → Type 0) → IsGroup G → (g h f : Operation) (t : Vector) → G g → G h → G f → g ⊙ h ≡ translation t ⊙ f
    → IsTranslation G t
product_translation G group g h f t p q r e = let i = group.has_inverse f r in
    subst G (ap (λ x. x ⊙ i.0) e ∙ op-assoc (translation t) f i.0 ∙ ap (λ x. translation t ⊙ x) i.2.right ∙ op-identity (translation t))
    (group.has_product (g ⊙ h) i.0 (group.has_product g h p q) i.1)

-- the order of k times k.t is whole
pub turns_whole : (G : Operation → Type 0) (k : WaveVector) (n : ℕ) → IsOrderAt G k n → (t : Vector) → IsTranslation G t → IsWhole (rationals.mul
    (integer rationals (pos n)) (dot k t))
turns_whole G k n order t m = subst IsWhole (regroup (whole rationals order.exponent) (whole rationals order.multiple) (dot k t)
    ∙ ap (λ x. rationals.mul x (dot k t)) (sym (whole-mul rationals order.exponent order.multiple) ∙ ap (whole rationals) (sym order.is_product) ∙ sym
    (integer-pos rationals n)))
    (product_whole (whole rationals order.exponent) (rationals.mul (whole rationals order.multiple) (dot k t))
    (subst IsWhole (integer-pos rationals order.exponent) (whole-integer (pos order.exponent)))
    (subst IsWhole (dot-times order.multiple k t) (order.reciprocal.is_whole t m)))
  where
    regroup : (e q d : Rational) → rationals.mul e (rationals.mul q d) ≡ rationals.mul (rationals.mul e q) d
    regroup e q d = sym (rationals.mul_assoc e q d)

-- products with one translation and one operation are one
one_rotation : (s t : Vector) (f h : Operation) → translation s ⊙ f ≡ translation t ⊙ h → f.rotation ≡ h.rotation
one_rotation s t f h e = sym (rotation-translation-op s f) ∙ ap (λ (x : Operation). x.rotation) e ∙ rotation-translation-op t h

one_translation : (s t : Vector) (f : Operation) → translation s ⊙ f ≡ translation t ⊙ f → s ≡ t
one_translation s t f e = sym (add-sub s f.vector) ∙ ap (λ v. v ⊖ f.vector) (sym (vector-translation-op s f) ∙ ap (λ (x : Operation). x.vector) e
    ∙ vector-translation-op t f) ∙ add-sub t f.vector

-- an increasing list of numbers below n is not longer than n
increasing_above : (xs : List ℕ) → ((a b : ℕ) → a < b → b < length xs → slice_index xs a < slice_index xs b) → (a : ℕ) → a < length xs
    → a ≤ slice_index xs a
increasing_above xs rising zero l = omega arith
increasing_above xs rising (suc a) l =
    let h : a ≤ slice_index xs a = increasing_above xs rising a (omega arith) in
    let r : slice_index xs a < slice_index xs (suc a) = rising a (suc a) (omega arith) l in
    omega arith

few_listed : (P : ℕ → Type 0) (n : ℕ) (xs : List ℕ) → AreListed P n xs → length xs ≤ n
few_listed P n xs so = at (length xs) refl
  where
    at : (h : ℕ) → length xs ≡ h → length xs ≤ n
    at zero e = omega arith
    at (suc h) e =
        let l : h < length xs = omega arith in
        let a : h ≤ slice_index xs h = increasing_above xs so.increasing h l in
        let b : slice_index xs h < n = so.below (slice_index xs h) (Contains-get_or xs h 0 l) in
        omega arith

module _ (group : Group) (space : IsSpaceGroup group) (k : WaveVector) (P : Operation → Type 0) (inside : IsSubgroupAt (stands_for group) k P) (xs : List ℕ)
    (places : AreListed (IsPlaceOf group P) (length group.ops.items) xs) where
  abbrev G : Operation → Type 0
  G = stands_for group

  member_at : (d : Op) (p : ℕ) → Contains xs p → P (operation (get_or group.ops.items p d))
  member_at d p c = places.holds p c d

  pub closed_places : AreClosed group xs
  closed_places = record {
    few = (let a : length xs ≤ length group.ops.items = few_listed (IsPlaceOf group P) (length group.ops.items) xs places in
        let b : length group.ops.items ≤ 48 = (form_of group).few in omega arith);
    below = places.below;
    products = λ i j l t p q e. places.all l e.below (λ f.
        (inside.rotation (operation (get_or group.ops.items i f) ⊙ operation (get_or group.ops.items j f)) (operation
        (get_or group.ops.items l f))
        (inside.product (operation (get_or group.ops.items i f)) (operation (get_or group.ops.items j f)) (member_at f i p)
        (member_at f j q))
        (canonical_at group f l e.below).member
        (sym (rotation-translation-op t (operation (get_or group.ops.items l f))) ∙ ap (λ (x : Operation). x.rotation) (sym (e.is f)))));
  }

  module _ (h : ℕ) (count : h ≡ length xs) (d : Op) where
    within : (i : Fin h) → to_nat i < length xs
    within i = let l : to_nat i < h = to_nat-lt i in omega arith

    -- the number at a position
    number_in : (i : Fin h) → Contains xs (slice_index xs (to_nat i))
    number_in i = Contains-get_or xs (to_nat i) 0 (within i)

    within_group : (i : Fin h) → slice_index xs (to_nat i) < length group.ops.items
    within_group i = places.below (slice_index xs (to_nat i)) (number_in i)

    place : Fin h → Fin (length group.ops.items)
    place i = from_nat (length group.ops.items) (slice_index xs (to_nat i)) (within_group i)

    place-number : (i : Fin h) → to_nat (place i) ≡ slice_index xs (to_nat i)
    unfolding place
    place-number i = to_nat-from_nat (length group.ops.items) (slice_index xs (to_nat i)) (within_group i)

    place-operation : (i : Fin h) → numbered group.ops.items d (place i) ≡ listed_operations group h xs d i
    place-operation i = ap (λ n. operation (get_or group.ops.items n d)) (place-number i)

    found : (g : Operation) → P g → (p : Fin (length group.ops.items)) × (numbered group.ops.items d p ≡ g)
        → (i : Fin h) × (listed_operations group h xs d i ≡ g)
    found g m t = at (places.all (to_nat t.0) (to_nat-lt t.0) (λ f.
        subst (λ (x : Op). P (operation x)) (get_or_default group.ops.items (to_nat t.0) d f (to_nat-lt t.0)) (subst P (sym t.1) m)))
      where
        at : Contains xs (to_nat t.0) → (i : Fin h) × (listed_operations group h xs d i ≡ g)
        at c =
            let l : c.0 < h = (let b : c.0 < length xs = c.1 in omega arith) in (
              from_nat h c.0 l,
              ap (λ n. operation (get_or group.ops.items (slice_index xs n) d)) (to_nat-from_nat h c.0 l)
                  ∙ ap (λ n. operation (get_or group.ops.items n d)) (get_or_default xs c.0 0 (to_nat t.0) c.1 ∙ c.2) ∙ t.1,
            )

    pub listed_numbering : IsNumbering G P (listed_operations group h xs d)
    listed_numbering = record {
      canonical = λ i. canonical_at group d (slice_index xs (to_nat i)) (within_group i);
      member = λ i. member_at d (slice_index xs (to_nat i)) (number_in i);
      all = λ g c m. found g m ((numbering_of group d).all g c tt);
      ordered = λ i j l. subst₂ (λ (f g : Operation). IsNumberedBefore f.rotation g.rotation) (place-operation i) (place-operation j)
          ((numbering_of group d).ordered (place i) (place j) (subst₂ (λ a b. a < b) (sym (place-number i)) (sym (place-number j))
          (places.increasing (to_nat i) (to_nat j) l (within j))));
    }

    -- the table that the theory gives, and its products and exponents
    module _ (n : ℕ) (order : IsOrderAt G k n) where
      abbrev theory : PhaseTable h
      theory = subgroup_table G P space.is_group (has_canonical group) (sign_of group.phase) k inside (listed_operations group h xs d) listed_numbering n order

      theory_is : IsTableAt (sign_of group.phase) G k n (listed_operations group h xs d) theory
      theory_is = subgroup_table-is_table G P space.is_group (has_canonical group) (sign_of group.phase) k inside (listed_operations group h xs d)
          listed_numbering n order

      same_place : (i j : Fin h) (x : ℕ) (t : Vector) → x < h → IsProduct group (slice_index xs (to_nat i)) (slice_index xs (to_nat j))
          (slice_index xs x) t
          → to_nat (theory.product i j) ≡ x
      same_place i j x t l p = ap to_nat (rotation_distinct G P (listed_operations group h xs d) listed_numbering
          (theory.product i j) (from_nat h x l)
          (one_rotation (theory_is.quotient i j) t (listed_operations group h xs d (theory.product i j)) (operation (get_or group.ops.items
          (slice_index xs x) d))
          (sym (theory_is.products i j) ∙ p.is d)
          ∙ ap (λ m. (operation (get_or group.ops.items (slice_index xs m) d)).rotation) (sym (to_nat-from_nat h x l)))) ∙ to_nat-from_nat h x l

      same_phase : (i j : Fin h) (l : ℕ) (t : Vector) (x : ℕ) → IsProduct group (slice_index xs (to_nat i)) (slice_index xs (to_nat j)) l t
          → IsPhase (sign_of group.phase) n k t x → theory.exponent i j ≡ x
      same_phase i j l t x p phase = phase_unique (sign_of group.phase) n k t (theory.exponent i j) x
          (subst (λ v. IsPhase (sign_of group.phase) n k v (theory.exponent i j)) same_shift
          (theory_is.phases i j)) phase
        where
          f : Operation
          f = operation (get_or group.ops.items l d)

          both : translation (theory_is.quotient i j) ⊙ listed_operations group h xs d (theory.product i j) ≡ translation t ⊙ operation
              (get_or group.ops.items l d)
          both = sym (theory_is.products i j) ∙ p.is d

          same_operation : listed_operations group h xs d (theory.product i j) ≡ operation (get_or group.ops.items l d)
          same_operation = sym (place-operation (theory.product i j))
              ∙ ap (numbered group.ops.items d) (rotation_distinct G (λ _. Unit {0}) (numbered group.ops.items d) (numbering_of group d) (place
              (theory.product i j))
              (from_nat (length group.ops.items) l p.below)
              (ap (λ (x : Operation). x.rotation) (place-operation (theory.product i j))
              ∙ one_rotation (theory_is.quotient i j) t (listed_operations group h xs d (theory.product i j)) (operation
              (get_or group.ops.items l d)) both
              ∙ ap (λ (x : Operation). x.rotation) (sym (at_place group d l p.below))))
              ∙ at_place group d l p.below

          same_shift : theory_is.quotient i j ≡ t
          same_shift = one_translation (theory_is.quotient i j) t (operation (get_or group.ops.items l d))
              (ap (λ x. translation (theory_is.quotient i j) ⊙ x) (sym same_operation) ∙ both)

      pub listed_theory : (products exponents : List ℕ) → AreEntries (length xs) (IsProductEntry group xs) products
          → AreEntries (length xs) (IsPhaseEntry group k n xs) exponents → IsListed theory n products exponents
      listed_theory products exponents ps es = record {
        same_order = theory_is.same_order;
        product-entry = λ i j. let e = ps (to_nat i) (to_nat j) (within i) (within j) in
            same_place i j (entry (length xs) products (to_nat i) (to_nat j)) e.1.0 (let l : entry (length xs) products (to_nat i)
            (to_nat j) < length xs = e.0 in omega arith) e.1.1
            ∙ ap (λ m. entry m products (to_nat i) (to_nat j)) (sym count);
        exponent-entry = λ i j. let e = es (to_nat i) (to_nat j) (within i) (within j) in
            same_phase i j e.0 e.1 (entry (length xs) exponents (to_nat i) (to_nat j)) e.2 e.3
            ∙ ap (λ m. entry m exponents (to_nat i) (to_nat j)) (sym count);
      }

-- a table with such lists is that of the subgroup
pub table_of_lists : (group : Group) (space : IsSpaceGroup group) (k : WaveVector) (P : Operation → Type 0) (inside : IsSubgroupAt (stands_for group) k P)
    (xs : List ℕ) (places : AreListed (IsPlaceOf group P) (length group.ops.items) xs) (h : ℕ) → h ≡ length xs → (n : ℕ) → IsOrderAt (stands_for group) k n
    → (products exponents : List ℕ) → AreEntries (length xs) (IsProductEntry group xs) products → AreEntries (length xs) (IsPhaseEntry group k n xs) exponents
    → (U : PhaseTable h) → IsListed U n products exponents → (d : Op) → IsTableAt (sign_of group.phase) (stands_for group) k n (listed_operations group h xs d) U
table_of_lists group space k P inside xs places h count n order products exponents ps es U listed d = record {
  same_order = listed.same_order;
  quotient = is.quotient;
  is_translation = is.is_translation;
  products = λ i j. is.products i j ∙ ap (λ p. translation (is.quotient i j) ⊙ listed_operations group h xs d p)
      (to_nat_inj (T.product i j) (U.product i j) (own.product-entry i j ∙ sym (listed.product-entry i j)));
  phases = λ i j. subst (λ x. IsPhase (sign_of group.phase) n k (is.quotient i j) x) (own.exponent-entry i j ∙ sym (listed.exponent-entry i j)) (is.phases i j);
}
  where
    T : PhaseTable h
    T = theory group space k P inside xs places h count d n order

    is : IsTableAt (sign_of group.phase) (stands_for group) k n (listed_operations group h xs d) T
    is = theory_is group space k P inside xs places h count d n order

    own : IsListed T n products exponents
    own = listed_theory group space k P inside xs places h count d n order products exponents ps es

module _ (group : Group) (space : IsSpaceGroup group) (k : WaveVector) (P : Operation → Type 0) (inside : IsSubgroupAt (stands_for group) k P) (xs : List ℕ)
    (places : AreListed (IsPlaceOf group P) (length group.ops.items) xs) (h : ℕ)
    (count : h ≡ length xs) (n : ℕ) (order : IsOrderAt (stands_for group) k n)
    (products exponents : List ℕ) (ps : AreEntries (length xs) (IsProductEntry group xs) products) (es : AreEntries (length xs)
    (IsPhaseEntry group k n xs) exponents) where
  d : Op
  d = first_of group.ops.items (form_of group).nonempty

  pub lists_group : ProductGroup h (entry h products)
  lists_group = listed-group (theory group space k P inside xs places h count d n order) n products exponents
      (listed_theory group space k P inside xs places h count d n order products exponents ps es)

  pub lists_inverses : HasInverses h (entry h products)
  lists_inverses = listed-inverses (theory group space k P inside xs places h count d n order) n products exponents
      (listed_theory group space k P inside xs places h count d n order products exponents ps es)

  pub lists_factors : IsFactorSystem n h (entry h products) (entry h exponents)
  lists_factors = listed-factors (theory group space k P inside xs places h count d n order) n products exponents
      (listed_theory group space k P inside xs places h count d n order products exponents ps es)

-- a subgroup has the identity
pub some_place : (group : Group) → IsSpaceGroup group → (k : WaveVector) (P : Operation → Type 0) → IsSubgroupAt (stands_for group) k P → (xs : List ℕ)
    → AreListed (IsPlaceOf group P) (length group.ops.items) xs → 0 < length xs
some_place group space k P inside xs places = at (first_place (listed_numbering group space k P inside xs places (length xs) refl (first_of group.ops.items
    (form_of group).nonempty)))
  where
    first_place : IsNumbering (stands_for group) P (listed_operations group (length xs) xs
        (first_of group.ops.items (form_of group).nonempty)) → Fin (length xs)
    first_place numbering = let c = has_canonical group identity space.is_group.has_identity in
        (numbering.all c.0 c.1 (inside.rotation identity c.0 inside.identity c.1.member c.2)).0

    at : Fin (length xs) → 0 < length xs
    at i = let l : to_nat i < length xs = to_nat-lt i in omega arith
