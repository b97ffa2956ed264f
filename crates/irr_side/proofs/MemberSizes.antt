-- The numbers of rows of full representations.
--   few_places      as many arms times places of the little group as canonical operations, at most
--   few_rows        at most 48 rows
use Rattle.std.proofs.Common.{◌≡◌, sym, ◌∙◌, ap, ap₂, subst, refl, ℕ, zero, suc, ◌*◌, ◌<◌, ◌≤◌, inl, inr, length, arith}
use Rattle.std.proofs.lemmas.Bool.{cases_lt}
use native.Mathlib.Nat as Nat
use Rattle.irr_algebra.specs.Fin.{Fin, to_nat}
use Rattle.irr_algebra.specs.Pair.{times, pair}
use Rattle.irr_algebra.specs.Matrix.{◌·◌}
use Rattle.irr_rational.specs.Rational.{rationals}
use Rattle.irr_rational.specs.Integer.{whole_matrix}
use Rattle.irr_algebra.proofs.Indices.{from_nat, to_nat-from_nat, to_nat-lt, to_nat_inj}
use Rattle.irr_algebra.proofs.Pairs.{times-mul}
use Rattle.irr_theory.specs.Representations.{Representations}
use Rattle.irr_space.specs.Operation.{Operation, Rotation, WaveVector, IsInverse, identity, turned, ◌⊙◌}
use Rattle.irr_space.specs.CanonicalOperation.{IsCanonicalOperation}
use Rattle.irr_space.specs.Reciprocal.{AreEquivalent}
use Rattle.irr_space.specs.Star.{IsInLittleGroup}
use Rattle.irr_space.specs.PhaseTable.{phases_at}
use Rattle.irr_space.specs.CompleteList.{IsCompleteList}
use Rattle.irr_seitz.specs.OperationMeaning.{operation}
use Rattle.irr_seitz.specs.PhaseMeaning.{sign_of}
use Rattle.irr_cocycle.specs.SpaceGroupLaws.{IsGroup}
use Rattle.irr_cocycle.proofs.Numberings.{rotation_distinct}
use Rattle.irr_cocycle.proofs.Operations.{op-assoc, rotation-op, turned-identity}
use Rattle.irr_cocycle.proofs.Reciprocals.{equivalent_refl, little_product}
use Rattle.irr_close.specs.Canonical.{numbered}
use Rattle.irr_close.specs.StandsFor.{stands_for}
use Rattle.irr_close.specs.declared.group.Group.{Group}
use Rattle.irr_close.proofs.Pigeons.{pigeons}
use Rattle.irr_close.proofs.SpaceGroups.{space_group}
use Rattle.irr_little.proofs.Spaces.{form_of, has_canonical, numbering_of}
use Rattle.irr_full.specs.Star.{Star, carrier}
use Rattle.irr_full.proofs.Diagonals.{unpair}
use Rattle.irr_full.proofs.StarLaws.{back, back_inverse, carrier_member, same_arm, undone}
use Rattle.irr_climb.proofs.FullRows.{square_few}
use Rattle.irr_mult.proofs.LittleLists.{is_full}
use Rattle.irr_mult.proofs.StarFacts.{some_operation}

-- no injection goes to fewer indices
injected : (a n : ℕ) (f : Fin a → Fin n) → ((i j : Fin a) → f i ≡ f j → i ≡ j) → a ≤ n
injected a n f once = elim (cases_lt n a) [
  | inl l ↦ (
      let in_range : (i : Fin (suc n)) → to_nat i < a = λ i. (let w = to_nat-lt i in omega (arith, w, l)) in
      let t = pigeons n (λ i. f (from_nat a (to_nat i) (in_range i))) in
      absurd (t.different (to_nat_inj t.one t.other (sym (to_nat-from_nat a (to_nat t.one) (in_range t.one))
      ∙ ap to_nat (once (from_nat a (to_nat t.one) (in_range t.one)) (from_nat a (to_nat t.other) (in_range t.other)) t.meet)
      ∙ to_nat-from_nat a (to_nat t.other) (in_range t.other)))))
  | inr l ↦ l
]

same_left : (a x y : Operation) → x.rotation ≡ y.rotation → (a ⊙ x).rotation ≡ (a ⊙ y).rotation
same_left a x y e = rotation-op a x ∙ ap (λ (R : Rotation). a.rotation · R) e ∙ sym (rotation-op a y)

module _ (group : Group) {k : WaveVector} (U : Star (sign_of group.phase) (stands_for group) k) where
  abbrev is_group : IsGroup (stands_for group)
  is_group = (space_group group).is_group

  abbrev product : Fin U.arms → Fin U.places → Operation
  product i p = carrier U i ⊙ U.operation p

  product_member : (i : Fin U.arms) (p : Fin U.places) → stands_for group (product i p)
  product_member i p = is_group.has_product (carrier U i) (U.operation p)
      (carrier_member (stands_for group) is_group (has_canonical group) U i) (U.numbering.member p).member

  -- the number of the canonical operation with its rotation
  numbered_product : (i : Fin U.arms) (p : Fin U.places) → (j : Fin (length group.ops.items))
      × ((numbered group.ops.items (some_operation group) j).rotation ≡ (product i p).rotation)
  numbered_product i p =
      let c = has_canonical group (product i p) (product_member i p) in
      let j = (numbering_of group (some_operation group)).all c.0 c.1 tt in
      (j.0, ap (λ (x : Operation). x.rotation) j.1 ∙ c.2)

  -- operations with one rotation differ by an operation of the little group
  module _ (x y : Operation) (in_x : stands_for group x) (in_y : stands_for group y) (e : x.rotation ≡ y.rotation) where
    inverse : (f : Operation) × stands_for group f × IsInverse x f
    inverse = is_group.has_inverse x in_x

    abbrev between : Operation
    between = inverse.0 ⊙ y

    between_rotation : between.rotation ≡ identity.rotation
    between_rotation = same_left inverse.0 y x (sym e) ∙ ap (λ (z : Operation). z.rotation) inverse.2.left

    kept : turned k between ≡ turned k identity
    unfolding turned
    kept = ap (λ (R : Rotation). k · whole_matrix rationals R) between_rotation

    between_little : IsInLittleGroup (stands_for group) k between
    between_little = record {
      member = is_group.has_product inverse.0 y inverse.1 in_y;
      keeps = subst (λ w. AreEquivalent (stands_for group) w k) (sym (kept ∙ turned-identity k))
          (equivalent_refl (stands_for group) k);
    }

    between_is : x ⊙ between ≡ y
    between_is = undone inverse.0 x y (record { right = inverse.2.left; left = inverse.2.right })

  same_pair : (i j : Fin U.arms) (p q : Fin U.places) → (product i p).rotation ≡ (product j q).rotation
      → pair U.places i p ≡ pair U.places j q
  same_pair i j p q e =
      let G = stands_for group in
      let n = between (product i p) (product j q) (product_member i p) (product_member j q) e in
      let little = between_little (product i p) (product j q) (product_member i p) (product_member j q) e in
      let is = between_is (product i p) (product j q) (product_member i p) (product_member j q) e in
      let arm : i ≡ j = same_arm G is_group (has_canonical group) U i j (U.operation p ⊙ n) (U.operation q)
      (little_product G is_group k (U.operation p) n (U.numbering.member p) little) (U.numbering.member q)
      (sym (op-assoc (carrier U i) (U.operation p) n) ∙ is) in
      ap₂ (pair U.places) arm (same_place arm)
    where
      undo : (i : Fin U.arms) (p : Fin U.places)
          → back (stands_for group) is_group (has_canonical group) U i ⊙ product i p ≡ U.operation p
      undo i p = undone (carrier U i) (back (stands_for group) is_group (has_canonical group) U i) (U.operation p)
          (back_inverse (stands_for group) is_group (has_canonical group) U i)

      same_place : i ≡ j → p ≡ q
      same_place arm = rotation_distinct (stands_for group) (IsInLittleGroup (stands_for group) k) U.operation U.numbering p q
          (ap (λ (x : Operation). x.rotation) (sym (undo i p))
          ∙ same_left (back (stands_for group) is_group (has_canonical group) U i) (product i p) (product i q)
          (e ∙ ap (λ a. (product a q).rotation) (sym arm)) ∙ ap (λ (x : Operation). x.rotation) (undo i q))

  pub few_places : times U.arms U.places ≤ 48
  few_places = Nat.le_trans (injected (times U.arms U.places) (length group.ops.items) number once) (form_of group).few
    where
      at : (x : Fin (times U.arms U.places)) → (i : Fin U.arms) × (p : Fin U.places) × (pair U.places i p ≡ x)
      at = unpair U.arms U.places

      number : Fin (times U.arms U.places) → Fin (length group.ops.items)
      number x = (numbered_product (at x).0 (at x).1).0

      once : (x y : Fin (times U.arms U.places)) → number x ≡ number y → x ≡ y
      once x y e = sym (at x).2 ∙ same_pair (at x).0 (at y).0 (at x).1 (at y).1
          (sym (numbered_product (at x).0 (at x).1).1
          ∙ ap (λ j. (numbered group.ops.items (some_operation group) j).rotation) e
          ∙ (numbered_product (at y).0 (at y).1).1) ∙ (at y).2

  module _ (L : Representations (phases_at U.table)) (complete : IsCompleteList U.table L) where
    pub few_rows : (m : Fin L.count) → times U.arms (L.size m) ≤ 48
    few_rows m =
        let d = L.size m in
        let square : d * d ≤ U.places = square_few L (is_full group U L complete) m in
        let size : d ≤ U.places = Nat.le_trans (le_square d) square in
        subst (λ x. x ≤ 48) (sym (times-mul U.arms d))
        (Nat.le_trans (Nat.mul-le-mul_left U.arms size) (subst (λ x. x ≤ 48) (times-mul U.arms U.places) few_places))
      where
        le_square : (d : ℕ) → d ≤ d * d
        le_square zero = omega arith
        le_square (suc d) = omega arith
