-- The rows of a full representation at some operations, from those that the program makes.
--   member_at              the operations are in the group
--   arms_here, arms_small  the rows of the traces of the blocks of the arms
--   target_here            the arms to which the operations take one
use Rattle.std.proofs.Common.{◌≡◌, sym, ◌∙◌, ap, subst, refl, ℕ, ◌<◌, ◌≤◌, List, [], length, get_or, Vec, Global}
use Rattle.std.specs.Int.{◌∣◌}
use Rattle.std.proofs.lemmas.List.{get_or-map}
use Rattle.irr_algebra.specs.Fin.{Fin, to_nat}
use Rattle.irr_algebra.specs.Matrix.{Matrix, trace}
use Rattle.irr_algebra.specs.Pair.{times}
use Rattle.irr_algebra.proofs.Indices.{from_nat, to_nat-from_nat, to_nat-lt}
use Rattle.irr_number.specs.Number.{numbers}
use Rattle.irr_canonical.specs.RootSum.{IsRootSum}
use Rattle.irr_canonical.proofs.RootSums.{IsRootSum-more}
use Rattle.irr_theory.specs.FactorSystem.{Representation}
use Rattle.irr_space.specs.Operation.{Operation, WaveVector}
use Rattle.irr_space.specs.CompleteList.{over}
use Rattle.irr_space.specs.PhaseTable.{phases_at}
use Rattle.irr_seitz.specs.OperationMeaning.{operation}
use Rattle.irr_seitz.specs.PhaseMeaning.{sign_of}
use Rattle.irr_seitz.specs.declared.op.Op.{Op}
use Rattle.irr_cyc.specs.declared.scalars.Scalar.{Ghosts}
use Rattle.irr_close.specs.StandsFor.{stands_for}
use Rattle.irr_close.specs.declared.group.Group.{Group}
use Rattle.irr_char.specs.Characters.{IsRowOf}
use Rattle.irr_full.specs.Star.{Star}
use Rattle.irr_full.specs.Full.{IsFullOf, block}
use Rattle.irr_star.specs.Induced.{IsInduced}
use Rattle.irr_star.specs.declared.full.Full.{Full}
use Rattle.irr_mult.specs.Traced.{traces_at}
use Rattle.irr_mult.proofs.StarFacts.{some_operation}
use Rattle.irr_side.specs.ArmTraces.{AreArmRows, AreMembers, IsArmTrace}
use Rattle.irr_product.proofs.RowItems.{row_of_each}
use Rattle.irr_side.proofs.SideLists.{some_item}
use Rattle.irr_power.specs.Places.{IsTaken}
use Rattle.irr_power.specs.Targets.{AreTargetRows, IsTarget}

module _ {X : Type 0} {V : Ghosts X} (group : Group) {k : WaveVector} (U : Star (sign_of group.phase) (stands_for group) k)
    (full : Full X V) {d : ℕ} (D : Representation (phases_at U.table) d) (own : U.table.order ∣ U.table.order)
    (induced : IsInduced group U U.table.order own (over U.table U.table.order own D) full)
    (h : ℕ) (g : Fin h → Operation) (ops : List Op) (count : length ops ≡ h) (members : AreMembers group ops)
    (at : (p : Fin h) (o : Op) → operation (get_or ops (to_nat p) o) ≡ g p) where
  inside : (p : Fin h) → to_nat p < length ops
  inside p = subst (λ n. to_nat p < n) (sym count) (to_nat-lt p)

  pub member_at : (p : Fin h) → stands_for group (g p)
  member_at p = subst (stands_for group) (at p (some_operation group)) (members (to_nat p) (some_operation group) (inside p)).0

  arm_inside : (i : Fin U.arms) → to_nat i < length full.arms.items
  arm_inside i = subst (λ n. to_nat i < n) (sym induced.arms.count) (to_nat-lt i)

  module _ (M : ℕ) (u : U.table.order ∣ M) (few : d ≤ 48) (F : Operation → Matrix (numbers M) (times U.arms d) (times U.arms d))
      (full_F : IsFullOf U M u (over U.table M u D) F) (rows : List (Vec X Global)) (made : AreArmRows {V = V} full ops M rows) where
    pub row_count : length rows ≡ U.arms
    row_count = made.count ∙ induced.arms.count

    module _ (i : Fin U.arms) where
      here : to_nat i < length rows
      here = subst (λ n. to_nat i < n) (sym made.count) (arm_inside i)

      one : Vec X Global
      one = some_item rows (to_nat i) here

      abbrev row : List X
      row = (get_or rows (to_nat i) one).items

      is_row : traces_at rows (to_nat i) ≡ row
      is_row = get_or-map (λ (v : Vec X Global). v.items) rows (to_nat i) one [] here

      own_count : length row ≡ h
      own_count = (made.each (to_nat i) one (arm_inside i)).count ∙ count

      module _ (p : Fin h) where
        trace_here : (x : X) → (V.order_of (get_or row (to_nat p) x) ≡ M)
            × (V.value M (get_or row (to_nat p) x) ≡ trace (block d (F (g p)) i i)) × IsRootSum M 48 1 (trace (block d (F (g p)) i i))
        trace_here x =
            let r : IsArmTrace {V = V} full (to_nat i) (g p) M (get_or row (to_nat p) x) =
            subst (λ o. IsArmTrace {V = V} full (to_nat i) o M (get_or row (to_nat p) x)) (at p (some_operation group))
            ((made.each (to_nat i) one (arm_inside i)).each (to_nat p) x (inside p) (some_operation group)) in
            let t = r.trace_at group k U own u d D induced (member_at p) F full_F i refl in
            (r.order, t.0, IsRootSum-more M 48 few t.1)

        pub arms_small : IsRootSum M 48 1 (trace (block d (F (g p)) i i))
        arms_small = (trace_here (some_item row (to_nat p) (subst (λ n. to_nat p < n) (sym own_count) (to_nat-lt p)))).2

      pub arms_here : IsRowOf V.order_of V.value M (λ p. trace (block d (F (g p)) i i)) (traces_at rows (to_nat i))
      arms_here = subst (IsRowOf V.order_of V.value M (λ p. trace (block d (F (g p)) i i))) (sym is_row)
          (row_of_each V.order_of V.value M h (λ p. trace (block d (F (g p)) i i)) row own_count
          (λ n x l. subst (λ j. V.order_of (get_or row j x) ≡ M) (to_nat-from_nat h n l) (trace_here (from_nat h n l) x).0)
          (λ n x l p e. subst (λ j. V.value M (get_or row j x) ≡ trace (block d (F (g p)) i i)) e (trace_here p x).1))

  module _ (rows : List (Vec ℕ Global)) (made : AreTargetRows {V = V} full ops rows) where
    pub target_count : length rows ≡ U.arms
    target_count = made.count ∙ induced.arms.count

    module _ (i : Fin U.arms) where
      listed : to_nat i < length rows
      listed = subst (λ n. to_nat i < n) (sym made.count) (arm_inside i)

      some_row : Vec ℕ Global
      some_row = some_item rows (to_nat i) listed

      is_target_row : traces_at rows (to_nat i) ≡ (get_or rows (to_nat i) some_row).items
      is_target_row = get_or-map (λ (v : Vec ℕ Global). v.items) rows (to_nat i) some_row [] listed

      pub target_places : length (traces_at rows (to_nat i)) ≡ h
      target_places = ap length is_target_row ∙ (made.each (to_nat i) some_row (arm_inside i)).count ∙ count

      pub target_here : (p : Fin h) (n : ℕ)
          → (j : Fin U.arms) × (to_nat j ≡ get_or (traces_at rows (to_nat i)) (to_nat p) n) × IsTaken U (g p) i j
      target_here p n = (subst (λ xs. IsTarget {V = V} full (to_nat i) (g p) (get_or xs (to_nat p) n)) (sym is_target_row)
          (subst (λ o. IsTarget {V = V} full (to_nat i) o (get_or (get_or rows (to_nat i) some_row).items (to_nat p) n))
          (at p (some_operation group))
          ((made.each (to_nat i) some_row (arm_inside i)).each (to_nat p) n (inside p) (some_operation group)))).target
          group k U U.table.order own d (over U.table U.table.order own D) induced i refl
