-- Sums of the traces of the blocks of arms.
--   term                the trace of the block of an arm of the list
--   arm_here            the arm at a place, by its number
--   arm_inside          its number is that of an arm
--   trace_is, trace_few its trace, a sum of at most 48 powers of z
--   next_part           one more trace
--   whole_part          all of them
use Rattle.std.proofs.Common.{◌≡◌, sym, ◌∙◌, ap, subst, subst₂, ℕ, ◌+◌, ◌*◌, ◌<◌, ◌≤◌, ◌^◌, List, length, get_or, arith}
use Rattle.irr_algebra.specs.Fin.{Fin, to_nat}
use Rattle.irr_algebra.specs.Matrix.{trace}
use Rattle.irr_algebra.specs.Listed.{sum_below}
use Rattle.irr_algebra.proofs.Indices.{from_nat, to_nat-from_nat, to_nat-lt}
use Rattle.irr_number.specs.Number.{Number, numbers}
use Rattle.irr_canonical.specs.RootSum.{IsRootSum}
use Rattle.irr_canonical.proofs.RootSums.{IsRootSum-add_same, IsRootSum-more}
use Rattle.irr_seitz.specs.OperationMeaning.{operation}
use Rattle.irr_seitz.specs.declared.op.Op.{Op}
use Rattle.irr_cyc.specs.declared.scalars.Scalar.{Ghosts}
use Rattle.irr_mat.proofs.PartialSums.{PartialSum, partial-add}
use Rattle.irr_char.proofs.Traces.{extended, extended-is, sum-extended}
use Rattle.irr_full.specs.Full.{block}
use Rattle.irr_star.specs.declared.full.Full.{Full}
use Rattle.irr_star.proofs.ArmTraces.{one_more}
use Rattle.irr_mult.specs.Listing.{item}
use Rattle.irr_mult.proofs.Listings.{item-get}
use Rattle.irr_side.specs.ArmTraces.{IsArmTrace}
use Rattle.irr_subduce.specs.PartTraces.{PartAt, part_sum}

module _ {X : Type 0} {V : Ghosts X} {M : ℕ} {full : Full X V} {arms : List ℕ} {g : Op} (e : PartAt M full arms g) where
  abbrev pub term : Fin (length arms) → Number M
  term t = trace (block e.size (e.at (operation g)) (e.index t) (e.index t))

  module _ (k : ℕ) (below : k < length arms) where
    arm_here : to_nat (e.index (from_nat (length arms) k below)) ≡ get_or arms k 0
    arm_here = e.is (from_nat (length arms) k below) ∙ item-get arms (from_nat (length arms) k below) 0
        ∙ ap (λ n. get_or arms n 0) (to_nat-from_nat (length arms) k below)

    pub arm_inside : get_or arms k 0 < length full.arms.items
    arm_inside = subst₂ (λ n m. n < m) arm_here (sym e.induced.arms.count) (to_nat-lt (e.index (from_nat (length arms) k below)))

    module _ (x : X) (t : IsArmTrace {V = V} full (get_or arms k 0) (operation g) M x) where
      pub trace_is : V.value M x ≡ term (from_nat (length arms) k below)
      trace_is = (t.trace_at e.group e.wave e.star e.own e.divides e.size e.small e.induced e.member e.at e.is_full
          (e.index (from_nat (length arms) k below)) arm_here).0

      pub trace_few : IsRootSum M 48 1 (V.value M x)
      trace_few = subst (IsRootSum M 48 1) (sym trace_is) (IsRootSum-more M 48 e.few_rows
          (t.trace_at e.group e.wave e.star e.own e.divides e.size e.small e.induced e.member e.at e.is_full
          (e.index (from_nat (length arms) k below)) arm_here).1)

      module _ (s z : X) (order : V.order_of s ≡ M) (order_there : V.order_of z ≡ V.order_of s)
          (sum : V.value (V.order_of s) z ≡ (numbers (V.order_of s)).add (V.value (V.order_of s) s) (V.value (V.order_of s) x)) where
        sum_there : V.value M z ≡ (numbers M).add (V.value M s) (V.value M x)
        sum_there = subst (λ n. V.value n z ≡ (numbers n).add (V.value n s) (V.value n x)) order sum

        pub next_part : PartialSum V.order_of V.value M (extended M term) k s → PartialSum V.order_of V.value M (extended M term) (k + 1) z
        next_part so = partial-add V.order_of V.value M (extended M term) k s z (V.value M x) so (order_there ∙ order) sum_there
            (trace_is ∙ sym (extended-is M term k below))

        pub next_few : IsRootSum M (k * 48) 1 (V.value M s) → IsRootSum M ((k + 1) * 48) 1 (V.value M z)
        next_few few = subst (IsRootSum M ((k + 1) * 48) 1) (sym sum_there)
            (subst (λ n. IsRootSum M n 1 ((numbers M).add (V.value M s) (V.value M x))) (one_more k 48)
            (IsRootSum-add_same M few trace_few))

  pub whole_part : (k : ℕ) → k ≡ length arms → (x : X) → PartialSum V.order_of V.value M (extended M term) k x
      → V.value M x ≡ part_sum e
  unfolding part_sum
  whole_part k done x so = so.is_sum ∙ ap (λ m. sum_below (numbers M) m (extended M term)) done ∙ sum-extended M term
