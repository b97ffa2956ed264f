-- The traces of the diagonal blocks, and their sum.
--   moved_trace, kept_trace       the trace of the block of an arm that an operation moves, and of one that it keeps
--   few_kept, few_none            sums of as many powers of z as the small representation has rows
--   arm_trace                     the trace of the block of an arm, by the number of the arm
--   sum_room, one_more            sizes of the sum so far
use Rattle.std.proofs.Common.{◌≡◌, sym, ◌∙◌, ap, subst, ℕ, ◌+◌, ◌*◌, ◌<◌, ◌≤◌, ◌^◌, arith}
use Rattle.std.specs.Int.{◌∣◌}
use native.Mathlib.Nat as Nat
use Rattle.irr_algebra.specs.Ring.{Ring}
use Rattle.irr_algebra.specs.Fin.{Fin, to_nat}
use Rattle.irr_algebra.specs.Matrix.{Matrix, null, trace}
use Rattle.irr_algebra.specs.Pair.{times}
use Rattle.irr_algebra.specs.Listed.{sum_below}
use Rattle.irr_algebra.proofs.Matrices.{trace-scale}
use Rattle.irr_algebra.proofs.Sums.{sum-zero}
use Rattle.irr_number.specs.Number.{Number, numbers, root_power}
use Rattle.irr_canonical.specs.RootSum.{IsRootSum}
use Rattle.irr_canonical.proofs.RootSums.{IsRootSum-more, IsRootSum-mul, IsRootSum-root, IsRootSum-zero}
use Rattle.irr_theory.specs.FactorSystem.{Representation}
use Rattle.irr_space.specs.Operation.{Operation, WaveVector}
use Rattle.irr_space.specs.PhaseTable.{phases_over}
use Rattle.irr_seitz.specs.PhaseMeaning.{sign_of}
use Rattle.irr_rep.proofs.TraceRoots.{trace-IsRootSum}
use Rattle.irr_close.specs.StandsFor.{stands_for}
use Rattle.irr_close.specs.declared.group.Group.{Group}
use Rattle.irr_close.proofs.SpaceGroups.{space_group}
use Rattle.irr_little.proofs.Spaces.{has_canonical}
use Rattle.irr_full.specs.Star.{Star}
use Rattle.irr_full.specs.Full.{IsFullOf, block}
use Rattle.irr_star.specs.declared.lists.Block.{Block}
use Rattle.irr_star.specs.Blocks.{IsBlockAt}
use Rattle.irr_star.proofs.BlockLaws.{block_else, block_here, numbered_at, numbered_at-is, sum_by_number}
use Rattle.irr_star.proofs.BlockLaws.{trace_of_blocks}

trace-null : (R : Ring) (d : ℕ) → trace (null {R = R} {m = d} {n = d}) ≡ R.zero
unfolding trace null
trace-null R d = sum-zero R d

-- arms of at most 48, of at most 48 rows
pub sum_room : (a d M : ℕ) → a ≤ 48 → d ≤ 48 → M ≤ 12000 → a * d * M * 1 < 2 ^ 110
sum_room a d M few small limited =
    let e : a * d * M * 1 ≤ 48 * 48 * 12000 * 1 = Nat.mul-le-mul_right 1
    (Nat.mul-le-mul (Nat.mul-le-mul few small) limited) in
    let l : 48 * 48 * 12000 * 1 < 2 ^ 110 = omega arith in
    Nat.lt_of_le_of_lt e l

pub one_more : (a d : ℕ) → a * d + d ≡ (a + 1) * d
one_more a d = sym (Nat.add-mul a 1 d ∙ ap (λ n. a * d + n) (Nat.one-mul d))

pub few_none : (M d : ℕ) (x : Number M) → x ≡ (numbers M).zero → IsRootSum M d 1 x
few_none M d x e = subst (IsRootSum M d 1) (sym e) (IsRootSum-more M d (omega arith) (IsRootSum-zero M 1 (omega arith)))

module _ (group : Group) {k : WaveVector} (S : Star (sign_of group.phase) (stands_for group) k) (M : ℕ)
    (positive : 0 < M)
    (v : S.table.order ∣ M) {d : ℕ} (D : Representation (phases_over S.table M v) d) (g : Operation)
    (in_g : stands_for group g) where
  module _ (i : Fin S.arms) (b : Block) (at : IsBlockAt S M g i b) where
    pub few_kept : IsRootSum M d 1 ((numbers M).mul (root_power M b.exponent) (trace (D.at at.inner)))
    few_kept = subst (λ n. IsRootSum M n 1 ((numbers M).mul (root_power M b.exponent) (trace (D.at at.inner))))
        (Nat.one-mul d)
        (IsRootSum-mul M (IsRootSum-root M b.exponent) (trace-IsRootSum M positive S.table v D at.inner))

    module _ (A : Operation → Matrix (numbers M) (times S.arms d) (times S.arms d)) (of : IsFullOf S M v D A) where
      pub moved_trace : (b.row ≡ to_nat i → ⊥) → trace (block d (A g) i i) ≡ (numbers M).zero
      moved_trace other = ap trace (block_else (stands_for group) (space_group group).is_group
          (has_canonical group) S M v D A of g in_g i b at i
          (λ e. other (sym at.row-number ∙ ap to_nat (sym e)))) ∙ trace-null (numbers M) d

      pub kept_trace : at.to ≡ i → trace (block d (A g) i i) ≡ (numbers M).mul (root_power M b.exponent)
          (trace (D.at at.inner))
      kept_trace e = ap (λ j. trace (block d (A g) j i)) (sym e)
          ∙ ap trace (block_here (stands_for group) (space_group group).is_group
          (has_canonical group) S M v D A of g in_g i b at)
          ∙ trace-scale (numbers M) (root_power M b.exponent) (D.at at.inner)

-- by the number of the arm, 0 past the end
abbrev pub arm_trace : (M a d : ℕ) → Matrix (numbers M) (times a d) (times a d) → ℕ → Number M
arm_trace M a d m = numbered_at a (λ i. trace (block d m i i)) (numbers M).zero

pub arm_trace-is : (M a d : ℕ) (m : Matrix (numbers M) (times a d) (times a d)) (i : Fin a) (n : ℕ) → to_nat i ≡ n
    → trace (block d m i i) ≡ arm_trace M a d m n
arm_trace-is M a d m i n e = sym (numbered_at-is (λ j. trace (block d m j j)) (numbers M).zero i)
    ∙ ap (numbered_at a (λ j. trace (block d m j j)) (numbers M).zero) e

pub arm_traces : (M a d : ℕ) (m : Matrix (numbers M) (times a d) (times a d)) → sum_below (numbers M) a
    (arm_trace M a d m) ≡ trace m
arm_traces M a d m = sum_by_number (numbers M) a (λ i. trace (block d m i i)) (numbers M).zero ∙ sym
    (trace_of_blocks a d m)
