-- Sizes of monomial matrices.
--   within-monomial           an entry is 0 or a power of z
--   powers_fit                sums of a power can be compared with powers of z
use Rattle.std.proofs.Common.{sym, subst, ℕ, ◌≤◌, List, slice_index, arith}
use native.Mathlib.Decide.{ℕ_discrete}
use Rattle.irr_algebra.specs.Fin.{to_nat}
use Rattle.irr_algebra.specs.Matrix.{Matrix}
use Rattle.irr_number.specs.Number.{numbers}
use Rattle.irr_canonical.specs.RootSum.{IsRootSum}
use Rattle.irr_canonical.proofs.RootSums.{IsRootSum-more, IsRootSum-root, IsRootSum-zero}
use Rattle.irr_mat.specs.Size.{IsWithin}
use Rattle.irr_mono.specs.Monomial.{PowersFit, monomial, monomial_entry}
use Rattle.irr_mono.proofs.Entries.{entry-none, entry-power}

entry-within : (N : ℕ) (place exp : List ℕ) (i j : ℕ) → IsRootSum N 1 1 (monomial_entry N place exp i j)
entry-within N place exp i j = elim (ℕ_discrete (slice_index place j) i) [
  | yes e ↦ subst (IsRootSum N 1 1) (sym (entry-power N place exp i j e)) (IsRootSum-root N (slice_index exp j))
  | no n ↦ subst (IsRootSum N 1 1) (sym (entry-none N place exp i j n)) (IsRootSum-more N 1 (omega arith) (IsRootSum-zero N 1 (omega arith)))
]

pub within-monomial : (N n : ℕ) (place exp : List ℕ) → IsWithin N 1 1 (monomial N n place exp)
unfolding monomial
within-monomial N n place exp = record { positive = omega arith; entry = λ i j. entry-within N place exp (to_nat i) (to_nat j) }

pub powers_fit : (N r c : ℕ) (a : Matrix (numbers N) r c) → N ≤ 12000 → IsWithin N 1 1 a → PowersFit N a
powers_fit N r c a le h = record { s = 1; d = 1; within = h; denominators = omega arith; sizes = omega arith }
