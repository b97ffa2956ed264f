-- What divides each common denominator of the entries.
use Rattle.std.proofs.Common.{ℕ, ◌^◌}
use Rattle.std.specs.Int.{◌∣◌}
use Rattle.irr_algebra.specs.Matrix.{Matrix}
use Rattle.irr_number.specs.Number.{numbers}
use Rattle.irr_mat.specs.Size.{IsWithin}
use Rattle.irr_rep.specs.Defects.{IsMatrix}
use Rattle.irr_rep.proofs.cleared.clearing_matrix.Given as goal

abbrev pub invariant-loop-i : goal.invariant-loop-i
invariant-loop-i g l = (n r d : ℕ) (a : Matrix (numbers n) r r) → IsMatrix n r a l.m → IsWithin n (2 ^ 30) d a → l.number ∣ d → l.common ∣ d

abbrev pub invariant-loop-j : goal.invariant-loop-j
invariant-loop-j g l = (n r d : ℕ) (a : Matrix (numbers n) r r) → IsMatrix n r a l.m → IsWithin n (2 ^ 30) d a → l.number ∣ d → l.common ∣ d
