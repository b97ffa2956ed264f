-- The numbers so far are the same.
use Rattle.std.proofs.Common.{ℕ, ◌≡◌, ◌<◌}
use Rattle.irr_algebra.specs.Fin.{Fin, to_nat}
use Rattle.irr_number.specs.Number.{Number}
use Rattle.irr_char.specs.Rows.{AreFormsOf}
use Rattle.irr_char.proofs.rows.compare_rows.Given as goal

abbrev pub invariant-loop-k : goal.invariant-loop-k
invariant-loop-k l = (n h : ℕ) (f g : Fin h → Number n) → 0 < n → AreFormsOf n f l.xs → AreFormsOf n g l.ys → (i : Fin h) → to_nat i < l.k → f i ≡ g i
