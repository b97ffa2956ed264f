-- The power is the next one to look at, and no power before it is the unit.
use Rattle.std.proofs.Common.{◌≡◌, ℕ, ◌<◌}
use Rattle.irr_algebra.specs.Matrix.{unit}
use Rattle.irr_number.specs.Integers.{integers}
use Rattle.irr_theory.specs.Extension.{matrix_power}
use Rattle.irr_seitz.specs.Rotation.{rotation_of}
use Rattle.irr_seitz.proofs.op.Op.finite_order.Given as goal

abbrev pub invariant-loop-n : goal.invariant-loop-n
invariant-loop-n l = record {
  power : rotation_of l.power ≡ matrix_power (rotation_of l.self.rot) l.n;
  none : (k : ℕ) → 0 < k → k < l.n → ¬ (matrix_power (rotation_of l.self.rot) k ≡ unit integers 3);
}
