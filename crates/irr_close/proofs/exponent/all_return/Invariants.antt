-- The rotations so far return.
use Rattle.std.proofs.Common.{◌≡◌, ℕ, ◌<◌}
use Rattle.std.specs.List.{HoldsAt}
use Rattle.irr_algebra.specs.Matrix.{unit}
use Rattle.irr_number.specs.Integers.{integers}
use Rattle.irr_theory.specs.Extension.{matrix_power}
use Rattle.irr_seitz.specs.OperationMeaning.{operation}
use Rattle.irr_close.proofs.exponent.all_return.Given as goal

abbrev pub invariant-loop-op : goal.invariant-loop-op
invariant-loop-op l = (j : ℕ) → j < l.op-index → HoldsAt (λ g. matrix_power (operation g).rotation l.n ≡ unit integers 3) l.ops j
