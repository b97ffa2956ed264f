-- The operation that an `Op` stands for.
--   operation g         the operation (R|v)
--   AreWithin b num     three numbers are at most b in absolute value
use Rattle.std.specs.Prelude.{ℕ, ℤ, List, ◌≤◌, unsigned_abs}
use Rattle.irr_algebra.specs.Fin.{Fin}
use Rattle.irr_rational.specs.Ratio.{entry}
use Rattle.irr_space.specs.Operation.{Operation}
use Rattle.irr_rat.specs.VectorMeaning.{vector_of}
use Rattle.irr_seitz.specs.Rotation.{rotation_of}
use Rattle.irr_seitz.specs.declared.op.Op.{Op}

abbrev pub operation : Op → Operation
operation g = record { rotation = rotation_of g.rot; vector = vector_of g.num g.den }

abbrev pub AreWithin : ℕ → List ℤ → Type 0
AreWithin b num = (i : Fin 3) → unsigned_abs (entry num i) ≤ b
