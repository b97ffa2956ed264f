-- No operation so far has the rotation.
use Rattle.std.proofs.Common.{◌≡◌, ℕ, ◌<◌}
use Rattle.std.specs.List.{HoldsAt}
use Rattle.irr_seitz.specs.OperationMeaning.{operation}
use Rattle.irr_seitz.specs.Rotation.{rotation_of}
use Rattle.irr_close.proofs.closing.place.Given as goal

abbrev pub invariant-loop-k : goal.invariant-loop-k
invariant-loop-k l = (j : ℕ) → j < l.k → HoldsAt (λ g. ¬ ((operation g).rotation ≡ rotation_of l.rot)) l.ops j
