-- No product so far has the rotation.
use Rattle.std.proofs.Common.{◌≡◌, ℕ, ◌<◌}
use Rattle.std.specs.List.{HoldsAt}
use Rattle.irr_seitz.specs.OperationMeaning.{operation}
use Rattle.irr_seitz.specs.Rotation.{rotation_of}
use Rattle.irr_star.proofs.shifts.with_rotation.Given as goal

abbrev pub invariant-loop-product : goal.invariant-loop-product
invariant-loop-product l = (j : ℕ) → j < l.product-index → HoldsAt
    (λ p. ¬ ((operation p.op).rotation ≡ rotation_of l.rot)) l.products j
