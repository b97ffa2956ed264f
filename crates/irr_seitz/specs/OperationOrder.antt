-- The order of operations.
--   IsOperationBelow g h     nine entries row by row, then the vector: g stands lexicographically before h
use Rattle.std.specs.Prelude.{◌≡◌, ◌⊎◌}
use Rattle.irr_rational.specs.Order.{IsBelow}
use Rattle.irr_space.specs.Operation.{Operation, component}
use Rattle.irr_space.specs.CanonicalOperation.{IsRotationBelow}

abbrev pub IsOperationBelow : Operation → Operation → Type 0
IsOperationBelow g h = IsRotationBelow g.rotation h.rotation ⊎ ((g.rotation ≡ h.rotation) × IsBelow (component g.vector) (component h.vector))
