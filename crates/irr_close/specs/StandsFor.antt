-- What a group stands for, and when generators are refused.
--   stands_for group g     g is an operation of the group
--   IsSameGroup a b        the operations, the translations and the sign of the phase are the same
--   IsRefusal gs e         the first limit that the generators pass; want of memory says nothing of them
use Rattle.std.specs.Prelude.{◌≡◌, List}
use Rattle.irr_space.specs.Operation.{Operation}
use Rattle.irr_seitz.specs.declared.op.Op.{Op}
use Rattle.irr_close.specs.Limits.{operations, HasFewRotations, HasSmallDenominator, HasFewCentrings}
use Rattle.irr_close.specs.Standing.{StandFor}
use Rattle.irr_close.specs.declared.CloseError.{CloseError}
use Rattle.irr_close.specs.declared.CloseError.TheVariants.{Rotations, Denominator, Centrings, Memory}
use Rattle.irr_close.specs.declared.group.Group.{Group}

unfoldable pub stands_for : Group → Operation → Type 0
stands_for group = StandFor group.ops.items group.centrings.items

pub record IsSameGroup (a b : Group) : Type 0 where
  pub ops : b.ops.items ≡ a.ops.items
  pub centrings : b.centrings.items ≡ a.centrings.items
  pub phase : b.phase ≡ a.phase

abbrev pub IsRefusal : List Op → CloseError → Type 0
IsRefusal gs Rotations = ¬ (HasFewRotations (operations gs))
IsRefusal gs Denominator = HasFewRotations (operations gs) × ¬ (HasSmallDenominator gs)
IsRefusal gs Centrings = HasFewRotations (operations gs) × HasSmallDenominator gs × ¬ (HasFewCentrings (operations gs))
IsRefusal gs Memory = Unit {0}

-- the generators pass no limit
pub record IsAccepted (gs : List Op) : Type 0 where
  pub rotations : HasFewRotations (operations gs)
  pub denominator : HasSmallDenominator gs
  pub centrings : HasFewCentrings (operations gs)
