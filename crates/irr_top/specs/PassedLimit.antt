-- Limits that generators pass.
--   passed_limit e     the limit that refused generators pass; none at want of memory
use Rattle.std.specs.Prelude.{Option, None, Some}
use Rattle.irr_close.specs.declared.CloseError.{CloseError}
use Rattle.irr_close.specs.declared.CloseError.TheVariants as refusals
use Rattle.irr_top.specs.declared.status.Kind.{Kind}
use Rattle.irr_top.specs.declared.status.Kind.TheVariants.{Rotations, Denominator, Centrings}

abbrev pub passed_limit : CloseError → Option Kind
passed_limit refusals.Rotations = Some Rotations
passed_limit refusals.Denominator = Some Denominator
passed_limit refusals.Centrings = Some Centrings
passed_limit refusals.Memory = None
