-- The refusals of the generators' closure, as those of a subgroup.
--   sub_error e     the refusal
use Rattle.irr_close.specs.declared.CloseError.{CloseError}
use Rattle.irr_close.specs.declared.CloseError.TheVariants.{Rotations as CloseRotations, Denominator as CloseDenominator, Centrings as CloseCentrings, Memory as CloseMemory}
use Rattle.irr_subduce.specs.declared.error.SubError.{SubError}
use Rattle.irr_subduce.specs.declared.error.SubError.TheVariants.{Rotations, Denominator, Centrings, Memory}

abbrev pub sub_error : CloseError → SubError
sub_error CloseRotations = Rotations
sub_error CloseDenominator = Denominator
sub_error CloseCentrings = Centrings
sub_error CloseMemory = Memory
