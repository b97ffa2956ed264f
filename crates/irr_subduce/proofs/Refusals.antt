-- The refusals of a subgroup.
--   refused_generators     what `close` refuses, in the numbering of a subgroup's refusals
use Rattle.std.specs.Prelude.{List}
use Rattle.irr_seitz.specs.declared.op.Op.{Op}
use Rattle.irr_close.specs.StandsFor.{IsRefusal}
use Rattle.irr_close.specs.declared.CloseError.{CloseError}
use Rattle.irr_close.specs.declared.CloseError.TheVariants.{Rotations as CloseRotations, Denominator as CloseDenominator, Centrings as CloseCentrings, Memory as CloseMemory}
use Rattle.irr_close.specs.declared.group.Group.{Group}
use Rattle.irr_setting.specs.declared.setting.Setting.{Setting}
use Rattle.irr_subduce.specs.CloseErrors.{sub_error}
use Rattle.irr_subduce.specs.Subgroup.{IsInside, IsRefused}

pub refused_generators : (group : Group) (s : Setting) (gens : List Op) (e : CloseError) → IsInside group s gens → IsRefusal gens e → IsRefused group s gens (sub_error e)
refused_generators group s gens CloseRotations i r = (i, r)
refused_generators group s gens CloseDenominator i r = (i, r)
refused_generators group s gens CloseCentrings i r = (i, r)
refused_generators group s gens CloseMemory i r = tt
