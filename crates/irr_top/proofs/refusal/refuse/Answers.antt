-- Want of memory writes nothing.
use Rattle.std.proofs.Common.{refl}
use Rattle.irr_top.specs.Outcome.Ended.{no_memory}
use Rattle.irr_top.proofs.refusal.refuse.Goals as goal

pub returns-in-Err : goal.returns-in-Err
returns-in-Err g c = no_memory refl
