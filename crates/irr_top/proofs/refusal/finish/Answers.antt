-- How the writing of a text ends.
use Rattle.irr_top.specs.Outcome.Ended.{whole, cut_off}
use Rattle.irr_top.proofs.refusal.finish.Goals as goal

pub returns-in-Ok : goal.returns-in-Ok
returns-in-Ok g c = whole c.in-Ok.ensures.all c.write_all.ensures.writes

pub returns-in-Err : goal.returns-in-Err
returns-in-Err g c = cut_off c.in-Err.ensures.failed c.in-Err.ensures.front c.write_all.ensures.writes
