-- Traces as sums of powers of z.
use Rattle.irr_rep.proofs.TraceRoots.{trace-IsRootSum}
use Rattle.irr_rep.proofs.family.traces_of_representations.Goals as goal

pub returns : goal.returns
returns c h T n v positive d A i = trace-IsRootSum n positive T v A i
