-- The rest of the text gets shorter.
use Rattle.std.proofs.Common.{length}
use Rattle.irr_top.proofs.tests.compat.has_lines.Given as goal

abbrev pub decreases-loop-rest : goal.decreases-loop-rest
decreases-loop-rest l = length l.rest
