use Rattle.std.proofs.Common.{rules}
use Rattle.irr_star.proofs.full.Full.arms.Goals as goal

pub overflow_cast-result : goal.overflow_cast-result
overflow_cast-result g c = let few = c.requires.induced.arms.few in search rules
