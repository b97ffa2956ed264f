use Rattle.irr_star.proofs.WaveLimits.{arms_limited}
use Rattle.irr_star.proofs.laws.limits_of_arms.Goals as goal

pub returns : goal.returns
returns c = arms_limited
