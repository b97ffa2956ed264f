-- No texts.
use Rattle.std.proofs.Common.{refl}
use Rattle.irr_report.proofs.Scales.{scale-none}
use Rattle.irr_report.proofs.scale.Scale.new.Goals as goal

pub returns : goal.returns
returns c = scale-none _ refl refl
