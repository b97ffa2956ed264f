-- One verdict.
use Rattle.irr_space.specs.SpaceGroup.{Generated}
use Rattle.irr_close.specs.Limits.{operations}
use Rattle.irr_check.proofs.OneVerdict.{one_verdict}
use Rattle.irr_check.proofs.laws.one_verdict_on_a_report.Goals as goal

pub returns : goal.returns
returns c = λ gens w s r u v. one_verdict w s (Generated (operations gens)) r
