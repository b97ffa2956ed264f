-- Words and bytes ask for one status.
use Rattle.irr_top.proofs.OneAnswer.{asked_once}
use Rattle.irr_top.proofs.laws.one_status_is_asked_for.Goals as goal

pub returns : goal.returns
returns c = λ words bytes text other s t p q. asked_once words bytes p q
