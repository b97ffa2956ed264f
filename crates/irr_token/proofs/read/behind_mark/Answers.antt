use Rattle.std.proofs.Common.{[], ◌∷◌}
use Rattle.irr_token.proofs.Blanks.{step_of}
use Rattle.irr_token.proofs.read.behind_mark.Goals as goal

pub returns-clause-rest : goal.returns-clause-rest
returns-clause-rest c = λ b ts sp. step_of c.args.rest.place c.args.rest.text.now c.behind.result.place c.behind.result.text.now (b ∷ []) ts c.behind.ensures.rest sp.1
