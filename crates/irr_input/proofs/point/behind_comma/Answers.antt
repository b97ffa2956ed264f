use Rattle.irr_input.proofs.point.behind_comma.Goals as goal

pub returns-clause-rest : goal.returns-clause-rest
returns-clause-rest c = λ ts sp. c.behind_mark.ensures.rest 44 ts sp
