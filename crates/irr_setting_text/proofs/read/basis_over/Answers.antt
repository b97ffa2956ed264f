use Rattle.irr_setting_text.proofs.RowValues.{rows_within}
use Rattle.irr_setting_text.proofs.read.basis_over.Goals as goal

pub returns-clause-within : goal.returns-clause-within
returns-clause-within c = rows_within c.numerators.result c.numerators-2.result c.numerators-3.result c.args.den c.requires.small
    (c.numerators.ensures.small 100 c.requires.first.0.1 c.requires.first.1.1 c.requires.first.2.1)
    (c.numerators-2.ensures.small 100 c.requires.second.0.1 c.requires.second.1.1 c.requires.second.2.1)
    (c.numerators-3.ensures.small 100 c.requires.third.0.1 c.requires.third.1.1 c.requires.third.2.1)
