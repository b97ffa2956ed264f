use Rattle.irr_setting_text.proofs.RowValues.{three_lowest}
use Rattle.irr_setting_text.proofs.values.Fractions.vector.Goals as goal

pub invariant_of-result : goal.invariant_of-result
invariant_of-result c = record { lowest = three_lowest 1000 c.args.self.now c.numerators-num.result c.args.den c.requires.fractions c.numerators-num.ensures.values c.requires.least }
