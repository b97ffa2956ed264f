use Rattle.std.proofs.Common.{sym, subst, refl, ℕ}
use Rattle.irr_rational.specs.Ratio.{entry}
use Rattle.irr_setting_text.specs.SettingFault.{AreValues}
use Rattle.irr_setting_text.specs.LineReading.{written_row}
use Rattle.irr_setting_text.proofs.RowValues.{three_values, three_beyond}
use Rattle.irr_setting_text.proofs.read.vector_of_row.Goals as goal

pub returns-in_err-den-clause-none : goal.returns-in_err-den-clause-none
returns-in_err-den-clause-none c = λ is h. three_beyond 1000 c.fractions_of-fractions.result c.args.row.now c.fractions_of-fractions.ensures (c.in_err-den.ensures.none refl) h

pub returns-clause-values : goal.returns-clause-values
returns-clause-values c = let v = c.vector.result in
    subst (λ (k : ℕ). AreValues {n = 3} (written_row c.args.row.now) (entry v.num) k) (sym c.vector.ensures.denominator)
    (three_values 1000 c.fractions_of-fractions.result c.args.row.now v.num c.in_ok-den.den c.fractions_of-fractions.ensures c.vector.ensures.numerators)
