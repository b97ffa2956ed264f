use Rattle.std.proofs.Common.{sym, subst, refl, ℕ}
use Rattle.irr_rational.specs.Ratio.{AreLowest}
use Rattle.irr_setting_text.specs.SettingFault.{AreValues, row_by_row}
use Rattle.irr_setting_text.specs.LineReading.{written_rows}
use Rattle.irr_setting_text.proofs.RowValues.{nine_values, nine_lowest, nine_beyond}
use Rattle.irr_setting_text.proofs.read.basis_of_rows.Goals as goal

pub returns-in_err-den-clause-none : goal.returns-in_err-den-clause-none
returns-in_err-den-clause-none c = λ is h. nine_beyond 100 c.fractions_of-first.result c.fractions_of-second.result c.fractions_of-third.result c.args.rows.now
    c.fractions_of-first.ensures c.fractions_of-second.ensures c.fractions_of-third.ensures (c.in_err-den.ensures.none refl) h

pub returns-clause-values : goal.returns-clause-values
returns-clause-values c = let b = c.basis_over.result in
    subst (λ (k : ℕ). AreValues {n = 9} (written_rows c.args.rows.now) (row_by_row b.num) k) (sym c.basis_over.ensures.denominator)
    (nine_values 100 c.fractions_of-first.result c.fractions_of-second.result c.fractions_of-third.result c.args.rows.now
    c.fractions_of-first.ensures c.fractions_of-second.ensures c.fractions_of-third.ensures b.num c.in_ok-den.den
    c.basis_over.ensures.first c.basis_over.ensures.second c.basis_over.ensures.third)

pub returns-clause-lowest : goal.returns-clause-lowest
returns-clause-lowest c = let b = c.basis_over.result in
    subst (λ (k : ℕ). AreLowest {n = 9} (row_by_row b.num) k) (sym c.basis_over.ensures.denominator)
    (nine_lowest 100 c.fractions_of-first.result c.fractions_of-second.result c.fractions_of-third.result c.args.rows.now
    c.fractions_of-first.ensures c.fractions_of-second.ensures c.fractions_of-third.ensures b.num c.in_ok-den.den
    c.basis_over.ensures.first c.basis_over.ensures.second c.basis_over.ensures.third c.in_ok-den.ensures.least)
