use Rattle.irr_digits.proofs.Numerals.{decimal_of_digits, leading_of_text, no_leading_zero-decimal}
use Rattle.std.proofs.lemmas.Fmt.{decimal_is_IsNumeral}
use Rattle.irr_digits.proofs.laws.decimal_digits.Goals as goal

pub returns-clause-numeral : goal.returns-clause-numeral
returns-clause-numeral c = λ n h. (decimal_is_IsNumeral n h).0

pub returns-clause-leading : goal.returns-clause-leading
returns-clause-leading c = no_leading_zero-decimal

pub returns-clause-value : goal.returns-clause-value
returns-clause-value c = λ n h. (decimal_is_IsNumeral n h).1

pub returns-clause-printed : goal.returns-clause-printed
returns-clause-printed c = λ ds is small. (leading_of_text ds small, λ lead. decimal_of_digits ds is lead small)
