use Rattle.irr_digits.proofs.Numerals.{run_unique, decimal_unique, signed_decimal_unique}
use Rattle.irr_digits.proofs.laws.unique_numbers.Goals as goal

pub returns-clause-run : goal.returns-clause-run
returns-clause-run c = run_unique

pub returns-clause-natural : goal.returns-clause-natural
returns-clause-natural c = decimal_unique

pub returns-clause-whole : goal.returns-clause-whole
returns-clause-whole c = signed_decimal_unique
