use Rattle.std.proofs.Common.{arith}
use Rattle.std.proofs.lemmas.Grind.{common_steps}
use Rattle.irr_digits.proofs.Numerals.{digit_between, digits_value-front}
use Rattle.irr_digits.proofs.runs.capped_value.Goals as goal

pub returns-in_err-checked_mul-clause-above : goal.returns-in_err-checked_mul-clause-above
returns-in_err-checked_mul-clause-above c =
    let front = digits_value-front c.args.digits.now c.loop-digit.digit-index c.loop-digit.value c.requires c.loop-digit.invariant c.loop-digit-test.true in
    grind (arith, common_steps)

pub overflow_sub-digit : goal.overflow_sub-digit
overflow_sub-digit c = (digit_between c.args.digits.now c.loop-digit.digit-index c.requires c.loop-digit-test.true).0

pub returns-in_err-value-clause-above : goal.returns-in_err-value-clause-above
returns-in_err-value-clause-above c =
    let front = digits_value-front c.args.digits.now c.loop-digit.digit-index c.loop-digit.value c.requires c.loop-digit.invariant c.loop-digit-test.true in
    grind (arith, common_steps)

pub loop-digit-preserved : goal.loop-digit-preserved
loop-digit-preserved c =
    let front = digits_value-front c.args.digits.now c.loop-digit.digit-index c.loop-digit.value c.requires c.loop-digit.invariant c.loop-digit-test.true in
    grind (arith, common_steps)
