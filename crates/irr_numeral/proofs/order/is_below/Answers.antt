-- By length, by the first digit that differs, or not at all.
use Rattle.std.proofs.Common.{arith, refl}
use Rattle.irr_numeral.proofs.DigitOrder.{told-by_length, told-by_digit, told-by_all}
use Rattle.irr_numeral.proofs.order.is_below.Goals as goal

pub returns-then-a-b : goal.returns-then-a-b
returns-then-a-b c = told-by_length c.args.a.now c.args.b.now c.requires.a_is c.requires.b_is c.if-a-b.true

pub returns-then-digit-b : goal.returns-then-digit-b
returns-then-digit-b c = told-by_digit c.args.a.now c.args.b.now c.loop-i.i _ _ c.requires.a_is c.requires.b_is c.if-a-b.false c.loop-i-test.true c.loop-i.invariant refl refl c.if-digit-b.true

pub returns : goal.returns
returns c = told-by_all c.args.a.now c.args.b.now c.if-a-b.false (λ k h. c.loop-i.invariant k (omega (arith, h)))
