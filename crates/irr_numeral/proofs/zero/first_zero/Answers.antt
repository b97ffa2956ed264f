-- Term by term.
use Rattle.std.proofs.Common.{arith, ◌≡◌, refl, true}
use Rattle.irr_numeral.proofs.ExponentOrder.{no_term}
use Rattle.irr_numeral.proofs.ZeroDenominators.{zero-at, zero-none, zero-room, none-more}
use Rattle.irr_numeral.proofs.zero.first_zero.Goals as goal

pub overflow_add-result : goal.overflow_add-result
overflow_add-result c = let room = zero-room c.args.terms.now c.loop-term.term-index no_term c.requires.placed c.loop-term-test.true (c.has_zero.ensures.0 c.if-has_zero.true) in omega (arith, room, c.requires.fits)

pub overflow_add-result-then-has_zero : goal.overflow_add-result-then-has_zero
overflow_add-result-then-has_zero c = let room = zero-room c.args.terms.now c.loop-term.term-index no_term c.requires.placed c.loop-term-test.true (c.has_zero.ensures.0 c.if-has_zero.true) in omega (arith, room, c.requires.fits)

pub returns-then-has_zero-clause-some : goal.returns-then-has_zero-clause-some
returns-then-has_zero-clause-some c = zero-at c.args.terms.now c.loop-term.term-index no_term _ c.requires.placed c.loop-term.invariant c.loop-term-test.true (c.has_zero.ensures.0 c.if-has_zero.true) refl

pub loop-term-preserved : goal.loop-term-preserved
loop-term-preserved c = none-more c.args.terms.now c.loop-term.term-index no_term c.loop-term.invariant c.loop-term-test.true (λ z. let is : c.has_zero.result ≡ true = c.has_zero.ensures.1 z in cc)

pub returns-clause-none : goal.returns-clause-none
returns-clause-none c = λ e. zero-none c.args.terms.now c.loop-term.term-index c.loop-term.invariant c.loop-term-test.false
