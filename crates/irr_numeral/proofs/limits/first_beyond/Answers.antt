-- Term by term.
use Rattle.std.proofs.Common.{arith}
use Rattle.irr_numeral.proofs.ExponentOrder.{no_term}
use Rattle.irr_numeral.proofs.LimitPlaces.{term-of, term-room, beyond-at, within-all}
use Rattle.irr_numeral.proofs.limits.first_beyond.Goals as goal

pub beyond-requires-clause-is_term : goal.beyond-requires-clause-is_term
beyond-requires-clause-is_term c = term-of c.args.terms.now c.loop-term.term-index no_term c.requires.are_terms c.loop-term-test.true

pub beyond-requires-clause-fits : goal.beyond-requires-clause-fits
beyond-requires-clause-fits c = let room = term-room c.args.terms.now c.loop-term.term-index no_term c.requires.placed c.loop-term-test.true in omega (arith, room, c.requires.fits)

pub returns-in-Some-clause-some : goal.returns-in-Some-clause-some
returns-in-Some-clause-some c = beyond-at c.args.n c.args.terms.now c.loop-term.term-index no_term c.in-Some.place c.requires.placed c.loop-term.invariant c.loop-term-test.true c.in-Some.ensures.some

pub returns-clause-none : goal.returns-clause-none
returns-clause-none c = λ e. within-all c.args.n c.args.terms.now c.loop-term.term-index c.loop-term.invariant c.loop-term-test.false
