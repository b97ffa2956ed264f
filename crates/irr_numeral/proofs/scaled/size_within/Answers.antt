-- Term by term.
use Rattle.std.proofs.Common.{arith, map, ◌+◌}
use Rattle.std.proofs.lemmas.List.{length-map}
use Rattle.std.proofs.lemmas.List.Sums.{sum_by-take-le}
use Rattle.irr_numeral.specs.TermPlaces.{written_term}
use Rattle.irr_numeral.specs.WrittenValue.{IsSmallTerm, numerator_over}
use Rattle.irr_numeral.proofs.CommonDenominators.{all-at}
use Rattle.irr_numeral.proofs.ExponentOrder.{no_term}
use Rattle.irr_numeral.proofs.ScaledTerms.{size-front, size-all}
use Rattle.irr_numeral.proofs.scaled.size_within.Goals as goal

pub absolute_numerator-size-requires-clause-small : goal.absolute_numerator-size-requires-clause-small
absolute_numerator-size-requires-clause-small c = all-at IsSmallTerm c.args.terms.now c.loop-term.term-index no_term c.requires.small c.loop-term-test.true

pub returns-then-size-gt-COEFFICIENT_LIMIT-clause-none : goal.returns-then-size-gt-COEFFICIENT_LIMIT-clause-none
returns-then-size-gt-COEFFICIENT_LIMIT-clause-none c =
    let front = size-front c.args.den c.args.terms.now c.loop-term.term-index no_term c.loop-term-test.true in
    let part = sum_by-take-le (numerator_over c.args.den) (map written_term c.args.terms.now) (c.loop-term.term-index + 1) in
    λ _. omega (arith, front, part, c.loop-term.invariant.0, c.absolute_numerator-size.ensures.value, c.if-size-gt-COEFFICIENT_LIMIT.true)

pub loop-term-preserved : goal.loop-term-preserved
loop-term-preserved c =
    let front = size-front c.args.den c.args.terms.now c.loop-term.term-index no_term c.loop-term-test.true in
    (omega (arith, front, c.loop-term.invariant.0, c.absolute_numerator-size.ensures.value), omega (arith, c.if-size-gt-COEFFICIENT_LIMIT.false))

pub returns-clause-size : goal.returns-clause-size
returns-clause-size c = size-all c.args.den (map written_term c.args.terms.now) c.loop-term.term-index c.loop-term.size
    (omega (arith, c.loop-term-test.false, length-map c.args.terms.now written_term)) c.loop-term.invariant.0
