-- Term by term.
use Rattle.std.proofs.Common.{arith, map, lit<}
use Rattle.std.proofs.lemmas.List.{length-map}
use Rattle.irr_numeral.specs.TermPlaces.{written_term}
use Rattle.irr_numeral.specs.WrittenValue.{IsSmallTerm}
use Rattle.irr_numeral.proofs.ExponentOrder.{no_term}
use Rattle.irr_numeral.proofs.CommonDenominators.{all-at, common-none, common-beyond, common-all, step-of}
use Rattle.irr_numeral.proofs.denominator.common_denominator.Goals as goal

pub denominator-requires : goal.denominator-requires
denominator-requires c = all-at IsSmallTerm c.args.terms.now c.loop-term.term-index no_term c.requires c.loop-term-test.true

pub loop-term-init : goal.loop-term-init
loop-term-init c = (common-none, lit< tt)

pub returns-then-common-gt-DENOMINATOR_LIMIT-clause-none : goal.returns-then-common-gt-DENOMINATOR_LIMIT-clause-none
returns-then-common-gt-DENOMINATOR_LIMIT-clause-none c = λ _ d h. common-beyond (map written_term c.args.terms.now) _ c.least_multiple-common.result d _
    (step-of c.args.terms.now c.loop-term.term-index no_term c.loop-term.common c.denominator.result c.least_multiple-common.result c.loop-term-test.true
    c.loop-term.invariant.0 c.denominator.ensures.value c.denominator.ensures.positive c.least_multiple-common.ensures)
    c.if-common-gt-DENOMINATOR_LIMIT.true h

pub loop-term-preserved : goal.loop-term-preserved
loop-term-preserved c = (
  step-of c.args.terms.now c.loop-term.term-index no_term c.loop-term.common c.denominator.result c.least_multiple-common.result c.loop-term-test.true
      c.loop-term.invariant.0 c.denominator.ensures.value c.denominator.ensures.positive c.least_multiple-common.ensures,
  omega (arith, c.if-common-gt-DENOMINATOR_LIMIT.false),
)

pub returns-clause-common : goal.returns-clause-common
returns-clause-common c = common-all (map written_term c.args.terms.now) c.loop-term.term-index c.loop-term.common
    (omega (arith, c.loop-term-test.false, length-map c.args.terms.now written_term)) c.loop-term.invariant.0
