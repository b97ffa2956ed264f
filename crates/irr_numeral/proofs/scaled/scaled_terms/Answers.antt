-- Term by term.
use Rattle.std.proofs.Common.{arith, map, ap, ap₂, ◌∙◌, ◌≡◌, to_z, of_z, rules}
use mir.Val.{SFits}
use Rattle.std.specs.Int.{w64}
use Rattle.std.proofs.lemmas.Int.{to_z-of_z}
use Rattle.std.proofs.lemmas.List.{length-map, take_all}
use Rattle.irr_numeral.specs.NumberLimit.{IsSmallExponent}
use Rattle.irr_numeral.specs.ScaledTerm.{scaled_term}
use Rattle.irr_numeral.specs.TermPlaces.{written_term}
use Rattle.irr_numeral.specs.WrittenValue.{IsSmallTerm}
use Rattle.irr_numeral.proofs.CommonDenominators.{all-at}
use Rattle.irr_numeral.proofs.ExponentOrder.{no_term}
use Rattle.irr_numeral.proofs.ScaledTerms.{scaled-front}
use Rattle.irr_numeral.proofs.scaled.scaled_terms.Goals as goal

pub exponent-requires-clause-is_term : goal.exponent-requires-clause-is_term
exponent-requires-clause-is_term c = (all-at IsSmallTerm c.args.terms.now c.loop-term.term-index no_term c.requires.small c.loop-term-test.true).0

pub exponent-requires-clause-small : goal.exponent-requires-clause-small
exponent-requires-clause-small c = all-at (IsSmallExponent c.args.n) c.args.terms.now c.loop-term.term-index no_term c.requires.exponents
    c.loop-term-test.true

pub numerator-requires-clause-small : goal.numerator-requires-clause-small
numerator-requires-clause-small c = all-at IsSmallTerm c.args.terms.now c.loop-term.term-index no_term c.requires.small c.loop-term-test.true

pub loop-term-preserved : goal.loop-term-preserved
loop-term-preserved c =
    let fits : SFits w64 c.numerator.result = search rules in
    let kept : to_z w64 (of_z w64 c.numerator.result) ≡ c.numerator.result = to_z-of_z w64 c.numerator.result fits in
    scaled-front c.args.den c.args.terms.now c.loop-term.term-index no_term c.loop-term.scaled.items c.push.new.self.items
    (c.exponent.result, to_z w64 (of_z w64 c.numerator.result)) c.loop-term-test.true c.loop-term.invariant
    c.in_ok-push.ensures.items (ap₂ (λ a b. (a, b)) c.exponent.ensures (kept ∙ c.numerator.ensures))

pub returns : goal.returns
returns c = c.loop-term.invariant ∙ ap (map (scaled_term c.args.den)) (take_all c.loop-term.term-index (map written_term c.args.terms.now)
    (omega (arith, c.loop-term-test.false, length-map c.args.terms.now written_term)))
