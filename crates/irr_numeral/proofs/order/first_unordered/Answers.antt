-- Term by term.
use Rattle.std.proofs.Common.{arith, ◌≡◌, sym, ap, subst, ℕ, List, map, true, ◌+◌, Bor}
use Rattle.std.specs.Option.{option_copied}
use Rattle.std.proofs.lemmas.List.{length-map}
use Rattle.irr_numeral.specs.TermPlaces.{written_term}
use Rattle.irr_numeral.proofs.ExponentOrder.{IsOrderedTo, exponent-at, place-at, ordered-term, ordered-without, unordered-term, all-increase, no_term}
use Rattle.irr_numeral.proofs.order.first_unordered.Goals.{in-Some+else-not-is_below, in_default}
use Rattle.irr_numeral.proofs.order.first_unordered.Goals as goal

pub is_below-requires-clause-b_is : goal.is_below-requires-clause-b_is
is_below-requires-clause-b_is c = (exponent-at c.args.terms.now c.loop-term.term-index no_term c.in-Some.exponent.now c.requires.are_terms c.loop-term-test.true (ap option_copied c.in-Some.is)).is_exponent

pub exponent_place-requires : goal.exponent_place-requires
exponent_place-requires c =
    let e = exponent-at c.args.terms.now c.loop-term.term-index no_term c.in-Some.exponent.now c.requires.are_terms c.loop-term-test.true (ap option_copied c.in-Some.is) in
    let place = place-at c.args.terms.now c.loop-term.term-index no_term c.requires.placed c.loop-term-test.true in
    omega (arith, e.room, place, c.requires.fits)

pub returns-then-not-is_below-clause-some : goal.returns-then-not-is_below-clause-some
returns-then-not-is_below-clause-some c =
    let e = exponent-at c.args.terms.now c.loop-term.term-index no_term c.in-Some.exponent.now c.requires.are_terms c.loop-term-test.true (ap option_copied c.in-Some.is) in
    unordered-term c.args.terms.now c.loop-term.term-index no_term c.loop-term.last.now c.in-Some.exponent.now c.exponent_place.result c.requires.placed c.loop-term.invariant e c.loop-term-test.true
    (λ h. let is : c.is_below.result ≡ true = c.is_below.ensures.1 h in cc) c.exponent_place.ensures

pub loop-term-preserved : goal.loop-term-preserved
loop-term-preserved c = elim c.match-term.branch [
  | in-Some+else-not-is_below w ↦ (
      let e = exponent-at c.args.terms.now c.loop-term.term-index no_term w.in-Some.exponent.now c.requires.are_terms c.loop-term-test.true (ap option_copied w.in-Some.is) in
      subst (λ (b : Bor (List ℕ)). IsOrderedTo (map written_term c.args.terms.now) (c.loop-term.term-index + 1) b.now) (sym w.last-is)
      (ordered-term c.args.terms.now c.loop-term.term-index no_term c.loop-term.last.now w.in-Some.exponent.now c.loop-term.invariant e c.loop-term-test.true (w.is_below.ensures.0 w.if-not-is_below.false)))
  | in_default w ↦ subst (λ (b : Bor (List ℕ)). IsOrderedTo (map written_term c.args.terms.now) (c.loop-term.term-index + 1) b.now) (sym w.last-is)
      (ordered-without c.args.terms.now c.loop-term.term-index no_term c.loop-term.last.now c.requires.are_terms c.loop-term.invariant c.loop-term-test.true (ap option_copied w.in_default.is))
]

pub returns-clause-none : goal.returns-clause-none
returns-clause-none c = λ e. all-increase (map written_term c.args.terms.now) c.loop-term.term-index c.loop-term.last.now c.loop-term.invariant (omega (arith, length-map c.args.terms.now written_term, c.loop-term-test.false))
