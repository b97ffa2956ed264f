-- One after another.
use Rattle.std.proofs.Common.{rules, ◌≡◌, sym, ◌∙◌, subst, length, true≢false}
use Rattle.irr_mult.proofs.OrderedLists.{BelowSoFar, more_below, one_of, place_here, place_last}
use Rattle.irr_mult.proofs.ordered.place.Goals as goal

pub loop-i-init : goal.loop-i-init
loop-i-init c = tt

pub loop-i-preserved : goal.loop-i-preserved
loop-i-preserved c = more_below c.args.found.now c.args.wave.now c.loop-i.i c.loop-i-test.true c.index-found-i.result
    c.index-found-i.is c.loop-i.invariant
    (λ e. true≢false (sym (c.is_same.ensures.1 e) ∙ c.if-is_same.false))
    (λ b. true≢false (sym (c.is_below.ensures.1 b) ∙ c.if-is_below.false))

pub returns-then-is_same-clause-none : goal.returns-then-is_same-clause-none
returns-then-is_same-clause-none c t = one_of c.args.found.now c.args.wave.now c.loop-i.i c.loop-i-test.true
    c.index-found-i.result c.index-found-i.is (c.is_same.ensures.0 c.if-is_same.true)

pub returns-then-is_below-clause-some : goal.returns-then-is_below-clause-some
returns-then-is_below-clause-some c = place_here c.args.found.now c.args.wave.now c.loop-i.i c.loop-i-test.true
    c.index-found-i.result c.index-found-i.is c.requires c.loop-i.invariant (c.is_below.ensures.0 c.if-is_below.true)

pub returns-clause-some : goal.returns-clause-some
returns-clause-some c =
    let done : c.loop-i.i ≡ length c.args.found.now = search rules in
    place_last c.args.found.now c.args.wave.now (subst (BelowSoFar c.args.found.now c.args.wave.now) done
    c.loop-i.invariant)
