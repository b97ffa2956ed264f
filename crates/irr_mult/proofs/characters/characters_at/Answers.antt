-- Wave vector by wave vector.
use Rattle.std.proofs.Common.{sym, ◌∙◌, subst}
use Rattle.std.proofs.lemmas.List.{take_all}
use Rattle.irr_kvec.specs.Centrings.{IsWithinLimits}
use Rattle.irr_mult.specs.StarSearch.{HasOrder}
use Rattle.irr_mult.specs.Traced.{AreStarCharacters}
use Rattle.irr_mult.proofs.CharactersAt.{more_at, none_at}
use Rattle.irr_mult.proofs.characters.characters_at.Goals as goal

pub loop-wave-init : goal.loop-wave-init
loop-wave-init g c = none_at
    (AreStarCharacters g.S.Scalar.order_of g.S.Scalar.value c.args.group.now c.args.order.now.n) c.args.waves.now
    c.new-stars.result.items c.new-stars.ensures.items

pub star_characters-requires-clause-limits : goal.star_characters-requires-clause-limits
star_characters-requires-clause-limits g c = subst IsWithinLimits (sym c.wave-item.is)
    (c.requires.limits c.loop-wave.wave-index c.wave-item.result c.loop-wave-test.true)

pub star_characters-requires-clause-order : goal.star_characters-requires-clause-order
star_characters-requires-clause-order g c = subst (HasOrder c.args.group.now c.args.order.now.n) (sym c.wave-item.is)
    (c.requires.orders c.loop-wave.wave-index c.wave-item.result c.loop-wave-test.true)

pub loop-wave-preserved : goal.loop-wave-preserved
loop-wave-preserved g c = more_at
    (AreStarCharacters g.S.Scalar.order_of g.S.Scalar.value c.args.group.now c.args.order.now.n) c.args.waves.now
    c.loop-wave.wave-index c.loop-wave-test.true c.wave-item.result c.wave-item.is c.in_ok-star.star
    c.in_ok-star.ensures.wave c.in_ok-star.ensures.characters c.loop-wave.stars.items c.push.new.self.items
    c.in_ok-push.ensures.items c.loop-wave.invariant

pub returns-clause-waves : goal.returns-clause-waves
returns-clause-waves g c = c.loop-wave.invariant.waves_are
    ∙ take_all c.loop-wave.wave-index c.args.waves.now c.loop-wave-test.false

pub returns-clause-characters : goal.returns-clause-characters
returns-clause-characters g c = c.loop-wave.invariant.characters
