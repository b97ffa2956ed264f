-- One wave vector after another.
use Rattle.std.proofs.Common.{◌≡◌, sym, ◌∙◌, ap, subst, subst₂, ◌++◌, ◌+◌, ◌∷◌, [], take}
use Rattle.std.proofs.lemmas.List.{map_more, take_all}
use Rattle.irr_kvec.specs.Centrings.{IsWithinLimits}
use Rattle.irr_kvec.specs.WaveMeaning.{wave_vector}
use Rattle.irr_close.specs.StandsFor.{stands_for}
use Rattle.irr_mult.specs.OrderedWaves.{waves_of}
use Rattle.irr_mult.specs.Stars.{AreStarsOf}
use Rattle.irr_mult.specs.StarSearch.{AreSearched}
use Rattle.irr_mult.proofs.SearchedStars.{none_searched}
use Rattle.irr_mult.proofs.stars.representatives.Goals as goal

pub loop-wave-init : goal.loop-wave-init
loop-wave-init c = subst₂ (λ found keys. AreSearched c.args.group.now [] found keys) (sym c.new-found.ensures.items)
    (sym c.new-seen.ensures.empty) (none_searched c.args.group.now)

pub search-requires-clause-limits : goal.search-requires-clause-limits
search-requires-clause-limits c = subst IsWithinLimits (sym c.wave-item.is)
    (c.requires.limits c.loop-wave.wave-index c.wave-item.result c.loop-wave-test.true)

pub search-requires-clause-order : goal.search-requires-clause-order
search-requires-clause-order c = c.loop-wave.invariant.stars.ordered

pub loop-wave-preserved : goal.loop-wave-preserved
loop-wave-preserved c =
    let k = c.loop-wave.wave-index in
    let waves = c.args.waves.now in
    let more : waves_of (take (k + 1) waves) ≡ waves_of (take k waves) ++ wave_vector c.wave-item.result ∷ [] =
    map_more wave_vector waves k c.wave-item.result c.loop-wave-test.true
    ∙ ap (λ w. waves_of (take k waves) ++ wave_vector w ∷ []) (sym c.wave-item.is) in
    subst (λ ws. AreSearched c.args.group.now ws c.search.new.found.items c.search.new.seen.keys) (sym more)
    (c.in_ok-search.ensures (waves_of (take k waves)) c.loop-wave.invariant)

pub returns-clause-stars : goal.returns-clause-stars
returns-clause-stars c =
    subst (λ ws. AreStarsOf (stands_for c.args.group.now) (waves_of ws) (waves_of c.loop-wave.found.items))
    (take_all c.loop-wave.wave-index c.args.waves.now c.loop-wave-test.false) c.loop-wave.invariant.stars

pub returns-clause-limits : goal.returns-clause-limits
returns-clause-limits c = c.loop-wave.invariant.limits
