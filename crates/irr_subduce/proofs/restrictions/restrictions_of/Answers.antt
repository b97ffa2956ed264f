-- The stars of the wave vectors of the arms, and the meetings there.
use Rattle.std.proofs.Common.{◌≡◌, sym, ◌∙◌, ap, subst, subst₂, List, map}
use Rattle.std.specs.List.{All}
use Rattle.irr_kvec.specs.Centrings.{IsWithinLimits}
use Rattle.irr_kvec.specs.declared.wave.Wave.{Wave}
use Rattle.irr_close.specs.StandsFor.{stands_for}
use Rattle.irr_close.specs.declared.group.Group.{Group}
use Rattle.irr_mult.specs.OrderedWaves.{waves_of}
use Rattle.irr_mult.specs.Stars.{AreStarsOf}
use Rattle.irr_mult.specs.StarSearch.{HasOrder}
use Rattle.irr_mult.specs.Traced.{AreStarCharacters}
use Rattle.irr_mult.specs.declared.star.StarCharacters.{StarCharacters}
use Rattle.irr_mult.proofs.SearchedStars.{orders_of_stars}
use Rattle.irr_side.proofs.StarsByWaves.{stars_limits, stars_of_waves, stars_reduced}
use Rattle.irr_subduce.proofs.ArmListings.{few_waves, meetings_of, waves_limits, waves_orders, waves_reduced}
use Rattle.irr_subduce.proofs.restrictions.restrictions_of.Goals as goal

pub representatives-requires : goal.representatives-requires
representatives-requires g c = record { limits = waves_limits c.requires.waves.2 }

pub characters_at-requires-clause-limits : goal.characters_at-requires-clause-limits
characters_at-requires-clause-limits g c = subst (λ (ws : List Wave). All IsWithinLimits ws) (sym c.as_slice.ensures.value)
    c.in_ok-found.ensures.limits

pub characters_at-requires-clause-orders : goal.characters_at-requires-clause-orders
characters_at-requires-clause-orders g c = subst₂ (λ (h : Group) (ws : List Wave). All (HasOrder h c.args.order.now.n) ws)
    (sym c.group-inner.ensures) (sym c.as_slice.ensures.value)
    (orders_of_stars c.args.sub.now.group c.args.order.now.n c.args.waves.now c.in_ok-found.found.items
    (subst (λ (h : Group). AreStarsOf (stands_for h) (waves_of c.args.waves.now) (waves_of c.in_ok-found.found.items)) c.group-inner.ensures
    c.in_ok-found.ensures.stars)
    (waves_orders c.requires.waves.2))

pub meetings-requires-clause-few : goal.meetings-requires-clause-few
meetings-requires-clause-few g c = few_waves c.requires.waves.2

pub meetings-requires-clause-waves : goal.meetings-requires-clause-waves
meetings-requires-clause-waves g c = waves_reduced c.requires.waves.2

pub meetings-requires-clause-limits : goal.meetings-requires-clause-limits
meetings-requires-clause-limits g c = stars_limits c.args.sub.now.group (waves_of c.args.waves.now) c.in_ok-found.found.items
    c.as_slice-stars.result.now
    (ap (map (λ (e : StarCharacters g.row.S.Denot). e.wave)) c.as_slice-stars.ensures.value ∙ c.in_ok-made.ensures.waves ∙ c.as_slice.ensures.value)
    c.in_ok-found.ensures.limits

pub meetings-requires-clause-reduced : goal.meetings-requires-clause-reduced
meetings-requires-clause-reduced g c = stars_reduced c.args.sub.now.group (waves_of c.args.waves.now) c.in_ok-found.found.items
    c.as_slice-stars.result.now
    (ap (map (λ (e : StarCharacters g.row.S.Denot). e.wave)) c.as_slice-stars.ensures.value ∙ c.in_ok-made.ensures.waves ∙ c.as_slice.ensures.value)
    (subst (λ (h : Group). AreStarsOf (stands_for h) (waves_of c.args.waves.now) (waves_of c.in_ok-found.found.items)) c.group-inner.ensures
    c.in_ok-found.ensures.stars)

pub entries-requires : goal.entries-requires
entries-requires g c = (
  c.args.group.now,
  c.args.sub.now,
  c.requires.waves.0,
  c.requires.waves.1,
  c.args.waves.now,
  meetings_of c.requires.waves.2 c.in_ok-found.found.items c.as_slice.result.now c.in_ok-made.made.items c.as_slice-stars.result.now
      c.in_ok-met.met.items c.as_slice-2.result.now c.as_slice.ensures.value c.as_slice-stars.ensures.value c.as_slice-2.ensures.value
      (subst (λ (h : Group). AreStarsOf (stands_for h) (waves_of c.args.waves.now) (waves_of c.in_ok-found.found.items)) c.group-inner.ensures
      c.in_ok-found.ensures.stars) c.in_ok-made.ensures.waves
      (subst (λ (h : Group). All (AreStarCharacters g.S.Scalar.order_of g.S.Scalar.value h c.args.order.now.n) c.in_ok-made.made.items) c.group-inner.ensures
      c.in_ok-made.ensures.characters) c.in_ok-met.ensures,
)

pub returns : goal.returns
returns g c image k s = c.in_ok-entries.ensures c.args.group.now c.args.sub.now image k c.args.waves.now
    (meetings_of s c.in_ok-found.found.items c.as_slice.result.now c.in_ok-made.made.items c.as_slice-stars.result.now
    c.in_ok-met.met.items c.as_slice-2.result.now c.as_slice.ensures.value c.as_slice-stars.ensures.value c.as_slice-2.ensures.value
    (subst (λ (h : Group). AreStarsOf (stands_for h) (waves_of c.args.waves.now) (waves_of c.in_ok-found.found.items)) c.group-inner.ensures
    c.in_ok-found.ensures.stars) c.in_ok-made.ensures.waves
    (subst (λ (h : Group). All (AreStarCharacters g.S.Scalar.order_of g.S.Scalar.value h c.args.order.now.n) c.in_ok-made.made.items) c.group-inner.ensures
    c.in_ok-made.ensures.characters) c.in_ok-met.ensures)
