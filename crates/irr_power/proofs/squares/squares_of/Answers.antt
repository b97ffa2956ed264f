-- The sums, their stars, and the meetings there.
use Rattle.std.proofs.Common.{sym, ◌∙◌, ap, subst, List, map}
use Rattle.std.specs.List.{All}
use Rattle.irr_kvec.specs.Centrings.{IsWithinLimits}
use Rattle.irr_kvec.specs.declared.wave.Wave.{Wave}
use Rattle.irr_mult.specs.OrderedWaves.{waves_of}
use Rattle.irr_mult.specs.StarSearch.{HasOrder}
use Rattle.irr_mult.specs.declared.star.StarCharacters.{StarCharacters}
use Rattle.irr_mult.proofs.SearchedStars.{orders_of_stars}
use Rattle.irr_side.proofs.StarsByWaves.{stars_limits, stars_reduced}
use Rattle.irr_product.proofs.WholeProducts.{few_sums, sums_limits, sums_orders, sums_reduced}
use Rattle.irr_power.proofs.SquareEntries.{both}
use Rattle.irr_power.proofs.WholeSquares.{setting_of}
use Rattle.irr_power.proofs.squares.squares_of.Goals as goal

pub representatives-requires : goal.representatives-requires
representatives-requires g c = record { limits = sums_limits (both c.requires.1) }

pub characters_at-requires-clause-limits : goal.characters_at-requires-clause-limits
characters_at-requires-clause-limits g c = subst (λ (ws : List Wave). All IsWithinLimits ws) (sym c.as_slice-waves.ensures.value)
    c.in_ok-found.ensures.limits

pub characters_at-requires-clause-orders : goal.characters_at-requires-clause-orders
characters_at-requires-clause-orders g c = subst (λ (ws : List Wave). All (HasOrder c.args.group.now c.args.order.now.n) ws)
    (sym c.as_slice-waves.ensures.value)
    (orders_of_stars c.args.group.now c.args.order.now.n c.args.sums.now c.in_ok-found.found.items c.in_ok-found.ensures.stars
    (sums_orders (both c.requires.1) c.args.order.now.positive))

pub meetings-requires-clause-few : goal.meetings-requires-clause-few
meetings-requires-clause-few g c = few_sums (both c.requires.1)

pub meetings-requires-clause-sums : goal.meetings-requires-clause-sums
meetings-requires-clause-sums g c = sums_reduced (both c.requires.1)

pub meetings-requires-clause-limits : goal.meetings-requires-clause-limits
meetings-requires-clause-limits g c = stars_limits c.args.group.now (waves_of c.args.sums.now) c.in_ok-found.found.items
    c.as_slice-stars.result.now
    (ap (map (λ (e : StarCharacters g.row.S.Denot). e.wave)) c.as_slice-stars.ensures.value ∙ c.in_ok-made.ensures.waves ∙ c.as_slice-waves.ensures.value)
    c.in_ok-found.ensures.limits

pub meetings-requires-clause-reduced : goal.meetings-requires-clause-reduced
meetings-requires-clause-reduced g c = stars_reduced c.args.group.now (waves_of c.args.sums.now) c.in_ok-found.found.items
    c.as_slice-stars.result.now
    (ap (map (λ (e : StarCharacters g.row.S.Denot). e.wave)) c.as_slice-stars.ensures.value ∙ c.in_ok-made.ensures.waves ∙ c.as_slice-waves.ensures.value)
    c.in_ok-found.ensures.stars

pub entries-requires : goal.entries-requires
entries-requires g c = (
  c.args.group.now,
  c.requires.0,
  c.args.sums.now,
  setting_of c.requires.1 c.in_ok-found.found.items c.as_slice-waves.result.now c.in_ok-made.made.items c.as_slice-stars.result.now
      c.in_ok-met.met.items c.as_slice.result.now c.as_slice-waves.ensures.value c.as_slice-stars.ensures.value c.as_slice.ensures.value
      c.in_ok-found.ensures.stars c.in_ok-made.ensures.waves c.in_ok-made.ensures.characters c.in_ok-met.ensures,
)

pub returns : goal.returns
returns g c k s = c.in_ok-squares.ensures c.args.group.now k c.args.sums.now
    (setting_of s c.in_ok-found.found.items c.as_slice-waves.result.now c.in_ok-made.made.items c.as_slice-stars.result.now
    c.in_ok-met.met.items c.as_slice.result.now c.as_slice-waves.ensures.value c.as_slice-stars.ensures.value c.as_slice.ensures.value
    c.in_ok-found.ensures.stars c.in_ok-made.ensures.waves c.in_ok-made.ensures.characters c.in_ok-met.ensures)
