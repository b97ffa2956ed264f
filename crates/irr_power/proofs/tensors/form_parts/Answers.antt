-- The stars of the wave vector 0, and the rows there.
use Rattle.std.proofs.Common.{sym, ◌∙◌, ap, subst, ◌≤◌, List, [], ◌∷◌, map}
use Rattle.std.specs.List.{All}
use native.Mathlib.Nat as Nat
use Rattle.irr_space.specs.Reciprocal.{IsOrder}
use Rattle.irr_kvec.specs.Centrings.{IsWithinLimits}
use Rattle.irr_kvec.specs.declared.wave.Wave.{Wave}
use Rattle.irr_close.specs.StandsFor.{stands_for}
use Rattle.irr_mult.specs.OrderedWaves.{waves_of}
use Rattle.irr_mult.specs.StarSearch.{HasOrder}
use Rattle.irr_mult.specs.declared.star.StarCharacters.{StarCharacters}
use Rattle.irr_mult.proofs.SearchedStars.{orders_of_stars}
use Rattle.irr_side.proofs.StarsByWaves.{stars_limits}
use Rattle.irr_power.specs.Tensors.{origin}
use Rattle.irr_power.proofs.FormSpaces.{form_space, origin_order}
use Rattle.irr_power.proofs.TracedForms.{form_orders, one_wave, traced_here}
use Rattle.irr_power.proofs.tensors.form_parts.Goals as goal

pub new-requires-clause-positive : goal.new-requires-clause-positive
new-requires-clause-positive g c = c.exponent-exponent.ensures.exponent.positive

pub representatives-requires : goal.representatives-requires
representatives-requires g c = record { limits = one_wave IsWithinLimits c.zero_wave-zero.result c.zero_wave-zero.ensures.limits }

pub characters_at-requires-clause-limits : goal.characters_at-requires-clause-limits
characters_at-requires-clause-limits g c = subst (λ (ws : List Wave). All IsWithinLimits ws) (sym c.as_slice-places.ensures.value)
    c.in_ok-found.ensures.limits

pub characters_at-requires-clause-orders : goal.characters_at-requires-clause-orders
characters_at-requires-clause-orders g c = subst (λ (ws : List Wave). All (HasOrder c.args.group.now c.in_ok-order.order.n) ws)
    (sym c.as_slice-places.ensures.value)
    (orders_of_stars c.args.group.now c.in_ok-order.order.n (c.zero_wave-zero.result ∷ []) c.in_ok-found.found.items c.in_ok-found.ensures.stars
    (form_orders c.args.group.now c.in_ok-order.order.n c.in_ok-order.order.n
    (subst (IsOrder (stands_for c.args.group.now) origin) (sym c.in_ok-order.ensures)
    (origin_order (stands_for c.args.group.now) c.exponent-exponent.result c.exponent-exponent.ensures.exponent))
    (Nat.dvd_refl c.in_ok-order.order.n) c.zero_wave-zero.result c.zero_wave-zero.ensures.wave))

pub star_rows-requires-clause-limits : goal.star_rows-requires-clause-limits
star_rows-requires-clause-limits g c = stars_limits c.args.group.now (waves_of (c.zero_wave-zero.result ∷ [])) c.in_ok-found.found.items
    c.as_slice-stars.result.now
    (ap (map (λ (e : StarCharacters g.row.S.Denot). e.wave)) c.as_slice-stars.ensures.value ∙ c.in_ok-made.ensures.waves ∙ c.as_slice-places.ensures.value)
    c.in_ok-found.ensures.limits

pub all_parts-requires : goal.all_parts-requires
all_parts-requires g c = (
  form_space c.args.group.now c.in_ok-order.order.n c.in_ok-order.order.positive c.args.form,
  traced_here c.args.group.now c.in_ok-order.order.n c.in_ok-order.order.positive c.args.form
      (subst (IsOrder (stands_for c.args.group.now) origin) (sym c.in_ok-order.ensures)
      (origin_order (stands_for c.args.group.now) c.exponent-exponent.result c.exponent-exponent.ensures.exponent))
      c.zero_wave-zero.result c.zero_wave-zero.ensures.wave g.S.Scalar.order_of g.S.Scalar.value c.in_ok-found.found.items
      c.as_slice-places.result.now c.in_ok-made.made.items c.as_slice-stars.result.now c.in_ok-rows.rows.items c.as_slice.result.now
      c.as_slice-places.ensures.value c.as_slice-stars.ensures.value c.as_slice.ensures.value
      c.in_ok-found.ensures.stars c.in_ok-made.ensures.waves c.in_ok-made.ensures.characters c.in_ok-rows.ensures,
)

pub returns : goal.returns
returns g c = (
  c.in_ok-order.order.n,
  subst (IsOrder (stands_for c.args.group.now) origin) (sym c.in_ok-order.ensures)
      (origin_order (stands_for c.args.group.now) c.exponent-exponent.result c.exponent-exponent.ensures.exponent),
  subst (λ n. n ≤ 48) (sym c.in_ok-order.ensures) c.exponent-exponent.ensures.small,
  λ positive. c.in_ok-parts.ensures (form_space c.args.group.now c.in_ok-order.order.n positive c.args.form)
      (traced_here c.args.group.now c.in_ok-order.order.n positive c.args.form
      (subst (IsOrder (stands_for c.args.group.now) origin) (sym c.in_ok-order.ensures)
      (origin_order (stands_for c.args.group.now) c.exponent-exponent.result c.exponent-exponent.ensures.exponent))
      c.zero_wave-zero.result c.zero_wave-zero.ensures.wave g.S.Scalar.order_of g.S.Scalar.value c.in_ok-found.found.items
      c.as_slice-places.result.now c.in_ok-made.made.items c.as_slice-stars.result.now c.in_ok-rows.rows.items c.as_slice.result.now
      c.as_slice-places.ensures.value c.as_slice-stars.ensures.value c.as_slice.ensures.value
      c.in_ok-found.ensures.stars c.in_ok-made.ensures.waves c.in_ok-made.ensures.characters c.in_ok-rows.ensures),
)
