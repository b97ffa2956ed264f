-- Site by site.
use Rattle.std.proofs.Common.{rules, refl, ◌≡◌, sym, ◌∙◌, ap, subst, ◌+◌, ◌<◌, ◌∷◌, [], length, length-append, get_or, slice_index, arith}
use Rattle.std.proofs.lemmas.List.Elements.{All-get_or}
use Rattle.irr_algebra.specs.Fin.{to_nat}
use Rattle.irr_algebra.proofs.Indices.{to_nat-lt}
use Rattle.irr_rat.specs.VectorMeaning.{vector}
use Rattle.irr_seitz.specs.OperationMeaning.{operation}
use Rattle.irr_seitz.specs.PhaseMeaning.{sign_of}
use Rattle.irr_kvec.specs.WaveMeaning.{wave_vector}
use Rattle.irr_site.specs.Orbits.{HasPlaces}
use Rattle.irr_site.specs.Products.{AreProducts}
use Rattle.irr_site.specs.Points.{AreSitePlaces}
use Rattle.irr_site.proofs.OrbitLaws.{site_list_below}
use Rattle.irr_site.proofs.SiteCalls.{carried_at, carried_here, rests_so_far}
use Rattle.irr_site.proofs.rests.rests.Goals as goal

pub loop-site-init : goal.loop-site-init
loop-site-init c = (ap length c.new-rests.ensures.items, λ O places sites d a e l. absurd (omega (arith, l)))

pub rest-requires-clause-products : goal.rest-requires-clause-products
rest-requires-clause-products c = subst (AreProducts c.args.group.now) (sym c.as_slice-products.ensures.value) c.requires.numbers.products

pub rest-requires-clause-places : goal.rest-requires-clause-places
rest-requires-clause-places c = subst (AreSitePlaces c.args.group.now (vector c.args.x.now)) (sym c.as_slice-places.ensures.value) c.requires.numbers.places

pub rest-requires-clause-orbit : goal.rest-requires-clause-orbit
rest-requires-clause-orbit c =
    let group = c.args.group.now in
    let o = c.requires.orbit in
    let a = carried_here group c.args.numbers.now.sites.items o.0 o.2 c.as_slice-site-items.result.now c.as_slice-site-items.ensures.value
    c.loop-site.site-index c.loop-site-test.true in (
      o.0,
      subst (λ xs. HasPlaces group xs o.0) (sym c.as_slice-places.ensures.value) o.1,
      a.0,
      a.1,
    )

pub rest-requires-clause-right : goal.rest-requires-clause-right
rest-requires-clause-right c =
    let group = c.args.group.now in
    let i = c.loop-site.site-index in
    subst (λ xs. slice_index xs i < length group.ops.items) (sym c.as_slice-site-items.ensures.value)
    (site_list_below group (vector c.args.x.now) c.args.numbers.now.sites.items c.requires.numbers.sites i 0
    (subst (λ xs. i < length xs) c.as_slice-site-items.ensures.value c.loop-site-test.true))

pub loop-site-preserved : goal.loop-site-preserved
loop-site-preserved c =
    let group = c.args.group.now in
    let n = c.loop-site.site-index in (
      ap length c.in_ok-push.ensures.items ∙ length-append c.loop-site.rests.items (c.rest.result ∷ [])
          ∙ ap (λ m. m + 1) c.loop-site.invariant.0,
      λ O places sites d. rests_so_far (sign_of group.phase) (wave_vector c.args.k.now) c.args.order O
          (operation (get_or group.ops.items c.args.op d)) c.loop-site.rests.items c.push.new.self.items c.rest.result n
          c.loop-site.invariant.0 c.in_ok-push.ensures.items (c.loop-site.invariant.1 O places sites d)
          (λ a same. c.rest.ensures O (subst (λ xs. HasPlaces group xs O) (sym c.as_slice-places.ensures.value) places) a
          (carried_at group c.args.numbers.now.sites.items O sites c.as_slice-site-items.result.now c.as_slice-site-items.ensures.value
          n c.loop-site-test.true a same) d),
    )

pub returns : goal.returns
returns c O places sites d =
    let done : c.loop-site.site-index ≡ length c.as_slice-site-items.result.now = search rules in
    let all = done ∙ ap length c.as_slice-site-items.ensures.value ∙ sym sites.count in
    record {
      count = c.loop-site.invariant.0 ∙ all;
      each = λ a e. c.loop-site.invariant.1 O places sites d a e (subst (λ n. to_nat a < n) (sym all) (to_nat-lt a));
    }
