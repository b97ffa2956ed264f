use Rattle.std.proofs.Common.{◌≡◌, sym, ap, subst, ◌+◌, ◌∙◌, length, arith}
use Rattle.irr_rat.specs.VectorMeaning.{vector}
use Rattle.irr_little.specs.Places.{AreListed}
use Rattle.irr_little.proofs.Listing.{listed-none, listed-push, listed-skip}
use Rattle.irr_site.specs.Points.{IsSitePlace}
use Rattle.irr_site.proofs.operations.site_places.Goals as goal
use Rattle.irr_site.proofs.operations.site_places.Goals.{then-fixes+in_ok-push, else-fixes}

pub loop-place-init : goal.loop-place-init
loop-place-init c = subst (AreListed (IsSitePlace c.args.group.now (vector c.args.x.now)) 0)
    (sym c.new-places.ensures.items) (listed-none (IsSitePlace c.args.group.now (vector c.args.x.now)))

pub loop-place-preserved : goal.loop-place-preserved
loop-place-preserved c = elim c.if-fixes.branch [
  | then-fixes+in_ok-push w ↦ subst (λ v. AreListed (IsSitePlace c.args.group.now (vector c.args.x.now))
      (c.loop-place.place + 1) v) (sym (ap (λ v. v.items) w.places-is ∙ w.in_ok-push.ensures.items))
      (listed-push (IsSitePlace c.args.group.now (vector c.args.x.now)) c.loop-place.places.items
      c.loop-place.place c.loop-place.invariant (c.fixes.ensures.0 w.if-fixes.true))
  | else-fixes w ↦ subst (λ v. AreListed (IsSitePlace c.args.group.now (vector c.args.x.now))
      (c.loop-place.place + 1) v) (sym (ap (λ v. v.items) w.places-is))
      (listed-skip (IsSitePlace c.args.group.now (vector c.args.x.now)) c.loop-place.places.items
      c.loop-place.place c.loop-place.invariant (λ h. cc (c.fixes.ensures.1 h, w.if-fixes.false)))
]

pub returns : goal.returns
returns c =
    let l : length c.ops-place-end.result.now ≡ length c.args.group.now.ops.items = ap length
    c.ops-place-end.ensures.list in
    let e : c.loop-place.place ≡ length c.args.group.now.ops.items = omega (arith, c.loop-place.auto.place-end) in
    subst (λ n. AreListed (IsSitePlace c.args.group.now (vector c.args.x.now)) n c.loop-place.places.items)
    e c.loop-place.invariant
