use Rattle.std.proofs.Common.{◌≡◌, sym, ◌∙◌, ap, subst, ◌+◌, length, arith}
use Rattle.irr_little.specs.Line.{line_points, IsLinePlace}
use Rattle.irr_little.specs.Places.{AreListed}
use Rattle.irr_little.proofs.Listing.{listed-none, listed-push, listed-skip}
use Rattle.irr_little.proofs.line.line_places.Goals as goal
use Rattle.irr_little.proofs.line.line_places.Goals.{then-is_line_place+in_ok-push, else-is_line_place}

pub loop-place-init : goal.loop-place-init
loop-place-init c = λ n d e. subst (AreListed (IsLinePlace c.args.group.now (line_points n c.args.points.now d)) 0) (sym c.new-places.ensures.items) (listed-none
    (IsLinePlace c.args.group.now (line_points n c.args.points.now d)))

pub loop-place-preserved : goal.loop-place-preserved
loop-place-preserved c = λ n d e. elim c.if-is_line_place.branch [
  | then-is_line_place+in_ok-push w ↦ subst (λ v. AreListed (IsLinePlace c.args.group.now (line_points n c.args.points.now d)) (c.loop-place.place + 1) v) (sym (ap
      (λ v. v.items) w.places-is ∙ w.in_ok-push.ensures.items))
      (listed-push (IsLinePlace c.args.group.now (line_points n c.args.points.now d)) c.loop-place.places.items c.loop-place.place (c.loop-place.invariant n d e)
      ((c.is_line_place.ensures n d e).0 w.if-is_line_place.true))
  | else-is_line_place w ↦ subst (λ v. AreListed (IsLinePlace c.args.group.now (line_points n c.args.points.now d)) (c.loop-place.place + 1) v) (sym (ap
      (λ v. v.items) w.places-is))
      (listed-skip (IsLinePlace c.args.group.now (line_points n c.args.points.now d)) c.loop-place.places.items c.loop-place.place (c.loop-place.invariant n d e)
      (λ h. let t = (c.is_line_place.ensures n d e).1 h in cc (t, w.if-is_line_place.false)))
]

pub returns : goal.returns
returns c = λ n d s.
    let l : length c.ops-place-end.result.now ≡ length c.args.group.now.ops.items = ap length c.ops-place-end.ensures.list in
    let e : c.loop-place.place ≡ length c.args.group.now.ops.items = omega (arith, c.loop-place.auto.place-end) in
    subst (λ m. AreListed (IsLinePlace c.args.group.now (line_points n c.args.points.now d)) m c.loop-place.places.items) e (c.loop-place.invariant n d s)
