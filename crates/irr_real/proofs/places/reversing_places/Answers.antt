use Rattle.std.proofs.Common.{◌≡◌, sym, ◌∙◌, ap, subst, ◌+◌, length, arith}
use Rattle.irr_kvec.specs.WaveMeaning.{wave_vector}
use Rattle.irr_little.specs.Places.{AreListed}
use Rattle.irr_real.specs.Places.{IsReversingPlace}
use Rattle.irr_little.proofs.Listing.{listed-none, listed-push, listed-skip}
use Rattle.irr_real.proofs.places.reversing_places.Goals as goal
use Rattle.irr_real.proofs.places.reversing_places.Goals.{then-reverses+in_ok-push, else-reverses}

pub loop-place-init : goal.loop-place-init
loop-place-init c = subst (AreListed (IsReversingPlace c.args.group.now (wave_vector c.args.k.now)) 0)
    (sym c.new-places.ensures.items) (listed-none
    (IsReversingPlace c.args.group.now (wave_vector c.args.k.now)))

pub loop-place-preserved : goal.loop-place-preserved
loop-place-preserved c = elim c.if-reverses.branch [
  | then-reverses+in_ok-push w ↦ subst (λ v. AreListed (IsReversingPlace c.args.group.now (wave_vector c.args.k.now))
      (c.loop-place.place + 1) v) (sym (ap
      (λ v. v.items) w.places-is ∙ w.in_ok-push.ensures.items))
      (listed-push (IsReversingPlace c.args.group.now (wave_vector c.args.k.now)) c.loop-place.places.items
      c.loop-place.place c.loop-place.invariant
      (c.reverses.ensures.0 w.if-reverses.true))
  | else-reverses w ↦ subst (λ v. AreListed (IsReversingPlace c.args.group.now (wave_vector c.args.k.now))
      (c.loop-place.place + 1) v) (sym (ap
      (λ v. v.items) w.places-is))
      (listed-skip (IsReversingPlace c.args.group.now (wave_vector c.args.k.now)) c.loop-place.places.items
      c.loop-place.place c.loop-place.invariant
      (λ h. cc (c.reverses.ensures.1 h, w.if-reverses.false)))
]

pub returns : goal.returns
returns c =
    let l : length c.ops-place-end.result.now ≡ length c.args.group.now.ops.items = ap length
    c.ops-place-end.ensures.list in
    let e : c.loop-place.place ≡ length c.args.group.now.ops.items = omega (arith, c.loop-place.auto.place-end) in
    subst (λ n. AreListed (IsReversingPlace c.args.group.now (wave_vector c.args.k.now)) n c.loop-place.places.items)
    e c.loop-place.invariant
