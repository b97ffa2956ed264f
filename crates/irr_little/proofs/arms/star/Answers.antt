use Rattle.std.proofs.Common.{◌≡◌, sym, ◌∙◌, ap, subst, refl, ◌+◌, ◌<◌, length, get_or, arith}
use Rattle.std.specs.List.{All}
use Rattle.irr_space.specs.Reciprocal.{IsReduced}
use Rattle.irr_kvec.specs.WaveMeaning.{wave_vector}
use Rattle.irr_kvec.specs.Centrings.{LatticeOf, IsCentringList, IsWithinLimits}
use Rattle.irr_kvec.proofs.GroupLattices.{reduced_in_group}
use Rattle.irr_seitz.specs.OperationMeaning.{operation}
use Rattle.irr_close.specs.StandsFor.{stands_for}
use Rattle.irr_little.proofs.Spaces.{centrings_of, carried_to}
use Rattle.irr_little.proofs.Stars.{ArmsSoFar, reduced_arm, arms-none, arms-push, arms-skip, arms_are, fresh_in, known_in}
use Rattle.irr_close.proofs.SpaceGroups.{space_group}
use Rattle.irr_little.proofs.arms.star.Goals as goal
use Rattle.irr_little.proofs.arms.star.Goals.{then-is_new+in_ok-push, else-is_new}

pub loop-place-init : goal.loop-place-init
loop-place-init c = subst (ArmsSoFar c.args.group.now (wave_vector c.args.k.now) 0) (sym c.new-arms.ensures.items)
    (arms-none c.args.group.now (space_group c.args.group.now) (wave_vector c.args.k.now))

pub reduced-wave-requires-clause-centrings : goal.reduced-wave-requires-clause-centrings
reduced-wave-requires-clause-centrings c = subst IsCentringList (sym c.centrings.ensures.list) (space_group c.args.group.now).centrings

pub is_new-requires-clause-centrings : goal.is_new-requires-clause-centrings
is_new-requires-clause-centrings c = subst IsCentringList (sym c.centrings-in-loop-place.ensures.list) (space_group c.args.group.now).centrings

pub is_new-requires-clause-arms : goal.is_new-requires-clause-arms
is_new-requires-clause-arms c = subst (All (λ arm. IsWithinLimits arm.wave)) (sym c.deref.ensures.value) c.loop-place.invariant.limits

pub loop-place-preserved : goal.loop-place-preserved
loop-place-preserved c =
    let group = c.args.group.now in
    let k = wave_vector c.args.k.now in
    let red : IsReduced (stands_for group) (wave_vector c.image.result) (wave_vector c.reduced-wave.result)
    = reduced_in_group (stands_for group) group.centrings.items (centrings_of group) (wave_vector c.image.result) (wave_vector c.reduced-wave.result)
    (subst (λ cs. IsReduced (LatticeOf cs) (wave_vector c.image.result)
    (wave_vector c.reduced-wave.result)) c.centrings.ensures.list c.reduced-wave.ensures.reduced) in
    let size : length c.ops-place-end.result.now ≡ length group.ops.items = ap length c.ops-place-end.ensures.list in
    let inside : c.loop-place.place < length group.ops.items = omega (arith, c.loop-place-test.true) in
    elim c.if-is_new.branch [
      | then-is_new+in_ok-push w ↦ subst (ArmsSoFar group k (c.loop-place.place + 1)) (sym (ap (λ v. v.items) w.arms-is ∙ w.in_ok-push.ensures.items))
          (arms-push group (space_group c.args.group.now) k c.loop-place.place c.loop-place.arms.items
          (record { wave = c.reduced-wave.result; op = c.loop-place.place }) c.loop-place.invariant inside refl
          c.reduced-wave.ensures.limits (reduced_arm (stands_for group) (wave_vector c.image.result) (wave_vector c.reduced-wave.result) red)
          (λ d. carried_to (stands_for group) (operation (get_or group.ops.items c.loop-place.place d)) k (wave_vector c.image.result)
          (wave_vector c.reduced-wave.result) (c.image.ensures.carries d) red.equivalent)
          (fresh_in group c.centrings-in-loop-place.result.now c.centrings-in-loop-place.ensures.list c.deref.result.now c.loop-place.arms.items
          c.deref.ensures.value (wave_vector c.reduced-wave.result)
          (c.is_new.ensures.new w.if-is_new.true)))
      | else-is_new w ↦ subst (ArmsSoFar group k (c.loop-place.place + 1)) (sym (ap (λ v. v.items) w.arms-is))
          (arms-skip group (space_group c.args.group.now) k c.loop-place.place c.loop-place.arms.items
          (wave_vector c.reduced-wave.result) c.loop-place.invariant inside
          (λ d. carried_to (stands_for group) (operation (get_or group.ops.items c.loop-place.place d)) k (wave_vector c.image.result)
          (wave_vector c.reduced-wave.result) (c.image.ensures.carries d) red.equivalent)
          (known_in group c.centrings-in-loop-place.result.now c.centrings-in-loop-place.ensures.list c.deref.result.now c.loop-place.arms.items
          c.deref.ensures.value (wave_vector c.reduced-wave.result)
          (c.is_new.ensures.known w.if-is_new.false)))
    ]

pub returns : goal.returns
returns c =
    let l : length c.ops-place-end.result.now ≡ length c.args.group.now.ops.items = ap length c.ops-place-end.ensures.list in
    let e : c.loop-place.place ≡ length c.args.group.now.ops.items = omega (arith, c.loop-place.auto.place-end) in
    arms_are c.args.group.now (space_group c.args.group.now) (wave_vector c.args.k.now) c.loop-place.arms.items
    (subst (λ n. ArmsSoFar c.args.group.now (wave_vector c.args.k.now) n c.loop-place.arms.items) e c.loop-place.invariant)
