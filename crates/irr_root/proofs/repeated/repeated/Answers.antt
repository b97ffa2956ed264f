-- The numbers are pushed one after the other.
use Rattle.std.proofs.Common.{◌≡◌, ap, sym, subst, ◌∙◌, ◌+◌, ◌*◌, ◌++◌, ◌∷◌, [], replicate, slice_index, length, arith}
use Rattle.irr_root.specs.Repeated.{AreRepeated}
use Rattle.std.proofs.lemmas.List.{append-nil, append_assoc, replicate_more}
use Rattle.irr_root.proofs.Repetitions.{repetitions, repetitions-add_one, repetitions-repeated, repetitions-zero}
use Rattle.irr_root.proofs.repeated.repeated.Goals as goal

pub loop-a-init : goal.loop-a-init
loop-a-init c = c.new-numbers.ensures.items ∙ sym (repetitions-zero c.args.first c.args.step (slice_index c.args.times.now))

pub loop-init : goal.loop-init
loop-init c = c.loop-a.invariant ∙ sym (append-nil (repetitions c.args.first c.args.step (slice_index c.args.times.now) c.loop-a.a))

pub loop-preserved : goal.loop-preserved
loop-preserved c =
    let so_far = repetitions c.args.first c.args.step (slice_index c.args.times.now) c.loop-a.a in
    let number = c.args.first + c.loop-a.a * c.args.step in
    c.in_ok-push.ensures.items ∙ ap (λ xs. xs ++ number ∷ []) c.loop.invariant ∙ append_assoc so_far (replicate c.loop.counter number) (number ∷ [])
    ∙ ap (λ xs. so_far ++ xs) (replicate_more c.loop.counter number)

pub loop-a-preserved : goal.loop-a-preserved
loop-a-preserved c =
    let so_far = repetitions c.args.first c.args.step (slice_index c.args.times.now) c.loop-a.a in
    let number = c.args.first + c.loop-a.a * c.args.step in
    let done : c.loop.counter ≡ slice_index c.args.times.now c.loop-a.a = omega (arith, c.loop.auto.counter-end, c.loop-test.false) in
    c.loop.invariant ∙ ap (λ k. so_far ++ replicate k number) done ∙ sym (repetitions-add_one c.args.first c.args.step (slice_index c.args.times.now) c.loop-a.a)

pub returns : goal.returns
returns c =
    let done : c.loop-a.a ≡ length c.args.times.now = omega (arith, c.loop-a.auto.a-end, c.loop-a-test.false) in
    subst (AreRepeated c.args.first c.args.step c.args.times.now)
    (ap (repetitions c.args.first c.args.step (slice_index c.args.times.now)) (sym done) ∙ sym c.loop-a.invariant)
    (repetitions-repeated c.args.first c.args.step c.args.times.now c.requires.positive)
