-- One more image.
use Rattle.std.proofs.Common.{rules, ◌≡◌, ◌∙◌, sym, ap, subst, subst₂, length, get_or, List}
use Rattle.irr_algebra.specs.Fin.{Fin}
use Rattle.irr_space.specs.CanonicalOperation.{IsNumbering}
use Rattle.irr_space.specs.Star.{IsInLittleGroup}
use Rattle.irr_seitz.specs.OperationMeaning.{operation}
use Rattle.irr_seitz.specs.declared.op.Op.{Op}
use Rattle.irr_kvec.specs.WaveMeaning.{wave_vector}
use Rattle.irr_close.specs.StandsFor.{stands_for}
use Rattle.irr_close.specs.declared.group.Group.{Group}
use Rattle.irr_mult.specs.Listing.{item}
use Rattle.irr_side.specs.ArmTraces.{AreEach}
use Rattle.irr_side.proofs.EachItems.{each_none, each_of_list}
use Rattle.irr_subduce.proofs.OperationImages.{IsMade, cell_numbers, cell_of_list, images_of_each, made_image, member_of_list}
use Rattle.irr_subduce.proofs.meetings.images.Goals as goal

pub loop-op-init : goal.loop-op-init
loop-op-init c = each_none _ c.new-images.result.items c.new-images.ensures.items

pub image-requires-clause-member : goal.image-requires-clause-member
image-requires-clause-member c = member_of_list c.args.sub.now.group c.group.result.now c.in_ok-inner.inner.items c.as_slice-op-items.result.now
    c.group.ensures c.as_slice-op-items.ensures.value c.in_ok-inner.ensures.members c.loop-op.op-index c.op-item.result c.loop-op-test.true
    c.op-item.is

pub image-requires-clause-numerators : goal.image-requires-clause-numerators
image-requires-clause-numerators c = cell_numbers c.args.sub.now.group c.op-item.result
    (member_of_list c.args.sub.now.group c.group.result.now c.in_ok-inner.inner.items c.as_slice-op-items.result.now
    c.group.ensures c.as_slice-op-items.ensures.value c.in_ok-inner.ensures.members c.loop-op.op-index c.op-item.result c.loop-op-test.true
    c.op-item.is)
    (cell_of_list c.in_ok-inner.inner.items c.as_slice-op-items.result.now c.as_slice-op-items.ensures.value c.in_ok-inner.ensures.cell
    c.loop-op.op-index c.op-item.result c.loop-op-test.true c.op-item.is)

pub loop-op-preserved : goal.loop-op-preserved
loop-op-preserved c = each_of_list (λ (g f : Op). IsMade c.args.group.now c.args.sub.now g f)
    c.as_slice-op-items.result.now c.loop-op.op-index c.loop-op-test.true c.op-item.result c.op-item.is c.loop-op.images.items
    c.push.new.self.items c.image.result c.in_ok-push.ensures.items c.loop-op.invariant
    (made_image c.args.group.now c.args.sub.now c.op-item.result c.image.result
    (cell_of_list c.in_ok-inner.inner.items c.as_slice-op-items.result.now c.as_slice-op-items.ensures.value c.in_ok-inner.ensures.cell
    c.loop-op.op-index c.op-item.result c.loop-op-test.true c.op-item.is) c.image.ensures.image
    (c.image.ensures.member c.args.group.now c.requires.sub.0 c.requires.sub.1))

pub returns : goal.returns
returns c =
    let done : c.loop-op.op-index ≡ length c.as_slice-op-items.result.now = search rules in
    images_of_each c.args.group.now c.args.sub.now (wave_vector c.args.wave.now) c.in_ok-inner.inner.items c.loop-op.images.items
    (subst (λ (h : Group). IsNumbering (stands_for h) (IsInLittleGroup (stands_for h) (wave_vector c.args.wave.now))
    (λ (p : Fin (length c.in_ok-inner.inner.items)). operation (item c.in_ok-inner.inner.items p))) c.group.ensures c.in_ok-inner.ensures.numbering)
    (subst (λ (os : List Op). AreEach (λ n (f : Op). (g : Op) → IsMade c.args.group.now c.args.sub.now (get_or os n g) f) (length os) c.loop-op.images.items)
    c.as_slice-op-items.ensures.value
    (subst (λ m. AreEach (λ n (f : Op). (g : Op) → IsMade c.args.group.now c.args.sub.now (get_or c.as_slice-op-items.result.now n g) f) m
    c.loop-op.images.items) done c.loop-op.invariant))
