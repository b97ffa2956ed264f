-- By the place that was found.
use Rattle.std.proofs.Common.{◌≡◌, sym, ◌∙◌, ap, ap₂, subst, refl, ℕ, ◌<◌, length, get_or, slice_index}
use Rattle.irr_space.specs.SpaceGroup.{IsTranslation}
use Rattle.irr_cocycle.proofs.Phases.{order_at, order-positive}
use Rattle.irr_rat.specs.VectorMeaning.{vector}
use Rattle.irr_seitz.specs.PhaseMeaning.{sign_of}
use Rattle.irr_seitz.specs.declared.op.Op.{Op}
use Rattle.irr_kvec.specs.WaveMeaning.{wave_vector}
use Rattle.irr_close.specs.StandsFor.{stands_for}
use Rattle.irr_little.proofs.SubgroupTables.{turns_whole}
use Rattle.irr_site.specs.Rests.{IsRestAt}
use Rattle.irr_site.proofs.Cosets.{some_op}
use Rattle.irr_site.proofs.RestLaws.{conjugate_of_together, kept, shift_in, shift_is}
use Rattle.irr_site.proofs.ShiftSizes.{phase_numbers}
use Rattle.irr_site.proofs.SiteGroups.{all_below}
use Rattle.irr_site.proofs.TableLaws.{few_places}
use Rattle.irr_site.proofs.rests.rest.Goals as goal

pub rest_place-requires-clause-places : goal.rest_place-requires-clause-places
rest_place-requires-clause-places c = all_below c.args.group.now (vector c.args.x.now) c.args.places.now c.requires.places

pub rest_place-requires-clause-short : goal.rest_place-requires-clause-short
rest_place-requires-clause-short c = few_places c.args.group.now (vector c.args.x.now) c.args.places.now c.requires.places

pub theta-exponent-requires-clause-positive : goal.theta-exponent-requires-clause-positive
theta-exponent-requires-clause-positive c = order-positive (stands_for c.args.group.now) (sign_of c.args.group.now.phase)
    (wave_vector c.args.k.now) c.args.order c.requires.order

pub theta-exponent-requires-clause-whole : goal.theta-exponent-requires-clause-whole
theta-exponent-requires-clause-whole c =
    let group = c.args.group.now in
    let o = c.requires.orbit in
    let found = c.in-Some.ensures.some in
    let d = some_op group in
    let shift = c.translation_at-shift.result in
    turns_whole (stands_for group) (wave_vector c.args.k.now) c.args.order
    (order_at (stands_for group) (wave_vector c.args.k.now) c.args.order c.requires.order) (vector shift)
    (shift_in group c.args.places.now o.0 o.1 c.args.op c.args.carrier c.requires.left c.requires.right o.2 o.3
    c.in-Some.place found.0 found.1 d (vector shift)
    (shift_is group c.args.places.now o.0 o.1 c.args.op c.args.carrier c.requires.left c.requires.right o.2 o.3
    c.read-both.result c.read-both.ensures d (vector shift) (c.translation_at-shift.ensures.vector d)))

pub theta-exponent-requires-clause-numerators : goal.theta-exponent-requires-clause-numerators
theta-exponent-requires-clause-numerators c =
    let group = c.args.group.now in
    let o = c.requires.orbit in
    let found = c.in-Some.ensures.some in
    let d = some_op group in
    let shift = c.translation_at-shift.result in
    phase_numbers group shift
    (shift_in group c.args.places.now o.0 o.1 c.args.op c.args.carrier c.requires.left c.requires.right o.2 o.3
    c.in-Some.place found.0 found.1 d (vector shift)
    (shift_is group c.args.places.now o.0 o.1 c.args.op c.args.carrier c.requires.left c.requires.right o.2 o.3
    c.read-both.result c.read-both.ensures d (vector shift) (c.translation_at-shift.ensures.vector d)))
    c.translation_at-shift.ensures.small

pub returns : goal.returns
unfolding IsRestAt
returns c O has a carried d =
    let group = c.args.group.now in
    let found = c.in-Some.ensures.some in
    let shift = c.translation_at-shift.result in
    kept group c.args.places.now O has c.args.op c.args.carrier c.requires.left c.requires.right a carried
    c.in-Some.place found.0 found.1 d (vector shift)
    (shift_is group c.args.places.now O has c.args.op c.args.carrier c.requires.left c.requires.right a carried
    c.read-both.result c.read-both.ensures d (vector shift) (c.translation_at-shift.ensures.vector d))
    (sign_of group.phase) (wave_vector c.args.k.now) c.args.order c.theta-exponent.result _ refl refl c.theta-exponent.ensures

pub returns-in_default : goal.returns-in_default
unfolding IsRestAt
returns-in_default c O has a carried d t =
    let group = c.args.group.now in
    let p = conjugate_of_together group c.args.places.now O has c.args.op c.args.carrier c.requires.left c.requires.right a carried d t in
    c.in_default.ensures.none refl p.0 p.1 p.2
