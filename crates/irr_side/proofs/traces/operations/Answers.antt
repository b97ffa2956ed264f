-- One more operation.
use Rattle.std.proofs.Common.{rules, ◌≡◌, ◌<◌, sym, ap, subst, length, get_or, slice_index}
use Rattle.irr_seitz.specs.declared.op.Op.{Op}
use Rattle.irr_kvec.specs.WaveMeaning.{wave_vector}
use Rattle.irr_little.specs.Places.{AreLittlePlaces}
use Rattle.irr_side.specs.ArmTraces.{AreEach}
use Rattle.irr_side.proofs.EachItems.{each_more, each_none}
use Rattle.irr_side.proofs.LittleOperations.{members_in_cell, members_of_group, numbering_of_list, place_inside, read_there}
use Rattle.irr_side.proofs.traces.operations.Goals as goal

pub loop-place-init : goal.loop-place-init
loop-place-init c = each_none _ c.new-listed.result.items c.new-listed.ensures.items

pub bounds-ops-place : goal.bounds-ops-place
bounds-ops-place c =
    let group = c.args.group.now in
    let k = wave_vector c.args.wave.now in
    let xs = c.as_slice-place-items.result.now in
    let places = subst (λ ns. AreLittlePlaces group k ns) (sym c.as_slice-place-items.ensures.value) c.in_ok-places.ensures in
    subst (λ n. slice_index xs c.loop-place.place-index < n) (sym (ap length c.ops-ops.ensures.list))
    (place_inside group k xs places c.loop-place.place-index c.loop-place-test.true)

pub loop-place-preserved : goal.loop-place-preserved
loop-place-preserved c =
    let group = c.args.group.now in
    let k = wave_vector c.args.wave.now in
    let xs = c.as_slice-place-items.result.now in
    let places = subst (λ ns. AreLittlePlaces group k ns) (sym c.as_slice-place-items.ensures.value) c.in_ok-places.ensures in
    each_more (λ n (o : Op). (d : Op) → o ≡ get_or group.ops.items (slice_index xs n) d) c.loop-place.place-index
    c.loop-place.listed.items c.push.new.self.items c.index-ops-place.result c.in_ok-push.ensures.items c.loop-place.invariant
    (read_there group k xs places c.ops-ops.result.now c.ops-ops.ensures.list c.loop-place.place-index c.loop-place-test.true
    c.index-ops-place.result c.index-ops-place.is)

pub returns-clause-members : goal.returns-clause-members
returns-clause-members c =
    let group = c.args.group.now in
    let k = wave_vector c.args.wave.now in
    let xs = c.as_slice-place-items.result.now in
    let places = subst (λ ns. AreLittlePlaces group k ns) (sym c.as_slice-place-items.ensures.value) c.in_ok-places.ensures in
    let done : c.loop-place.place-index ≡ length c.as_slice-place-items.result.now = search rules in
    members_of_group group k xs places c.loop-place.listed.items
    (subst (λ m. AreEach (λ n (o : Op). (d : Op) → o ≡ get_or group.ops.items (slice_index xs n) d) m c.loop-place.listed.items) done
    c.loop-place.invariant)

pub returns-clause-cell : goal.returns-clause-cell
returns-clause-cell c =
    let group = c.args.group.now in
    let k = wave_vector c.args.wave.now in
    let xs = c.as_slice-place-items.result.now in
    let places = subst (λ ns. AreLittlePlaces group k ns) (sym c.as_slice-place-items.ensures.value) c.in_ok-places.ensures in
    let done : c.loop-place.place-index ≡ length c.as_slice-place-items.result.now = search rules in
    members_in_cell group k xs places c.loop-place.listed.items
    (subst (λ m. AreEach (λ n (o : Op). (d : Op) → o ≡ get_or group.ops.items (slice_index xs n) d) m c.loop-place.listed.items) done
    c.loop-place.invariant)

pub returns-clause-numbering : goal.returns-clause-numbering
returns-clause-numbering c =
    let group = c.args.group.now in
    let k = wave_vector c.args.wave.now in
    let xs = c.as_slice-place-items.result.now in
    let places = subst (λ ns. AreLittlePlaces group k ns) (sym c.as_slice-place-items.ensures.value) c.in_ok-places.ensures in
    let done : c.loop-place.place-index ≡ length c.as_slice-place-items.result.now = search rules in
    numbering_of_list group k xs places c.loop-place.listed.items
    (subst (λ m. AreEach (λ n (o : Op). (d : Op) → o ≡ get_or group.ops.items (slice_index xs n) d) m c.loop-place.listed.items) done
    c.loop-place.invariant)
