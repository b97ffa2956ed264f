-- The item at one more place.
use Rattle.std.proofs.Common.{◌≡◌, ◌∙◌, sym, ap, subst, refl, get_or, set, None, Some, slice_index, ◌<◌, length, rules}
use Rattle.irr_climb.proofs.Rearranging.{slot_filled, taken_more, written_back}
use Rattle.irr_climb.proofs.order.rearranged.Goals as goal

pub take_slot-item-requires-clause-filled : goal.take_slot-item-requires-clause-filled
take_slot-item-requires-clause-filled g c =
    let places = c.args.places.now in
    let k = c.loop-place.place-index in
    let inside : k < length places = search rules in
    let s = slot_filled c.args.items.items places c.requires.within c.requires.distinct k c.loop-place.slots.items c.loop-place.taken.items
    c.loop-place.invariant
    inside in
    (s.0, ap (λ xs. get_or xs (slice_index places k) None) c.deref_mut.ensures.value ∙ s.1)

pub loop-place-preserved : goal.loop-place-preserved
loop-place-preserved g c =
    let places = c.args.places.now in
    let k = c.loop-place.place-index in
    let inside : k < length places = search rules in
    let place = slice_index places k in
    let slots = c.loop-place.slots.items in
    let x = c.take_slot-item.result in
    taken_more c.args.items.items places c.requires.within c.requires.distinct k slots c.loop-place.taken.items c.loop-place.invariant inside
    place refl x (ap (λ xs. get_or xs place None) (sym c.deref_mut.ensures.value) ∙ c.take_slot-item.ensures.item)
    _ (written_back c.loop-place.slots.len c.take_slot-item.new.slots slots (sym (c.take_slot-item.auto.slots ∙ c.deref_mut.ensures.len))
    ∙ c.take_slot-item.ensures.empty ∙ ap (λ xs. set xs place None) c.deref_mut.ensures.value)
    c.push.new.self.items c.in_ok-push.ensures.items
