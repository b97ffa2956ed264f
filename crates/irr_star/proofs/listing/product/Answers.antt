-- The product of two canonical operations.
use Rattle.std.proofs.Common.{ℕ, ◌≡◌, ◌<◌, sym, ◌∙◌, ap₂, subst, List, length, get_or, slice_index}
use Rattle.irr_space.specs.Operation.{WaveVector, ◌⊙◌}
use Rattle.irr_seitz.specs.PhaseMeaning.{sign_of}
use Rattle.irr_seitz.specs.declared.op.Op.{Op}
use Rattle.irr_rep.specs.Twisted.{operation_places, place_count}
use Rattle.irr_rep.specs.declared.table.Twisted.{Twisted}
use Rattle.irr_close.specs.StandsFor.{stands_for}
use Rattle.irr_close.specs.declared.group.Group.{Group}
use Rattle.irr_little.specs.declared.arms.Arm.{Arm}
use Rattle.irr_full.specs.Star.{Star}
use Rattle.irr_star.specs.Stars.{IsStarOf}
use Rattle.irr_little.proofs.Shifts.{both_numbers, cell_of, entries_at, numbers_at, small_pair}
use Rattle.irr_star.proofs.StarLists.{arm_below, arm_index, carrier_at, operation_at, place_below, place_index}
use Rattle.irr_star.proofs.listing.product.Goals as goal

-- the numbers of the two operations, in the list that was read
first_below : (group : Group) (arms : List Arm) (t : Twisted)
    (star : (k : WaveVector) × (U : Star (sign_of group.phase) (stands_for group) k) × IsStarOf group arms t U)
    (i : ℕ) → i < length arms → (ops : List Op) → ops ≡ group.ops.items → (a : Arm) → (get_or arms i a).op < length ops
first_below group arms t star i l ops same a = subst (λ (xs : List Op). (get_or arms i a).op < length xs) (sym same)
    (arm_below group arms star.1 star.2.are_arms i l a)

second_below : (group : Group) (arms : List Arm) (t : Twisted)
    (star : (k : WaveVector) × (U : Star (sign_of group.phase) (stands_for group) k) × IsStarOf group arms t U)
    (p : ℕ) → p < place_count t → (ops : List Op) → ops ≡ group.ops.items → (n : ℕ) → n ≡ slice_index
    (operation_places t) p → n < length ops
second_below group arms t star p l ops same n e = subst (λ (xs : List Op). n < length xs) (sym same)
    (subst (λ m. m < length group.ops.items) (sym e) (place_below group arms t star.1 star.2 p l))

pub bounds-ops-number : goal.bounds-ops-number
bounds-ops-number c = first_below c.args.group.now c.args.arms.now c.args.t.now c.requires.star c.args.i c.requires.arm
    c.ops-ops.result.now
    c.ops-ops.ensures.list c.index-arms-i.result

pub bounds-ops-inner : goal.bounds-ops-inner
bounds-ops-inner c = second_below c.args.group.now c.args.arms.now c.args.t.now c.requires.star c.args.p
    c.requires.place c.ops-ops.result.now
    c.ops-ops.ensures.list c.place-inner.result c.place-inner.ensures

pub compose-op-requires-clause-entries : goal.compose-op-requires-clause-entries
compose-op-requires-clause-entries c = entries_at c.ops-ops.result.now c.args.group.now.centrings.items
    c.ops-ops.ensures.canonical
    (get_or c.args.arms.now c.args.i c.index-arms-i.result).op c.index-ops-number.result
    (first_below c.args.group.now c.args.arms.now c.args.t.now c.requires.star c.args.i c.requires.arm
    c.ops-ops.result.now
    c.ops-ops.ensures.list c.index-arms-i.result) c.index-ops-number.is

pub compose-op-requires-clause-other_entries : goal.compose-op-requires-clause-other_entries
compose-op-requires-clause-other_entries c = entries_at c.ops-ops.result.now c.args.group.now.centrings.items
    c.ops-ops.ensures.canonical
    c.place-inner.result c.index-ops-inner.result
    (second_below c.args.group.now c.args.arms.now c.args.t.now c.requires.star c.args.p c.requires.place
    c.ops-ops.result.now
    c.ops-ops.ensures.list c.place-inner.result c.place-inner.ensures) c.index-ops-inner.is

pub compose-op-requires-clause-denominator : goal.compose-op-requires-clause-denominator
compose-op-requires-clause-denominator c = λ m h. small_pair c.ops-ops.result.now c.args.group.now.centrings.items
    c.ops-ops.ensures.canonical
    (get_or c.args.arms.now c.args.i c.index-arms-i.result).op c.index-ops-number.result
    (first_below c.args.group.now c.args.arms.now c.args.t.now c.requires.star c.args.i c.requires.arm
    c.ops-ops.result.now
    c.ops-ops.ensures.list c.index-arms-i.result) c.index-ops-number.is
    c.place-inner.result c.index-ops-inner.result
    (second_below c.args.group.now c.args.arms.now c.args.t.now c.requires.star c.args.p c.requires.place
    c.ops-ops.result.now
    c.ops-ops.ensures.list c.place-inner.result c.place-inner.ensures) c.index-ops-inner.is m h

pub compose-op-requires-clause-numerators : goal.compose-op-requires-clause-numerators
compose-op-requires-clause-numerators c = numbers_at c.ops-ops.result.now c.args.group.now.centrings.items
    c.ops-ops.ensures.canonical
    (get_or c.args.arms.now c.args.i c.index-arms-i.result).op c.index-ops-number.result
    (first_below c.args.group.now c.args.arms.now c.args.t.now c.requires.star c.args.i c.requires.arm
    c.ops-ops.result.now
    c.ops-ops.ensures.list c.index-arms-i.result) c.index-ops-number.is

pub compose-op-requires-clause-other_numerators : goal.compose-op-requires-clause-other_numerators
compose-op-requires-clause-other_numerators c = numbers_at c.ops-ops.result.now c.args.group.now.centrings.items
    c.ops-ops.ensures.canonical
    c.place-inner.result c.index-ops-inner.result
    (second_below c.args.group.now c.args.arms.now c.args.t.now c.requires.star c.args.p c.requires.place
    c.ops-ops.result.now
    c.ops-ops.ensures.list c.place-inner.result c.place-inner.ensures) c.index-ops-inner.is

pub returns-clause-product : goal.returns-clause-product
returns-clause-product c k U is =
    let group = c.args.group.now in
    let arms = c.args.arms.now in
    let t = c.args.t.now in
    let row = arm_index group arms U is.are_arms c.args.i c.requires.arm in
    let inner = place_index group arms t U is c.args.p c.requires.place in
    record {
      row = row.0;
      inner = inner.0;
      row-number = row.1;
      inner-number = inner.1;
      is = c.compose-op.ensures
          ∙ ap₂ (λ a b. a ⊙ b)
          (carrier_at group arms U is.are_arms c.args.i c.index-arms-i.result c.ops-ops.result.now
          c.index-ops-number.result c.ops-ops.ensures.list
          c.index-ops-number.is row.0 row.1)
          (operation_at group arms t U is c.args.p c.place-inner.result c.ops-ops.result.now c.index-ops-inner.result
          c.place-inner.ensures
          c.ops-ops.ensures.list c.index-ops-inner.is inner.0 inner.1);
      numbers = both_numbers c.index-ops-number.result c.index-ops-inner.result c.compose-op.result
          (entries_at c.ops-ops.result.now group.centrings.items c.ops-ops.ensures.canonical
          (get_or arms c.args.i c.index-arms-i.result).op c.index-ops-number.result
          (first_below group arms t c.requires.star c.args.i c.requires.arm c.ops-ops.result.now c.ops-ops.ensures.list
          c.index-arms-i.result)
          c.index-ops-number.is)
          (cell_of c.ops-ops.result.now group.centrings.items c.ops-ops.ensures.canonical
          (get_or arms c.args.i c.index-arms-i.result).op c.index-ops-number.result
          (first_below group arms t c.requires.star c.args.i c.requires.arm c.ops-ops.result.now c.ops-ops.ensures.list
          c.index-arms-i.result)
          c.index-ops-number.is)
          (cell_of c.ops-ops.result.now group.centrings.items c.ops-ops.ensures.canonical c.place-inner.result
          c.index-ops-inner.result
          (second_below group arms t c.requires.star c.args.p c.requires.place c.ops-ops.result.now
          c.ops-ops.ensures.list c.place-inner.result
          c.place-inner.ensures) c.index-ops-inner.is)
          c.compose-op.ensures;
    }
