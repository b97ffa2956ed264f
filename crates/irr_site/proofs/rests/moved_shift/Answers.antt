-- As for products of canonical operations.
use Rattle.std.proofs.Common.{◌≡◌, sym, ◌∙◌, ap, ap₂, subst, ℕ, List, ◌<◌, length, get_or}
use Rattle.irr_algebra.specs.Matrix.{◌⊖◌}
use Rattle.irr_space.specs.Operation.{Operation, ◌⊙◌}
use Rattle.irr_rat.specs.VectorMeaning.{vector}
use Rattle.irr_seitz.specs.OperationMeaning.{operation}
use Rattle.irr_seitz.specs.declared.op.Op.{Op}
use Rattle.irr_little.proofs.Shifts.{cell_of, entries_at, fits_shift, numbers_at, shift_numbers, small_pair}
use Rattle.irr_site.proofs.Bounds.{shift_denominator}
use Rattle.irr_site.proofs.OperationLists.{in_length, read_at}
use Rattle.irr_site.proofs.rests.moved_shift.Goals as goal

pub compose-both-requires-clause-denominator : goal.compose-both-requires-clause-denominator
compose-both-requires-clause-denominator c m h =
    let group = c.args.group.now in
    let xs = c.ops-ops.result.now in
    small_pair xs group.centrings.items c.ops-ops.ensures.canonical
    c.args.op c.index-ops-op.result (in_length xs group.ops.items c.ops-ops.ensures.list c.args.op c.requires.left) c.index-ops-op.is
    c.args.carrier c.index-ops-carrier.result
    (in_length xs group.ops.items c.ops-ops.ensures.list c.args.carrier c.requires.right) c.index-ops-carrier.is m h

pub compose-both-requires-clause-numerators : goal.compose-both-requires-clause-numerators
compose-both-requires-clause-numerators c = numbers_at c.ops-ops.result.now c.args.group.now.centrings.items c.ops-ops.ensures.canonical
    c.args.op c.index-ops-op.result
    (in_length c.ops-ops.result.now c.args.group.now.ops.items c.ops-ops.ensures.list c.args.op c.requires.left) c.index-ops-op.is

pub compose-both-requires-clause-other_numerators : goal.compose-both-requires-clause-other_numerators
compose-both-requires-clause-other_numerators c = numbers_at c.ops-ops.result.now c.args.group.now.centrings.items c.ops-ops.ensures.canonical
    c.args.carrier c.index-ops-carrier.result
    (in_length c.ops-ops.result.now c.args.group.now.ops.items c.ops-ops.ensures.list c.args.carrier c.requires.right) c.index-ops-carrier.is

pub difference-requires : goal.difference-requires
difference-requires c =
    let group = c.args.group.now in
    let xs = c.ops-ops.result.now in
    let l = in_length xs group.ops.items c.ops-ops.ensures.list c.args.carrier c.requires.right in
    fits_shift xs group.centrings.items c.ops-ops.ensures.canonical
    c.args.op c.index-ops-op.result (in_length xs group.ops.items c.ops-ops.ensures.list c.args.op c.requires.left) c.index-ops-op.is
    c.args.carrier c.index-ops-carrier.result l c.index-ops-carrier.is
    c.compose-both.result c.compose-both.ensures c.args.carrier c.index-ops-carrier-2.result l c.index-ops-carrier-2.is

pub returns-clause-small : goal.returns-clause-small
returns-clause-small c =
    let group = c.args.group.now in
    let xs = c.ops-ops.result.now in
    let form = c.ops-ops.ensures.canonical in
    let i = in_length xs group.ops.items c.ops-ops.ensures.list c.args.op c.requires.left in
    let l = in_length xs group.ops.items c.ops-ops.ensures.list c.args.carrier c.requires.right in
    shift_numbers c.index-ops-op.result c.index-ops-carrier.result c.compose-both.result
    (entries_at xs group.centrings.items form c.args.op c.index-ops-op.result i c.index-ops-op.is)
    (cell_of xs group.centrings.items form c.args.op c.index-ops-op.result i c.index-ops-op.is)
    (cell_of xs group.centrings.items form c.args.carrier c.index-ops-carrier.result l c.index-ops-carrier.is)
    c.compose-both.ensures c.index-ops-carrier-2.result c.difference.result
    (cell_of xs group.centrings.items form c.args.carrier c.index-ops-carrier-2.result l c.index-ops-carrier-2.is)
    c.difference.ensures

pub returns-clause-denominator : goal.returns-clause-denominator
returns-clause-denominator c =
    let group = c.args.group.now in
    let xs = c.ops-ops.result.now in
    let l = in_length xs group.ops.items c.ops-ops.ensures.list c.args.carrier c.requires.right in
    shift_denominator xs group.centrings.items c.ops-ops.ensures.canonical c.args.op c.args.carrier c.args.carrier
    c.index-ops-op.result c.index-ops-carrier.result c.index-ops-carrier-2.result
    (in_length xs group.ops.items c.ops-ops.ensures.list c.args.op c.requires.left) l l
    c.index-ops-op.is c.index-ops-carrier.is c.index-ops-carrier-2.is c.difference.result
    (c.difference.ensures ∙ ap (λ (f : Operation). f.vector ⊖ (operation c.index-ops-carrier-2.result).vector) c.compose-both.ensures)

pub returns-clause-vector : goal.returns-clause-vector
returns-clause-vector c d =
    let group = c.args.group.now in
    let xs = c.ops-ops.result.now in
    c.difference.ensures ∙ ap (λ (f : Operation). f.vector ⊖ (operation c.index-ops-carrier-2.result).vector) c.compose-both.ensures
    ∙ ap (λ (o : Op). (operation c.index-ops-op.result ⊙ operation c.index-ops-carrier.result).vector ⊖ (operation o).vector)
    (read_at xs group.ops.items c.ops-ops.ensures.list c.args.carrier c.index-ops-carrier-2.result d c.requires.right c.index-ops-carrier-2.is)
    ∙ ap₂ (λ (o p : Op). (operation o ⊙ operation p).vector ⊖ (operation (get_or group.ops.items c.args.carrier d)).vector)
    (read_at xs group.ops.items c.ops-ops.ensures.list c.args.op c.index-ops-op.result d c.requires.left c.index-ops-op.is)
    (read_at xs group.ops.items c.ops-ops.ensures.list c.args.carrier c.index-ops-carrier.result d c.requires.right c.index-ops-carrier.is)
