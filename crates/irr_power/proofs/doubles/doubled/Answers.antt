-- The product of a canonical operation with itself.
use Rattle.std.proofs.Common.{◌≡◌, sym, ◌∙◌, ap₂, subst, ℕ, ◌<◌, ◌≤◌, List, length, get_or, arith}
use Rattle.std.proofs.lemmas.List.{get_or_default}
use native.Mathlib.Nat as Nat
use Rattle.irr_space.specs.Operation.{◌⊙◌}
use Rattle.irr_seitz.specs.OperationMeaning.{operation}
use Rattle.irr_seitz.specs.declared.op.Op.{Op}
use Rattle.irr_close.specs.StandsFor.{stands_for}
use Rattle.irr_close.proofs.SpaceGroups.{space_group}
use Rattle.irr_little.proofs.Shifts.{both_numbers, cell_of, entries_at, numbers_at, small_pair}
use Rattle.irr_little.proofs.Spaces.{canonical_at}
use Rattle.irr_power.proofs.doubles.doubled.Goals as goal

inside : (n : ℕ) (xs ys : List Op) → xs ≡ ys → n < length ys → n < length xs
inside n xs ys e l = subst (λ (zs : List Op). n < length zs) (sym e) l

pub compose-requires-clause-entries : goal.compose-requires-clause-entries
compose-requires-clause-entries c = entries_at c.ops-ops.result.now c.args.group.now.centrings.items c.ops-ops.ensures.canonical
    c.args.place c.index-ops-place.result
    (inside c.args.place c.ops-ops.result.now c.args.group.now.ops.items c.ops-ops.ensures.list c.requires) c.index-ops-place.is

pub compose-requires-clause-other_entries : goal.compose-requires-clause-other_entries
compose-requires-clause-other_entries c = entries_at c.ops-ops.result.now c.args.group.now.centrings.items c.ops-ops.ensures.canonical
    c.args.place c.index-ops-place.result
    (inside c.args.place c.ops-ops.result.now c.args.group.now.ops.items c.ops-ops.ensures.list c.requires) c.index-ops-place.is

pub compose-requires-clause-denominator : goal.compose-requires-clause-denominator
compose-requires-clause-denominator c =
    let l = inside c.args.place c.ops-ops.result.now c.args.group.now.ops.items c.ops-ops.ensures.list c.requires in
    λ m h. small_pair c.ops-ops.result.now c.args.group.now.centrings.items c.ops-ops.ensures.canonical
    c.args.place c.index-ops-place.result l c.index-ops-place.is c.args.place c.index-ops-place.result l c.index-ops-place.is m h

pub compose-requires-clause-numerators : goal.compose-requires-clause-numerators
compose-requires-clause-numerators c = numbers_at c.ops-ops.result.now c.args.group.now.centrings.items c.ops-ops.ensures.canonical
    c.args.place c.index-ops-place.result
    (inside c.args.place c.ops-ops.result.now c.args.group.now.ops.items c.ops-ops.ensures.list c.requires) c.index-ops-place.is

pub compose-requires-clause-other_numerators : goal.compose-requires-clause-other_numerators
compose-requires-clause-other_numerators c = numbers_at c.ops-ops.result.now c.args.group.now.centrings.items c.ops-ops.ensures.canonical
    c.args.place c.index-ops-place.result
    (inside c.args.place c.ops-ops.result.now c.args.group.now.ops.items c.ops-ops.ensures.list c.requires) c.index-ops-place.is

-- the operation that was read
read_is : (n : ℕ) (xs ys : List Op) → xs ≡ ys → n < length ys → (g : Op) → g ≡ get_or xs n g → (d : Op) → g ≡ get_or ys n d
read_is n xs ys e l g is d = subst (λ (zs : List Op). g ≡ get_or zs n g) e is ∙ get_or_default ys n g d l

pub returns-clause-member : goal.returns-clause-member
returns-clause-member c =
    let group = c.args.group.now in
    let g = c.index-ops-place.result in
    let here : stands_for group (operation g) =
    subst (λ (x : Op). stands_for group (operation x))
    (sym (read_is c.args.place c.ops-ops.result.now group.ops.items c.ops-ops.ensures.list c.requires g c.index-ops-place.is g))
    (canonical_at group g c.args.place c.requires).member in
    subst (stands_for group) (sym c.compose.ensures) ((space_group group).is_group.has_product (operation g) (operation g) here here)

pub returns-clause-small : goal.returns-clause-small
returns-clause-small c =
    let group = c.args.group.now in
    let l = inside c.args.place c.ops-ops.result.now group.ops.items c.ops-ops.ensures.list c.requires in
    let g = c.index-ops-place.result in
    let cell = cell_of c.ops-ops.result.now group.centrings.items c.ops-ops.ensures.canonical c.args.place g l c.index-ops-place.is in
    let few = both_numbers g g c.compose.result
    (entries_at c.ops-ops.result.now group.centrings.items c.ops-ops.ensures.canonical c.args.place g l c.index-ops-place.is)
    cell cell c.compose.ensures in
    λ i. Nat.le_trans (few i) (Nat.mul-le-mul_right c.compose.result.den (let m : 28 ≤ 100000 = omega arith in m))

pub returns-clause-square : goal.returns-clause-square
returns-clause-square c d =
    let e = read_is c.args.place c.ops-ops.result.now c.args.group.now.ops.items c.ops-ops.ensures.list c.requires
    c.index-ops-place.result c.index-ops-place.is d in
    c.compose.ensures ∙ ap₂ (λ (a : Op) (b : Op). operation a ⊙ operation b) e e
