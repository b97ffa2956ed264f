-- The table of the little group.
use Rattle.std.proofs.Common.{◌≡◌, sym, ◌∙◌, ap, subst, ℕ, ◌<◌, ◌≤◌, List, length, vec_len}
use Rattle.irr_seitz.specs.PhaseMeaning.{sign_of}
use Rattle.irr_kvec.specs.WaveMeaning.{wave_vector}
use Rattle.irr_cocycle.proofs.Phases.{order_at, order-positive}
use Rattle.irr_rep.specs.Table.{AreEntries}
use Rattle.irr_rep.specs.Twisted.{phase_table, place_count}
use Rattle.irr_space.specs.Operation.{WaveVector}
use Rattle.irr_close.specs.declared.group.Group.{Group}
use Rattle.irr_close.specs.StandsFor.{stands_for}
use Rattle.irr_little.specs.Entries.{AreClosed, IsProductEntry, IsPhaseEntry}
use Rattle.irr_little.specs.Table.{IsLittleTable}
use Rattle.irr_space.specs.Star.{IsInLittleGroup}
use Rattle.irr_cocycle.proofs.LittleGroups.{little_subgroup}
use Rattle.irr_little.proofs.SubgroupTables.{closed_places, some_place, lists_group, lists_inverses, lists_factors}
use Rattle.irr_little.proofs.Tables.{listed_places, little_list_table}
use Rattle.irr_close.proofs.SpaceGroups.{space_group}
use Rattle.irr_little.proofs.table.table.Goals as goal

pub entries-requires-clause-order : goal.entries-requires-clause-order
entries-requires-clause-order c = order_at (stands_for c.args.group.now) (wave_vector c.args.k.now) c.args.order c.requires.order

pub entries-requires-clause-closed : goal.entries-requires-clause-closed
entries-requires-clause-closed c = subst (AreClosed c.args.group.now) (sym c.deref.ensures.value)
    (closed_places c.args.group.now (space_group c.args.group.now) (wave_vector c.args.k.now) (IsInLittleGroup (stands_for c.args.group.now) (wave_vector c.args.k.now)) (little_subgroup (stands_for c.args.group.now) (space_group c.args.group.now).is_group (wave_vector c.args.k.now)) c.args.places.items (listed_places c.args.group.now (wave_vector c.args.k.now) c.args.places.items c.requires.places))

products_in : (group : Group) (xs ys zs : List ℕ) → xs ≡ ys → AreEntries (length xs) (IsProductEntry group xs) zs → AreEntries (length ys)
    (IsProductEntry group ys) zs
products_in group xs ys zs e h = subst (λ (vs : List ℕ). AreEntries (length vs) (IsProductEntry group vs) zs) e h

exponents_in : (group : Group) (k : WaveVector) (n : ℕ) (xs ys zs : List ℕ) → xs ≡ ys → AreEntries (length xs) (IsPhaseEntry group k n xs) zs
    → AreEntries (length ys) (IsPhaseEntry group k n ys) zs
exponents_in group k n xs ys zs e h = subst (λ (vs : List ℕ). AreEntries (length vs) (IsPhaseEntry group k n vs) zs) e h

pub new-requires-clause-order_positive : goal.new-requires-clause-order_positive
new-requires-clause-order_positive c = order-positive (stands_for c.args.group.now) (sign_of c.args.group.now.phase)
    (wave_vector c.args.k.now) c.args.order c.requires.order

pub new-requires-clause-not_empty : goal.new-requires-clause-not_empty
new-requires-clause-not_empty c = subst (λ n. 0 < n) (sym c.args.places.ok.0) (some_place c.args.group.now (space_group c.args.group.now)
    (wave_vector c.args.k.now) (IsInLittleGroup (stands_for c.args.group.now) (wave_vector c.args.k.now)) (little_subgroup (stands_for c.args.group.now) (space_group c.args.group.now).is_group (wave_vector c.args.k.now)) c.args.places.items (listed_places c.args.group.now (wave_vector c.args.k.now) c.args.places.items c.requires.places))

pub new-requires-clause-places_within : goal.new-requires-clause-places_within
new-requires-clause-places_within c = subst (λ n. n ≤ 48) (sym c.args.places.ok.0) (closed_places c.args.group.now (space_group c.args.group.now)
    (wave_vector c.args.k.now) (IsInLittleGroup (stands_for c.args.group.now) (wave_vector c.args.k.now)) (little_subgroup (stands_for c.args.group.now) (space_group c.args.group.now).is_group (wave_vector c.args.k.now)) c.args.places.items (listed_places c.args.group.now (wave_vector c.args.k.now) c.args.places.items c.requires.places)).few

pub new-requires-clause-group : goal.new-requires-clause-group
new-requires-clause-group c = lists_group c.args.group.now (space_group c.args.group.now)
    (wave_vector c.args.k.now) (IsInLittleGroup (stands_for c.args.group.now) (wave_vector c.args.k.now)) (little_subgroup (stands_for c.args.group.now) (space_group c.args.group.now).is_group (wave_vector c.args.k.now)) c.args.places.items (listed_places c.args.group.now (wave_vector c.args.k.now) c.args.places.items c.requires.places)
    (vec_len c.args.places) c.args.places.ok.0 c.args.order (order_at (stands_for c.args.group.now) (wave_vector c.args.k.now) c.args.order c.requires.order)
    c.in_ok-products.products.items c.in_ok-products.exponents.items
    (products_in c.args.group.now c.deref.result.now c.args.places.items c.in_ok-products.products.items c.deref.ensures.value
    c.in_ok-products.ensures.products)
    (exponents_in c.args.group.now
    (wave_vector c.args.k.now) c.args.order c.deref.result.now c.args.places.items c.in_ok-products.exponents.items c.deref.ensures.value
    c.in_ok-products.ensures.exponents)

pub new-requires-clause-inverses : goal.new-requires-clause-inverses
new-requires-clause-inverses c = lists_inverses c.args.group.now (space_group c.args.group.now)
    (wave_vector c.args.k.now) (IsInLittleGroup (stands_for c.args.group.now) (wave_vector c.args.k.now)) (little_subgroup (stands_for c.args.group.now) (space_group c.args.group.now).is_group (wave_vector c.args.k.now)) c.args.places.items (listed_places c.args.group.now (wave_vector c.args.k.now) c.args.places.items c.requires.places)
    (vec_len c.args.places) c.args.places.ok.0 c.args.order (order_at (stands_for c.args.group.now) (wave_vector c.args.k.now) c.args.order c.requires.order)
    c.in_ok-products.products.items c.in_ok-products.exponents.items
    (products_in c.args.group.now c.deref.result.now c.args.places.items c.in_ok-products.products.items c.deref.ensures.value
    c.in_ok-products.ensures.products)
    (exponents_in c.args.group.now
    (wave_vector c.args.k.now) c.args.order c.deref.result.now c.args.places.items c.in_ok-products.exponents.items c.deref.ensures.value
    c.in_ok-products.ensures.exponents)

pub new-requires-clause-factors : goal.new-requires-clause-factors
new-requires-clause-factors c = lists_factors c.args.group.now (space_group c.args.group.now)
    (wave_vector c.args.k.now) (IsInLittleGroup (stands_for c.args.group.now) (wave_vector c.args.k.now)) (little_subgroup (stands_for c.args.group.now) (space_group c.args.group.now).is_group (wave_vector c.args.k.now)) c.args.places.items (listed_places c.args.group.now (wave_vector c.args.k.now) c.args.places.items c.requires.places)
    (vec_len c.args.places) c.args.places.ok.0 c.args.order (order_at (stands_for c.args.group.now) (wave_vector c.args.k.now) c.args.order c.requires.order)
    c.in_ok-products.products.items c.in_ok-products.exponents.items
    (products_in c.args.group.now c.deref.result.now c.args.places.items c.in_ok-products.products.items c.deref.ensures.value
    c.in_ok-products.ensures.products)
    (exponents_in c.args.group.now
    (wave_vector c.args.k.now) c.args.order c.deref.result.now c.args.places.items c.in_ok-products.exponents.items c.deref.ensures.value
    c.in_ok-products.ensures.exponents)

pub returns : goal.returns
returns c = subst (λ (ys : List ℕ). IsLittleTable c.args.group.now (wave_vector c.args.k.now) ys (phase_table c.in_ok-t.t))
    (sym c.in_ok-t.ensures.places)
    (little_list_table c.args.group.now (space_group c.args.group.now) (wave_vector c.args.k.now) c.args.places.items c.requires.places
    (place_count c.in_ok-t.t)
    (c.in_ok-t.t.places.ok.0 ∙ ap length c.in_ok-t.ensures.places)
    c.args.order c.requires.order c.in_ok-products.products.items c.in_ok-products.exponents.items
    (products_in c.args.group.now c.deref.result.now c.args.places.items c.in_ok-products.products.items c.deref.ensures.value
    c.in_ok-products.ensures.products)
    (exponents_in c.args.group.now
    (wave_vector c.args.k.now) c.args.order c.deref.result.now c.args.places.items c.in_ok-products.exponents.items c.deref.ensures.value
    c.in_ok-products.ensures.exponents)
    (phase_table c.in_ok-t.t) c.in_ok-t.ensures.table)
