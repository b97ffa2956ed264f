-- The table of the line group.
use Rattle.std.proofs.Common.{◌≡◌, sym, ◌∙◌, ap, subst, ℕ, suc, ◌<◌, ◌≤◌, List, length, vec_len, get_or}
use Rattle.std.proofs.lemmas.List.{get_or_default}
use Rattle.irr_algebra.specs.Fin.{to_nat}
use Rattle.irr_space.specs.Operation.{WaveVector}
use Rattle.irr_seitz.specs.PhaseMeaning.{sign_of}
use Rattle.irr_kvec.specs.WaveMeaning.{wave_vector}
use Rattle.irr_kvec.specs.declared.wave.Wave.{Wave}
use Rattle.irr_cocycle.proofs.Phases.{order_at-positive}
use Rattle.irr_rep.specs.Table.{AreEntries}
use Rattle.irr_rep.specs.Twisted.{phase_table, place_count}
use Rattle.irr_close.specs.declared.group.Group.{Group}
use Rattle.irr_close.specs.StandsFor.{stands_for}
use Rattle.irr_close.proofs.SpaceGroups.{space_group}
use Rattle.irr_little.specs.Entries.{AreClosed, IsProductEntry, IsPhaseEntry}
use Rattle.irr_little.specs.Line.{line_points, IsLineGroupTable}
use Rattle.irr_little.proofs.SubgroupTables.{closed_places, some_place, lists_group, lists_inverses, lists_factors}
use Rattle.irr_little.proofs.LineTables.{before, length-before, InLine, line_inside, line_at, line_list_table}
use Rattle.irr_little.proofs.line.line_table.Goals as goal

pub entries-requires-clause-order : goal.entries-requires-clause-order
entries-requires-clause-order c = line_at c.args.group.now (before c.args.points.now) c.args.points.now c.index-points-0.result c.index-points-0.is c.args.order (c.requires.order (before c.args.points.now) c.index-points-0.result (length-before c.args.points.now c.requires.points))

pub entries-requires-clause-closed : goal.entries-requires-clause-closed
entries-requires-clause-closed c = subst (AreClosed c.args.group.now) (sym c.deref.ensures.value)
    (closed_places c.args.group.now (space_group c.args.group.now) (wave_vector c.index-points-0.result)
    (InLine c.args.group.now (before c.args.points.now) c.args.points.now c.index-points-0.result c.index-points-0.is) (line_inside c.args.group.now (before c.args.points.now) c.args.points.now c.index-points-0.result c.index-points-0.is) c.args.places.items
    (c.requires.places (before c.args.points.now) c.index-points-0.result (length-before c.args.points.now c.requires.points)))

products_in : (group : Group) (xs ys zs : List ℕ) → xs ≡ ys → AreEntries (length xs) (IsProductEntry group xs) zs → AreEntries (length ys)
    (IsProductEntry group ys) zs
products_in group xs ys zs e h = subst (λ (vs : List ℕ). AreEntries (length vs) (IsProductEntry group vs) zs) e h

exponents_in : (group : Group) (k : WaveVector) (n : ℕ) (xs ys zs : List ℕ) → xs ≡ ys → AreEntries (length xs) (IsPhaseEntry group k n xs) zs
    → AreEntries (length ys) (IsPhaseEntry group k n ys) zs
exponents_in group k n xs ys zs e h = subst (λ (vs : List ℕ). AreEntries (length vs) (IsPhaseEntry group k n vs) zs) e h

pub new-requires-clause-order_positive : goal.new-requires-clause-order_positive
new-requires-clause-order_positive c = order_at-positive (stands_for c.args.group.now) (sign_of c.args.group.now.phase) (wave_vector c.index-points-0.result) c.args.order
    (line_at c.args.group.now (before c.args.points.now) c.args.points.now c.index-points-0.result c.index-points-0.is c.args.order (c.requires.order (before c.args.points.now) c.index-points-0.result (length-before c.args.points.now c.requires.points)))

pub new-requires-clause-not_empty : goal.new-requires-clause-not_empty
new-requires-clause-not_empty c = subst (λ n. 0 < n) (sym c.args.places.ok.0) (some_place c.args.group.now (space_group c.args.group.now) (wave_vector c.index-points-0.result)
    (InLine c.args.group.now (before c.args.points.now) c.args.points.now c.index-points-0.result c.index-points-0.is) (line_inside c.args.group.now (before c.args.points.now) c.args.points.now c.index-points-0.result c.index-points-0.is) c.args.places.items
    (c.requires.places (before c.args.points.now) c.index-points-0.result (length-before c.args.points.now c.requires.points)))

pub new-requires-clause-places_within : goal.new-requires-clause-places_within
new-requires-clause-places_within c = subst (λ n. n ≤ 48) (sym c.args.places.ok.0) (closed_places c.args.group.now (space_group c.args.group.now) (wave_vector c.index-points-0.result)
    (InLine c.args.group.now (before c.args.points.now) c.args.points.now c.index-points-0.result c.index-points-0.is) (line_inside c.args.group.now (before c.args.points.now) c.args.points.now c.index-points-0.result c.index-points-0.is) c.args.places.items
    (c.requires.places (before c.args.points.now) c.index-points-0.result (length-before c.args.points.now c.requires.points))).few

pub new-requires-clause-group : goal.new-requires-clause-group
new-requires-clause-group c = lists_group c.args.group.now (space_group c.args.group.now) (wave_vector c.index-points-0.result)
    (InLine c.args.group.now (before c.args.points.now) c.args.points.now c.index-points-0.result c.index-points-0.is) (line_inside c.args.group.now (before c.args.points.now) c.args.points.now c.index-points-0.result c.index-points-0.is) c.args.places.items
    (c.requires.places (before c.args.points.now) c.index-points-0.result (length-before c.args.points.now c.requires.points))
    (vec_len c.args.places) c.args.places.ok.0 c.args.order (line_at c.args.group.now (before c.args.points.now) c.args.points.now c.index-points-0.result c.index-points-0.is c.args.order (c.requires.order (before c.args.points.now) c.index-points-0.result (length-before c.args.points.now c.requires.points)))
    c.in_ok-products.products.items c.in_ok-products.exponents.items
    (products_in c.args.group.now c.deref.result.now c.args.places.items c.in_ok-products.products.items c.deref.ensures.value c.in_ok-products.ensures.products)
    (exponents_in c.args.group.now (wave_vector c.index-points-0.result) c.args.order c.deref.result.now c.args.places.items c.in_ok-products.exponents.items
    c.deref.ensures.value c.in_ok-products.ensures.exponents)

pub new-requires-clause-inverses : goal.new-requires-clause-inverses
new-requires-clause-inverses c = lists_inverses c.args.group.now (space_group c.args.group.now) (wave_vector c.index-points-0.result)
    (InLine c.args.group.now (before c.args.points.now) c.args.points.now c.index-points-0.result c.index-points-0.is) (line_inside c.args.group.now (before c.args.points.now) c.args.points.now c.index-points-0.result c.index-points-0.is) c.args.places.items
    (c.requires.places (before c.args.points.now) c.index-points-0.result (length-before c.args.points.now c.requires.points))
    (vec_len c.args.places) c.args.places.ok.0 c.args.order (line_at c.args.group.now (before c.args.points.now) c.args.points.now c.index-points-0.result c.index-points-0.is c.args.order (c.requires.order (before c.args.points.now) c.index-points-0.result (length-before c.args.points.now c.requires.points)))
    c.in_ok-products.products.items c.in_ok-products.exponents.items
    (products_in c.args.group.now c.deref.result.now c.args.places.items c.in_ok-products.products.items c.deref.ensures.value c.in_ok-products.ensures.products)
    (exponents_in c.args.group.now (wave_vector c.index-points-0.result) c.args.order c.deref.result.now c.args.places.items c.in_ok-products.exponents.items
    c.deref.ensures.value c.in_ok-products.ensures.exponents)

pub new-requires-clause-factors : goal.new-requires-clause-factors
new-requires-clause-factors c = lists_factors c.args.group.now (space_group c.args.group.now) (wave_vector c.index-points-0.result)
    (InLine c.args.group.now (before c.args.points.now) c.args.points.now c.index-points-0.result c.index-points-0.is) (line_inside c.args.group.now (before c.args.points.now) c.args.points.now c.index-points-0.result c.index-points-0.is) c.args.places.items
    (c.requires.places (before c.args.points.now) c.index-points-0.result (length-before c.args.points.now c.requires.points))
    (vec_len c.args.places) c.args.places.ok.0 c.args.order (line_at c.args.group.now (before c.args.points.now) c.args.points.now c.index-points-0.result c.index-points-0.is c.args.order (c.requires.order (before c.args.points.now) c.index-points-0.result (length-before c.args.points.now c.requires.points)))
    c.in_ok-products.products.items c.in_ok-products.exponents.items
    (products_in c.args.group.now c.deref.result.now c.args.places.items c.in_ok-products.products.items c.deref.ensures.value c.in_ok-products.ensures.products)
    (exponents_in c.args.group.now (wave_vector c.index-points-0.result) c.args.order c.deref.result.now c.args.places.items c.in_ok-products.exponents.items
    c.deref.ensures.value c.in_ok-products.ensures.exponents)

-- the first point, read with another default
first_same : (points : List Wave) (k d : Wave) → 0 < length points → k ≡ get_or points 0 k → wave_vector k ≡ wave_vector (get_or points 0 d)
first_same points k d some is = ap wave_vector (is ∙ get_or_default points 0 k d some)

pub returns-clause-table : goal.returns-clause-table
unfolding to_nat
returns-clause-table c = λ n d size. subst (λ (ys : List ℕ). IsLineGroupTable c.args.group.now (line_points n c.args.points.now d) ys (phase_table c.in_ok-t.t))
    (sym c.in_ok-t.ensures.places)
    (line_list_table c.args.group.now (line_points n c.args.points.now d) c.args.places.items (c.requires.places n d size)
    (place_count c.in_ok-t.t) (c.in_ok-t.t.places.ok.0 ∙ ap length c.in_ok-t.ensures.places) c.args.order (c.requires.order n d size)
    c.in_ok-products.products.items c.in_ok-products.exponents.items
    (products_in c.args.group.now c.deref.result.now c.args.places.items c.in_ok-products.products.items c.deref.ensures.value c.in_ok-products.ensures.products)
    (subst (λ w. AreEntries (length c.args.places.items) (IsPhaseEntry c.args.group.now w c.args.order c.args.places.items) c.in_ok-products.exponents.items)
    (first_same c.args.points.now c.index-points-0.result d c.requires.points c.index-points-0.is)
    (exponents_in c.args.group.now (wave_vector c.index-points-0.result) c.args.order c.deref.result.now c.args.places.items c.in_ok-products.exponents.items
    c.deref.ensures.value c.in_ok-products.ensures.exponents))
    (phase_table c.in_ok-t.t) c.in_ok-t.ensures.table)
