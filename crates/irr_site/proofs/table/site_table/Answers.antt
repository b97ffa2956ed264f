-- The table of the site group.
use Rattle.std.proofs.Common.{◌≡◌, sym, ◌∙◌, ap, subst, ℕ, ◌<◌, ◌≤◌, List, length, vec_len}
use Rattle.irr_space.specs.Operation.{Vector}
use Rattle.irr_rep.specs.Table.{AreEntries}
use Rattle.irr_rep.specs.Twisted.{phase_table, place_count}
use Rattle.irr_close.specs.declared.group.Group.{Group}
use Rattle.irr_site.specs.Points.{AreSitePlaces}
use Rattle.irr_site.specs.Tables.{IsPlaceProduct}
use Rattle.irr_site.proofs.Cosets.{some_op}
use Rattle.irr_site.proofs.TableLaws.{few_places, lists_factors, lists_group, lists_inverses, some_place, table_of_lists}
use Rattle.irr_site.proofs.table.site_table.Goals as goal

pub entries-requires-clause-places : goal.entries-requires-clause-places
entries-requires-clause-places c = (
  c.requires.places.0,
  subst (AreSitePlaces c.args.group.now c.requires.places.0)
      (sym c.deref.ensures.value) c.requires.places.1,
)

products_in : (group : Group) (xs ys zs : List ℕ) → xs ≡ ys → AreEntries (length xs) (IsPlaceProduct group xs) zs
    → AreEntries (length ys) (IsPlaceProduct group ys) zs
products_in group xs ys zs e h = subst (λ (vs : List ℕ). AreEntries (length vs) (IsPlaceProduct group vs) zs) e h

exponents_in : (xs ys zs : List ℕ) → xs ≡ ys → AreEntries (length xs) (λ a b x. x ≡ 0) zs
    → AreEntries (length ys) (λ a b x. x ≡ 0) zs
exponents_in xs ys zs e h = subst (λ (vs : List ℕ). AreEntries (length vs) (λ a b x. x ≡ 0) zs) e h

pub new-requires-clause-not_empty : goal.new-requires-clause-not_empty
new-requires-clause-not_empty c = subst (λ n. 0 < n) (sym c.args.places.ok.0) (some_place c.args.group.now c.requires.places.0
    c.args.places.items c.requires.places.1)

pub new-requires-clause-places_within : goal.new-requires-clause-places_within
new-requires-clause-places_within c = subst (λ n. n ≤ 48) (sym c.args.places.ok.0) (few_places c.args.group.now c.requires.places.0
    c.args.places.items c.requires.places.1)

pub new-requires-clause-group : goal.new-requires-clause-group
new-requires-clause-group c = lists_group c.args.group.now c.requires.places.0 c.args.places.items c.requires.places.1
    (vec_len c.args.places) c.args.places.ok.0 (some_op c.args.group.now) c.requires.divides.0 c.args.order c.requires.divides.1 c.requires.divides.2
    c.requires.positive c.in_ok-table.table.items c.in_ok-table.exponents.items
    (products_in c.args.group.now c.deref.result.now c.args.places.items c.in_ok-table.table.items c.deref.ensures.value
    c.in_ok-table.ensures.products)
    (exponents_in c.deref.result.now c.args.places.items c.in_ok-table.exponents.items c.deref.ensures.value
    c.in_ok-table.ensures.exponents)

pub new-requires-clause-inverses : goal.new-requires-clause-inverses
new-requires-clause-inverses c = lists_inverses c.args.group.now c.requires.places.0 c.args.places.items c.requires.places.1
    (vec_len c.args.places) c.args.places.ok.0 (some_op c.args.group.now) c.requires.divides.0 c.args.order c.requires.divides.1 c.requires.divides.2
    c.requires.positive c.in_ok-table.table.items c.in_ok-table.exponents.items
    (products_in c.args.group.now c.deref.result.now c.args.places.items c.in_ok-table.table.items c.deref.ensures.value
    c.in_ok-table.ensures.products)
    (exponents_in c.deref.result.now c.args.places.items c.in_ok-table.exponents.items c.deref.ensures.value
    c.in_ok-table.ensures.exponents)

pub new-requires-clause-factors : goal.new-requires-clause-factors
new-requires-clause-factors c = lists_factors c.args.group.now c.requires.places.0 c.args.places.items c.requires.places.1
    (vec_len c.args.places) c.args.places.ok.0 (some_op c.args.group.now) c.requires.divides.0 c.args.order c.requires.divides.1 c.requires.divides.2
    c.requires.positive c.in_ok-table.table.items c.in_ok-table.exponents.items
    (products_in c.args.group.now c.deref.result.now c.args.places.items c.in_ok-table.table.items c.deref.ensures.value
    c.in_ok-table.ensures.products)
    (exponents_in c.deref.result.now c.args.places.items c.in_ok-table.exponents.items c.deref.ensures.value
    c.in_ok-table.ensures.exponents)

pub returns-clause-table : goal.returns-clause-table
returns-clause-table c x places d = table_of_lists c.args.group.now x c.args.places.items places
    (place_count c.in_ok-t.t) (c.in_ok-t.t.places.ok.0 ∙ ap length c.in_ok-t.ensures.places) d
    c.requires.divides.0 c.args.order c.requires.divides.1 c.requires.divides.2 c.requires.positive
    c.in_ok-table.table.items c.in_ok-table.exponents.items
    (products_in c.args.group.now c.deref.result.now c.args.places.items c.in_ok-table.table.items c.deref.ensures.value
    c.in_ok-table.ensures.products)
    (exponents_in c.deref.result.now c.args.places.items c.in_ok-table.exponents.items c.deref.ensures.value
    c.in_ok-table.ensures.exponents)
    (phase_table c.in_ok-t.t) c.in_ok-t.ensures.table
