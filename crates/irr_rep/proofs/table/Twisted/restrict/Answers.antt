-- The table on the members.
use Rattle.std.proofs.Common.{◌≡◌, ◌∙◌, ap, length, vec_len, slice_index, arith}
use Rattle.std.proofs.lemmas.List.{length-map}
use Rattle.irr_rep.specs.Twisted.{operation_places}
use Rattle.irr_rep.proofs.Members.{members-le}
use Rattle.irr_rep.proofs.Restrictions.{restricted_factors, restricted_group, restricted_inverses, restricted_result}
use Rattle.irr_rep.proofs.table.Twisted.restrict.Goals as goal

-- there are as many places as members
count : (c : goal.In_ok-places) → vec_len c.in_ok-places.places ≡ length c.args.members.now
count c = c.in_ok-places.places.ok.0 ∙ ap length c.in_ok-places.ensures
    ∙ length-map c.args.members.now (slice_index (operation_places c.args.self.now))

pub new-requires-clause-places_within : goal.new-requires-clause-places_within
new-requires-clause-places_within c = omega (arith, count c, members-le c.args.self.now c.args.members.now c.requires, c.args.self.now.places_within)

pub new-requires-clause-group : goal.new-requires-clause-group
new-requires-clause-group c =
    restricted_group c.args.self.now c.args.members.now c.requires c.in_ok-products.products.items c.in_ok-exponents.exponents.items
    (vec_len c.in_ok-places.places) (count c) c.in_ok-products.ensures.entries

pub new-requires-clause-inverses : goal.new-requires-clause-inverses
new-requires-clause-inverses c =
    restricted_inverses c.args.self.now c.args.members.now c.requires c.in_ok-products.products.items c.in_ok-exponents.exponents.items
    (vec_len c.in_ok-places.places) (count c) c.in_ok-products.ensures.entries

pub new-requires-clause-factors : goal.new-requires-clause-factors
new-requires-clause-factors c =
    restricted_factors c.args.self.now c.args.members.now c.requires c.in_ok-products.products.items c.in_ok-exponents.exponents.items
    (vec_len c.in_ok-places.places) (count c) c.in_ok-products.ensures.entries c.in_ok-exponents.ensures.entries

pub returns-clause-table : goal.returns-clause-table
returns-clause-table c =
    restricted_result c.args.self.now c.args.members.now c.requires c.in_ok-products.products.items c.in_ok-exponents.exponents.items
    c.in_ok-places.places.items c.new.result
    (ap length c.in_ok-places.ensures ∙ length-map c.args.members.now (slice_index (operation_places c.args.self.now)))
    c.in_ok-products.ensures.entries c.in_ok-exponents.ensures.entries c.new.ensures.table c.new.ensures.places
