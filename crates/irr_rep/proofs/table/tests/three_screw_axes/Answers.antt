-- The table is tried.
use Rattle.std.proofs.Common.{ap, ap₂, [], ◌∷◌, length, arith}
use Rattle.irr_rep.specs.Table.{exponents_along, power_of}
use Rattle.irr_rep.proofs.Trials.{factors_tried, group_tried, inverses_tried, result_tried, tries_factors, tries_group, tries_inverses}
use Rattle.irr_rep.proofs.Trials.{tries_subgroup}
use Rattle.irr_rep.proofs.table.tests.three_screw_axes.Goals as goal

pub new-requires-clause-group : goal.new-requires-clause-group
new-requires-clause-group c = group_tried _ _ (ap₂ tries_group c.in_ok-places.ensures.len c.in_ok-products.ensures.items)

pub new-requires-clause-inverses : goal.new-requires-clause-inverses
new-requires-clause-inverses c = inverses_tried _ _ (ap₂ tries_inverses c.in_ok-places.ensures.len c.in_ok-products.ensures.items)

pub new-requires-clause-factors : goal.new-requires-clause-factors
unfolding exponents_along power_of
new-requires-clause-factors c = factors_tried 4 _ _ _ (omega (arith, c.in_ok-places.ensures.len))
    (λ i. tries_factors 4 (c.in_ok-places.ensures.len i) (c.in_ok-products.ensures.items i) (c.in_ok-exponents.ensures.items i))

pub returns-clause-subgroup : goal.returns-clause-subgroup
returns-clause-subgroup c = result_tried c.new.result 4 4 _ _ _ (0 ∷ 2 ∷ []) c.new.ensures.table c.new.ensures.places
    (ap length c.in_ok-places.ensures.items) (ap (λ xs. tries_subgroup 4 xs (0 ∷ 2 ∷ [])) c.in_ok-products.ensures.items)
