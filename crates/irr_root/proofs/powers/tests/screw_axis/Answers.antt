-- The table is tried.
use Rattle.std.proofs.Common.{ap₂, arith}
use Rattle.irr_rep.specs.Table.{exponents_along, power_of}
use Rattle.irr_rep.proofs.Trials.{factors_tried, group_tried, inverses_tried, tries_factors, tries_group, tries_inverses}
use Rattle.irr_root.proofs.powers.tests.screw_axis.Goals as goal

pub new-requires-clause-group : goal.new-requires-clause-group
new-requires-clause-group c = group_tried _ _ (ap₂ tries_group c.in_ok-places.ensures.len c.in_ok-products.ensures.items)

pub new-requires-clause-inverses : goal.new-requires-clause-inverses
new-requires-clause-inverses c = inverses_tried _ _ (ap₂ tries_inverses c.in_ok-places.ensures.len c.in_ok-products.ensures.items)

pub new-requires-clause-factors : goal.new-requires-clause-factors
unfolding exponents_along power_of
new-requires-clause-factors c = factors_tried 4 _ _ _ (omega (arith, c.in_ok-places.ensures.len))
    (λ i. tries_factors 4 (c.in_ok-places.ensures.len i) (c.in_ok-products.ensures.items i) (c.in_ok-exponents.ensures.items i))
