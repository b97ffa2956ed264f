-- The chain, the full list along it, and its order.
use Rattle.irr_rep.specs.Twisted.{phase_table, place_count}
use Rattle.irr_root.proofs.Walks.{table-order-le}
use Rattle.irr_climb.proofs.SharpSizes.{all_sharp}
use Rattle.irr_climb.proofs.SizesOver.{all_small}
use Rattle.irr_climb.proofs.WholeList.{whole_read, whole_sized}
use Rattle.irr_climb.proofs.complete.small_reps.Goals as goal

pub in_order-requires-clause-full : goal.in_order-requires-clause-full
in_order-requires-clause-full g c = whole_read (phase_table c.args.t.now) c.in_ok-families-in-Ok.families.items c.in_ok-families-in-Ok.ensures

pub in_order-requires-clause-sized : goal.in_order-requires-clause-sized
in_order-requires-clause-sized g c = whole_sized (phase_table c.args.t.now) c.in_ok-families-in-Ok.families.items c.in_ok-families-in-Ok.ensures

pub returns-in_ok-ordered-in-Ok-clause-sizes : goal.returns-in_ok-ordered-in-Ok-clause-sizes
returns-in_ok-ordered-in-Ok-clause-sizes g c =
    let t = c.args.t.now in
    all_sharp (phase_table t).order (place_count t) c.in_ok-ordered-in-Ok.ordered.items t.not_empty t.places_within c.in_ok-ordered-in-Ok.ensures.sized

pub returns-in_ok-ordered-in-Ok-clause-numbers : goal.returns-in_ok-ordered-in-Ok-clause-numbers
returns-in_ok-ordered-in-Ok-clause-numbers g c =
    let t = c.args.t.now in
    all_small (phase_table t).order (place_count t) c.in_ok-ordered-in-Ok.ordered.items (phase_table t).order_positive (table-order-le t) t.not_empty
    (all_sharp (phase_table t).order (place_count t) c.in_ok-ordered-in-Ok.ordered.items t.not_empty t.places_within c.in_ok-ordered-in-Ok.ensures.sized)
