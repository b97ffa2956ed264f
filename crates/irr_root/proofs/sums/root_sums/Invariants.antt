-- The sums for the first exponents.
use Rattle.std.proofs.Common.{◌/◌, map, take}
use Rattle.irr_number.specs.Number.{numbers, root_power}
use Rattle.irr_rep.specs.Twisted.{phase_table}
use Rattle.irr_root.specs.RootSums.{AreSmall, HasRootSums}
use Rattle.irr_root.proofs.sums.root_sums.Given as goal

abbrev pub invariant-loop-e : goal.invariant-loop-e
invariant-loop-e g l =
    let n = l.order.n in
    let N = (phase_table l.t).order in
    AreSmall g.S.Scalar.order_of g.S.Scalar.value n l.e-index l.sums.items
    × HasRootSums (numbers n) (root_power n (n / N)) l.p (N / l.p) (take l.e-index l.exponents) (map (g.S.Scalar.value n) l.sums.items)
