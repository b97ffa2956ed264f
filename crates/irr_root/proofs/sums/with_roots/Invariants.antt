-- The roots so far.
use Rattle.std.proofs.Common.{◌+◌, ◌*◌, ◌/◌}
use Rattle.irr_number.specs.Number.{numbers, root_power}
use Rattle.irr_rep.specs.Twisted.{phase_table}
use Rattle.irr_root.proofs.RootLists.{RootsSoFar}
use Rattle.irr_root.proofs.sums.with_roots.Given as goal

abbrev pub invariant-loop-j : goal.invariant-loop-j
invariant-loop-j g l =
    let n = l.order.n in
    let N = (phase_table l.t).order in
    RootsSoFar g.S.Scalar.order_of g.S.Scalar.value n l.initial.sums.items l.rest
    (λ j. (numbers n).add (root_power n ((l.e / l.p + j * (N / l.p)) * (n / N))) (g.S.Scalar.value n l.rest)) l.j l.sums.items
