-- The sums so far.
use Rattle.std.proofs.Common.{◌+◌, ◌*◌, ◌/◌}
use Rattle.irr_number.specs.Number.{root_power}
use Rattle.irr_rep.specs.Twisted.{phase_table}
use Rattle.irr_root.proofs.RootLists.{SumsSoFar}
use Rattle.irr_root.proofs.sums.next_sums.Given as goal

abbrev pub invariant-loop-rest : goal.invariant-loop-rest
invariant-loop-rest g l =
    let n = l.order.n in
    let N = (phase_table l.t).order in
    SumsSoFar g.S.Scalar.order_of g.S.Scalar.value n l.rests (λ j. root_power n ((l.e / l.p + j * (N / l.p)) * (n / N))) l.p l.rest-index l.sums.items
