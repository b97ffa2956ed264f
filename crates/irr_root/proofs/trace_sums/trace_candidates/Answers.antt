-- The trace is a sum of roots, and all such sums are among the candidates.
use Rattle.std.proofs.Common.{◌<◌, ◌/◌, sym, subst, map, All}
use Rattle.std.proofs.lemmas.Result.{IfOk-weaker}
use Rattle.irr_number.specs.Number.{numbers, root_power}
use Rattle.irr_rep.specs.Twisted.{phase_table}
use Rattle.irr_root.specs.CyclicStep.{ArePowerExponents}
use Rattle.irr_root.specs.RootSums.{HasRootSums}
use Rattle.irr_root.proofs.StepTraces.{step-roots}
use Rattle.irr_root.proofs.trace_sums.trace_candidates.Goals as goal

pub returns-clause-traces : goal.returns-clause-traces
returns-clause-traces g c members g' M step numbered d D traces is s extension n at =
    let T = phase_table c.args.t.now in
    let N = T.order in
    let value = g.S.Scalar.value in
    let same = sym c.as_slice.ensures.value in
    let roots = step-roots step D n s extension c.as_slice.result.now
    (subst (All (λ e. e < T.order)) same c.in_ok-exponents.ensures.below)
    (subst (ArePowerExponents step D n) same (c.in_ok-exponents.ensures.exponents members g' M step numbered d D traces n at)) in
    IfOk-weaker c.root_sums.result _ _
    (λ xs all. subst (λ k. HasRootSums (numbers k) (root_power k (k / N)) c.args.p (N / c.args.p) c.as_slice.result.now (map (value k) xs.items))
    (sym is) all (s n) roots)
    c.root_sums.ensures.all
