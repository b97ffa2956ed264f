-- A power of z times the trace of a matrix of the small representation.
use Rattle.std.proofs.Common.{◌≡◌, ◌∙◌, ap, subst}
use Rattle.std.proofs.lemmas.Result.{IfOk-weaker}
use Rattle.irr_number.specs.Number.{numbers, root_power}
use Rattle.irr_star.proofs.EntryReads.{trace_denominator, trace_fits, trace_size, trace_value}
use Rattle.irr_star.proofs.full.Full.block_trace.Goals as goal

pub trace-requires-clause-sizes : goal.trace-requires-clause-sizes
trace-requires-clause-sizes g c =
    let e = c.requires.induced in
    trace_fits c.args.self.now e.group e.star e.number e.divides e.small e.induced c.args.block.now.place
    c.requires.place
    c.index-matrix.result.now c.index-matrix.ensures

pub turned-requires-clause-denominator : goal.turned-requires-clause-denominator
turned-requires-clause-denominator g c =
    let e = c.requires.induced in
    trace_denominator c.args.self.now e.group e.star e.number e.divides e.small e.induced c.args.block.now.place
    c.requires.place
    c.index-matrix.result.now c.index-matrix.ensures c.in_ok-sum.sum c.in_ok-sum.ensures.value

pub turned-requires-clause-size : goal.turned-requires-clause-size
turned-requires-clause-size g c =
    let e = c.requires.induced in
    trace_size c.args.self.now e.group e.star e.number e.divides e.small e.induced c.args.block.now.place
    c.requires.place
    c.index-matrix.result.now c.index-matrix.ensures c.in_ok-sum.sum c.in_ok-sum.ensures.value

pub returns-clause-trace : goal.returns-clause-trace
returns-clause-trace g c group k U M v d D is p e = IfOk-weaker c.turned.result _ _ (λ y value.
    subst (λ n. g.S.Scalar.value n y ≡ (numbers n).mul (root_power n c.args.block.now.exponent)
    (g.S.Scalar.value n c.in_ok-sum.sum)) is.order value
    ∙ ap ((numbers M).mul (root_power M c.args.block.now.exponent))
    (trace_value c.args.self.now group U M v D is c.args.block.now.place c.requires.place c.index-matrix.result.now
    c.index-matrix.ensures
    c.in_ok-sum.sum c.in_ok-sum.ensures.value p e)) c.turned.ensures.value
