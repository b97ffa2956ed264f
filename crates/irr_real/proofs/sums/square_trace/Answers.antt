-- A power of z times a trace.
use Rattle.std.proofs.Common.{◌≡◌, ◌∙◌, ap₂, subst, ◌^◌, arith}
use Rattle.irr_number.specs.Number.{numbers}
use Rattle.irr_mat.proofs.Sizes.{product_sizes, sum_denominators}
use Rattle.irr_rep.specs.Twisted.{phase_table}
use Rattle.irr_real.proofs.FamilyTraces.{admitted, item_few, item_fits, root_few, trace_value, turned_few, turn_room}
use Rattle.irr_real.proofs.sums.square_trace.Goals as goal

pub root-requires-clause-admitted : goal.root-requires-clause-admitted
root-requires-clause-admitted g c = admitted (phase_table c.args.t.now) c.args.order.now.n c.args.f.now
    c.requires.family g.S.Scalar.admits
    g.met.S.Scalar.order_admitted

pub trace-requires-clause-sizes : goal.trace-requires-clause-sizes
trace-requires-clause-sizes g c = item_fits (phase_table c.args.t.now) c.args.order.now.n c.args.f.now
    c.requires.family c.args.square.place
    c.requires.place c.index-matrix.result.now c.index-matrix.ensures

pub mul-requires-clause-denominators : goal.mul-requires-clause-denominators
mul-requires-clause-denominators g c =
    let n = c.args.order.now.n in
    let x = c.in_ok-phase.phase in
    sum_denominators g.S.Scalar.value (g.S.Scalar.order_of x) n
    (g.met.S.Scalar.admitted_positive (g.S.Scalar.order_of x) (g.met.S.Scalar.order_admitted x))
    c.in_ok-phase.ensures.order
    1 1 48 1 x c.in_ok-sum.sum
    (root_few n c.args.square.exponent (g.S.Scalar.value n x) c.in_ok-phase.ensures.value)
    (item_few (phase_table c.args.t.now) n c.args.f.now c.requires.family c.args.square.place c.requires.place
    c.index-matrix.result.now
    c.index-matrix.ensures c.args.order.now.positive c.in_ok-sum.sum c.in_ok-sum.ensures.value)
    (2 ^ 60) (omega arith)

pub mul-requires-clause-sizes : goal.mul-requires-clause-sizes
mul-requires-clause-sizes g c =
    let n = c.args.order.now.n in
    let x = c.in_ok-phase.phase in
    product_sizes g.S.Scalar.value (g.S.Scalar.order_of x) n
    (g.met.S.Scalar.admitted_positive (g.S.Scalar.order_of x) (g.met.S.Scalar.order_admitted x))
    c.in_ok-phase.ensures.order
    1 1 48 1 x c.in_ok-sum.sum
    (root_few n c.args.square.exponent (g.S.Scalar.value n x) c.in_ok-phase.ensures.value)
    (item_few (phase_table c.args.t.now) n c.args.f.now c.requires.family c.args.square.place c.requires.place
    c.index-matrix.result.now
    c.index-matrix.ensures c.args.order.now.positive c.in_ok-sum.sum c.in_ok-sum.ensures.value)
    (2 ^ 100) (turn_room n c.args.order.now.limited)

pub returns-clause-few : goal.returns-clause-few
returns-clause-few g c =
    let value = g.S.Scalar.value in
    let n = c.args.order.now.n in
    let x = c.in_ok-phase.phase in
    let sum = c.in_ok-sum.sum in
    let product = c.in_ok-product.product in
    turned_few n c.args.square.exponent (value n x) (value n sum) (value n product) c.in_ok-phase.ensures.value
    (item_few (phase_table c.args.t.now) n c.args.f.now c.requires.family c.args.square.place c.requires.place
    c.index-matrix.result.now
    c.index-matrix.ensures c.args.order.now.positive sum c.in_ok-sum.ensures.value)
    (subst (λ m. value m product ≡ (numbers m).mul (value m x) (value m sum)) c.in_ok-phase.ensures.order
    c.in_ok-product.ensures.value)

pub returns-clause-trace : goal.returns-clause-trace
returns-clause-trace g c h d D is i e =
    let value = g.S.Scalar.value in
    let n = c.args.order.now.n in
    let x = c.in_ok-phase.phase in
    subst (λ m. value m c.in_ok-product.product ≡ (numbers m).mul (value m x) (value m c.in_ok-sum.sum))
    c.in_ok-phase.ensures.order
    c.in_ok-product.ensures.value
    ∙ ap₂ (numbers n).mul c.in_ok-phase.ensures.value
    (trace_value n D c.args.f.now is c.args.square.place c.index-matrix.result.now c.index-matrix.ensures i e
    c.in_ok-sum.sum
    c.in_ok-sum.ensures.value)
