-- A phase times a trace.
use Rattle.std.proofs.Common.{◌≡◌, ◌<◌, ◌*◌, ◌/◌, ◌%◌, ◌^◌, sym, ◌∙◌, ap, ap₂, subst, slice_index, Result, Ok, Err, IfOk, arith}
use Rattle.irr_algebra.proofs.Indices.{from_nat, to_nat-from_nat, to_nat-lt}
use Rattle.irr_number.specs.Number.{numbers, root_power}
use Rattle.irr_canonical.proofs.RootSums.{IsRootSum-root}
use Rattle.irr_canonical.specs.RootSum.{IsRootSum}
use Rattle.irr_mat.proofs.Sizes.{product_sizes, sum_denominators}
use Rattle.irr_char.proofs.AverageTerms.{few_powers, item-order, item-small}
use Rattle.irr_rep.specs.Twisted.{phase_table, place_count}
use Rattle.irr_root.proofs.TurnedTraces.{read_at}
use Rattle.irr_climb.specs.Extensions.{term_exponent}
use Rattle.irr_climb.proofs.ConjugateRows.{member_number}
use Rattle.irr_climb.proofs.ExtensionReads.{factor_is, part_below, root_reduced, trace_at, traces_small}
use Rattle.irr_climb.proofs.extensions.terms.factor.Goals as goal

if_ok : {A E : Type 0} (r : Result A E) (P Q : A → Type 0) → ((x : A) → P x → Q x) → IfOk r P → IfOk r Q
if_ok (Ok x) P Q f p = f x p
if_ok (Err e) P Q f p = p

pub table-product-requires-clause-column : goal.table-product-requires-clause-column
table-product-requires-clause-column g c =
    let step = c.args.step.now in
    let is = c.requires.traces.0 in
    let q = from_nat (place_count step.inner) c.args.m c.requires.member in
    let read = read_at step.members.items c.args.m c.index.result.now c.index.ensures (subst (λ k. c.args.m < k)
    (sym is.members_count) c.requires.member) in
    subst (λ k. k < place_count step.outer) (sym (read ∙ member_number is c.args.m q (to_nat-from_nat
    (place_count step.inner) c.args.m c.requires.member)))
    (to_nat-lt (is.part.place q))

pub bounds-traces-index : goal.bounds-traces-index
bounds-traces-index g c =
    let order = g.S.Scalar.order_of in
    let value = g.S.Scalar.value in
    let M = c.args.order.now.n in
    let step = c.args.step.now in
    let is = c.requires.traces.0 in
    let h = c.requires.traces.3 in
    let q = from_nat (place_count step.inner) c.args.m c.requires.member in
    let p = from_nat (place_count step.outer) c.args.x c.requires.place in
    let member = read_at step.members.items c.args.m c.index.result.now c.index.ensures (subst (λ k. c.args.m < k)
    (sym is.members_count) c.requires.member)
    ∙ member_number is c.args.m q (to_nat-from_nat (place_count step.inner) c.args.m c.requires.member) in
    let product = c.table-product.ensures.product p (is.part.place q) (to_nat-from_nat (place_count step.outer) c.args.x c.requires.place)
    (sym member) in
    let read = read_at step.parts.items c.table-product.result c.index-2.result.now c.index-2.ensures
    (subst (λ k. c.table-product.result < k) (sym is.parts_count) c.table-product.ensures.within) in
    let below = part_below order value is c.requires.traces.2 c.args.traces.now h p q c.table-product.result c.index-2.result.now product read in
    subst (λ k. c.index-2.result.now < k) (sym h.row.count) below

pub offset_bounds-traces-index : goal.offset_bounds-traces-index
offset_bounds-traces-index g c =
    let order = g.S.Scalar.order_of in
    let value = g.S.Scalar.value in
    let M = c.args.order.now.n in
    let step = c.args.step.now in
    let is = c.requires.traces.0 in
    let h = c.requires.traces.3 in
    let q = from_nat (place_count step.inner) c.args.m c.requires.member in
    let p = from_nat (place_count step.outer) c.args.x c.requires.place in
    let member = read_at step.members.items c.args.m c.index.result.now c.index.ensures (subst (λ k. c.args.m < k)
    (sym is.members_count) c.requires.member)
    ∙ member_number is c.args.m q (to_nat-from_nat (place_count step.inner) c.args.m c.requires.member) in
    let product = c.table-product.ensures.product p (is.part.place q) (to_nat-from_nat (place_count step.outer) c.args.x c.requires.place)
    (sym member) in
    let read = read_at step.parts.items c.table-product.result c.index-2.result.now c.index-2.ensures
    (subst (λ k. c.table-product.result < k) (sym is.parts_count) c.table-product.ensures.within) in
    let below = part_below order value is c.requires.traces.2 c.args.traces.now h p q c.table-product.result c.index-2.result.now product read in
    let l = subst (λ k. c.index-2.result.now < k) (sym h.row.count) below in omega (arith, l)

pub mul-requires-clause-orders : goal.mul-requires-clause-orders
mul-requires-clause-orders g c =
    let order = g.S.Scalar.order_of in
    let value = g.S.Scalar.value in
    let M = c.args.order.now.n in
    let step = c.args.step.now in
    let is = c.requires.traces.0 in
    let h = c.requires.traces.3 in
    let q = from_nat (place_count step.inner) c.args.m c.requires.member in
    let p = from_nat (place_count step.outer) c.args.x c.requires.place in
    let member = read_at step.members.items c.args.m c.index.result.now c.index.ensures (subst (λ k. c.args.m < k)
    (sym is.members_count) c.requires.member)
    ∙ member_number is c.args.m q (to_nat-from_nat (place_count step.inner) c.args.m c.requires.member) in
    let product = c.table-product.ensures.product p (is.part.place q) (to_nat-from_nat (place_count step.outer) c.args.x c.requires.place)
    (sym member) in
    let read = read_at step.parts.items c.table-product.result c.index-2.result.now c.index-2.ensures
    (subst (λ k. c.table-product.result < k) (sym is.parts_count) c.table-product.ensures.within) in
    let below = part_below order value is c.requires.traces.2 c.args.traces.now h p q c.table-product.result c.index-2.result.now product read in
    let row = traces_small order value is c.requires.traces.2 c.args.traces.now h in
    let r = c.index-2.result.now in
    let y = c.index-traces-index.result in
    let x = c.in_ok-phase.phase in
    item-order order value M (place_count step.inner) c.args.traces.now row r below y c.index-traces-index.is ∙ sym c.in_ok-phase.ensures.order

pub mul-requires-clause-denominators : goal.mul-requires-clause-denominators
mul-requires-clause-denominators g c =
    let order = g.S.Scalar.order_of in
    let value = g.S.Scalar.value in
    let M = c.args.order.now.n in
    let step = c.args.step.now in
    let is = c.requires.traces.0 in
    let h = c.requires.traces.3 in
    let q = from_nat (place_count step.inner) c.args.m c.requires.member in
    let p = from_nat (place_count step.outer) c.args.x c.requires.place in
    let member = read_at step.members.items c.args.m c.index.result.now c.index.ensures (subst (λ k. c.args.m < k)
    (sym is.members_count) c.requires.member)
    ∙ member_number is c.args.m q (to_nat-from_nat (place_count step.inner) c.args.m c.requires.member) in
    let product = c.table-product.ensures.product p (is.part.place q) (to_nat-from_nat (place_count step.outer) c.args.x c.requires.place)
    (sym member) in
    let read = read_at step.parts.items c.table-product.result c.index-2.result.now c.index-2.ensures
    (subst (λ k. c.table-product.result < k) (sym is.parts_count) c.table-product.ensures.within) in
    let below = part_below order value is c.requires.traces.2 c.args.traces.now h p q c.table-product.result c.index-2.result.now product read in
    let row = traces_small order value is c.requires.traces.2 c.args.traces.now h in
    let r = c.index-2.result.now in
    let y = c.index-traces-index.result in
    let x = c.in_ok-phase.phase in
    let one : IsRootSum M 1 1 (value M x) = subst (IsRootSum M 1 1) (sym c.in_ok-phase.ensures.value)
    (IsRootSum-root M c.root_exponent-exponent.result) in
    let other : IsRootSum M 48 1 (value M y) = item-small order value M
    (place_count step.inner) c.args.traces.now row r below y c.index-traces-index.is in
    let positive = g.met.S.Scalar.admitted_positive (order x) (g.met.S.Scalar.order_admitted x) in
    sum_denominators value (order x) M positive c.in_ok-phase.ensures.order 1 1 48 1 x y one other (2 ^ 60) (omega arith)

pub mul-requires-clause-sizes : goal.mul-requires-clause-sizes
mul-requires-clause-sizes g c =
    let order = g.S.Scalar.order_of in
    let value = g.S.Scalar.value in
    let M = c.args.order.now.n in
    let step = c.args.step.now in
    let is = c.requires.traces.0 in
    let h = c.requires.traces.3 in
    let q = from_nat (place_count step.inner) c.args.m c.requires.member in
    let p = from_nat (place_count step.outer) c.args.x c.requires.place in
    let member = read_at step.members.items c.args.m c.index.result.now c.index.ensures (subst (λ k. c.args.m < k)
    (sym is.members_count) c.requires.member)
    ∙ member_number is c.args.m q (to_nat-from_nat (place_count step.inner) c.args.m c.requires.member) in
    let product = c.table-product.ensures.product p (is.part.place q) (to_nat-from_nat (place_count step.outer) c.args.x c.requires.place)
    (sym member) in
    let read = read_at step.parts.items c.table-product.result c.index-2.result.now c.index-2.ensures
    (subst (λ k. c.table-product.result < k) (sym is.parts_count) c.table-product.ensures.within) in
    let below = part_below order value is c.requires.traces.2 c.args.traces.now h p q c.table-product.result c.index-2.result.now product read in
    let row = traces_small order value is c.requires.traces.2 c.args.traces.now h in
    let r = c.index-2.result.now in
    let y = c.index-traces-index.result in
    let x = c.in_ok-phase.phase in
    let one : IsRootSum M 1 1 (value M x) = subst (IsRootSum M 1 1) (sym c.in_ok-phase.ensures.value)
    (IsRootSum-root M c.root_exponent-exponent.result) in
    let other : IsRootSum M 48 1 (value M y) = item-small order value M
    (place_count step.inner) c.args.traces.now row r below y c.index-traces-index.is in
    let positive = g.met.S.Scalar.admitted_positive (order x) (g.met.S.Scalar.order_admitted x) in
    product_sizes value (order x) M positive c.in_ok-phase.ensures.order 1 1 48 1 x y one other (2 ^ 100)
    (few_powers M 1 48 c.args.order.now.limited (omega arith) (omega arith))

pub returns-clause-value : goal.returns-clause-value
returns-clause-value g c is d E h p q a b =
    let order = g.S.Scalar.order_of in
    let value = g.S.Scalar.value in
    let M = c.args.order.now.n in
    let step = c.args.step.now in
    let N = (phase_table step.outer).order in
    let x = c.in_ok-phase.phase in
    let y = c.index-traces-index.result in
    let member = read_at step.members.items c.args.m c.index.result.now c.index.ensures (subst (λ k. c.args.m < k)
    (sym is.members_count) c.requires.member)
    ∙ member_number is c.args.m q b in
    let product = c.table-product.ensures.product p (is.part.place q) a (sym member) in
    let read = read_at step.parts.items c.table-product.result c.index-2.result.now c.index-2.ensures
    (subst (λ k. c.table-product.result < k) (sym is.parts_count) c.table-product.ensures.within) in
    let one = sym (is.exponents p) ∙ ap (slice_index step.exponents.items) a ∙ c.requires.coset in
    let phase = c.in_ok-phase.ensures.value ∙ ap (root_power M) (c.root_exponent-exponent.ensures.value
    ∙ ap₂ (λ k l. k % l * (c.n.result / l)) (c.exponent_of_term.ensures M is p q a b) c.order.ensures.order
    ∙ ap (λ n. term_exponent is p q % N * (n / N)) c.n.ensures.value) ∙ root_reduced N M (phase_table step.outer).order_positive is.outer_divides
    (term_exponent is p q) in
    if_ok c.mul.result _ _ (λ z v. subst (λ u. value u z ≡ (numbers u).mul (value u x) (value u y)) c.in_ok-phase.ensures.order v
    ∙ factor_is order value is E c.args.traces.now h p q (value M x) (value M y) phase
    (trace_at order value is E c.args.traces.now h p q c.table-product.result c.index-2.result.now product read one y c.index-traces-index.is))
    c.mul.ensures.value
