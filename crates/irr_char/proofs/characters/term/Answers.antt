-- A term is two products.
use Rattle.std.proofs.Common.{◌≡◌, sym, ◌∙◌, ap, subst, ◌*◌, ◌-◌, ◌/◌, ◌%◌, ◌^◌, map, arith}
use Rattle.std.proofs.lemmas.Result.{IfOk-weaker}
use Rattle.std.specs.Int.{◌∣◌}
use Rattle.irr_number.specs.Number.{numbers, root_power}
use Rattle.irr_canonical.specs.RootSum.{IsRootSum}
use Rattle.irr_canonical.proofs.RootSums.{IsRootSum-mul, IsRootSum-root}
use Rattle.irr_mat.proofs.Sizes.{product_sizes, sum_denominators}
use Rattle.irr_rep.specs.Twisted.{place_count, phase_table}
use Rattle.irr_char.specs.Rows.{row_of}
use Rattle.irr_char.proofs.AverageTerms.{few_powers, few_products, item-order, item-small, item-value, term-value}
use Rattle.irr_char.proofs.characters.term.Goals as goal

pub inverse_exponent-requires-clause-divides : goal.inverse_exponent-requires-clause-divides
inverse_exponent-requires-clause-divides g c = subst (λ n. (phase_table c.args.t.now).order ∣ n) (sym c.n.ensures.value) c.requires.divides

pub mul-requires-clause-denominators : goal.mul-requires-clause-denominators
mul-requires-clause-denominators g c =
    let value = g.S.Scalar.value in
    let n = c.args.order.now.n in
    let x = c.in_ok-phase.phase in
    sum_denominators value (g.S.Scalar.order_of x) n (g.met.S.Scalar.admitted_positive (g.S.Scalar.order_of x)
    (g.met.S.Scalar.order_admitted x)) c.in_ok-phase.ensures.order
    1 1 48 1 x c.index-a-j.result
    (subst (IsRootSum n 1 1) (sym c.in_ok-phase.ensures.value) (IsRootSum-root n c.inverse_exponent.result))
    (item-small g.S.Scalar.order_of value n
    (place_count c.args.t.now) c.args.a.now c.requires.left c.inverse-j.result c.inverse-j.ensures.within c.index-a-j.result c.index-a-j.is)
    (2 ^ 60) (omega arith)

pub mul-requires-clause-sizes : goal.mul-requires-clause-sizes
mul-requires-clause-sizes g c =
    let value = g.S.Scalar.value in
    let n = c.args.order.now.n in
    let x = c.in_ok-phase.phase in
    product_sizes value (g.S.Scalar.order_of x) n (g.met.S.Scalar.admitted_positive (g.S.Scalar.order_of x)
    (g.met.S.Scalar.order_admitted x)) c.in_ok-phase.ensures.order
    1 1 48 1 x c.index-a-j.result
    (subst (IsRootSum n 1 1) (sym c.in_ok-phase.ensures.value) (IsRootSum-root n c.inverse_exponent.result))
    (item-small g.S.Scalar.order_of value n
    (place_count c.args.t.now) c.args.a.now c.requires.left c.inverse-j.result c.inverse-j.ensures.within c.index-a-j.result c.index-a-j.is)
    (2 ^ 100) (few_powers n 1 48 c.args.order.now.limited (omega arith) (omega arith))

-- the phase times the number of the first row
pub mul-requires-2-clause-denominators : goal.mul-requires-2-clause-denominators
mul-requires-2-clause-denominators g c =
    let value = g.S.Scalar.value in
    let n = c.args.order.now.n in
    let x = c.in_ok-phase.phase in
    let y = c.index-b-i.result in
    let a = item-small g.S.Scalar.order_of value n
    (place_count c.args.t.now) c.args.a.now c.requires.left c.inverse-j.result c.inverse-j.ensures.within c.index-a-j.result c.index-a-j.is in
    let o = item-order g.S.Scalar.order_of value n
    (place_count c.args.t.now) c.args.b.now c.requires.right c.args.i c.requires.place y c.index-b-i.is in
    sum_denominators value (g.S.Scalar.order_of y) n (g.met.S.Scalar.admitted_positive (g.S.Scalar.order_of y) (g.met.S.Scalar.order_admitted y)) o
    2304 1 (1 * 48) (1 * 1) y c.in_ok-inverse.inverse
    (item-small g.S.Scalar.order_of value n (place_count c.args.t.now) c.args.b.now c.requires.right c.args.i c.requires.place y c.index-b-i.is)
    (subst (IsRootSum n (1 * 48) (1 * 1)) (sym
    (subst (λ u. value u c.in_ok-inverse.inverse ≡ (numbers u).mul (value u x)
    (value u c.index-a-j.result)) c.in_ok-phase.ensures.order c.in_ok-inverse.ensures.value))
    (IsRootSum-mul n (subst (IsRootSum n 1 1) (sym c.in_ok-phase.ensures.value) (IsRootSum-root n c.inverse_exponent.result)) a))
    (2 ^ 60) (omega arith)

pub mul-requires-2-clause-sizes : goal.mul-requires-2-clause-sizes
mul-requires-2-clause-sizes g c =
    let value = g.S.Scalar.value in
    let n = c.args.order.now.n in
    let x = c.in_ok-phase.phase in
    let y = c.index-b-i.result in
    let a = item-small g.S.Scalar.order_of value n
    (place_count c.args.t.now) c.args.a.now c.requires.left c.inverse-j.result c.inverse-j.ensures.within c.index-a-j.result c.index-a-j.is in
    let o = item-order g.S.Scalar.order_of value n
    (place_count c.args.t.now) c.args.b.now c.requires.right c.args.i c.requires.place y c.index-b-i.is in
    product_sizes value (g.S.Scalar.order_of y) n (g.met.S.Scalar.admitted_positive (g.S.Scalar.order_of y) (g.met.S.Scalar.order_admitted y)) o
    2304 1 (1 * 48) (1 * 1) y c.in_ok-inverse.inverse
    (item-small g.S.Scalar.order_of value n (place_count c.args.t.now) c.args.b.now c.requires.right c.args.i c.requires.place y c.index-b-i.is)
    (subst (IsRootSum n (1 * 48) (1 * 1)) (sym
    (subst (λ u. value u c.in_ok-inverse.inverse ≡ (numbers u).mul (value u x)
    (value u c.index-a-j.result)) c.in_ok-phase.ensures.order c.in_ok-inverse.ensures.value))
    (IsRootSum-mul n (subst (IsRootSum n 1 1) (sym c.in_ok-phase.ensures.value) (IsRootSum-root n c.inverse_exponent.result)) a))
    (2 ^ 100) (few_products n 2304 (1 * 48) c.args.order.now.limited (omega arith) (omega arith))

pub returns-clause-value : goal.returns-clause-value
returns-clause-value g c =
    let value = g.S.Scalar.value in
    let n = c.args.order.now.n in
    let h = place_count c.args.t.now in
    let T = phase_table c.args.t.now in
    let x = c.in_ok-phase.phase in
    let y = c.index-b-i.result in
    let o = item-order g.S.Scalar.order_of value n h c.args.b.now c.requires.right c.args.i c.requires.place y c.index-b-i.is in
    IfOk-weaker c.mul-2.result _ _ (λ z e p is.
    let back = sym (c.inverse-j.ensures.inverse p is) in
    term-value (phase_table c.args.t.now) n (row_of n (map (value n) c.args.a.now)) (row_of n (map (value n) c.args.b.now)) p (value n x)
    (value n c.index-a-j.result) (value n z) (value n y)
    (c.in_ok-phase.ensures.value ∙ ap (root_power n) (c.inverse_exponent.ensures.exponent p ((phase_table c.args.t.now).opposite p) is back
    ∙ ap (λ m. (T.order - 1) * T.exponent p (T.opposite p) % T.order * (m / T.order)) c.n.ensures.value))
    (item-value g.S.Scalar.order_of value n h c.args.a.now c.requires.left c.inverse-j.result c.inverse-j.ensures.within c.index-a-j.result
    c.index-a-j.is ((phase_table c.args.t.now).opposite p) back)
    (item-value g.S.Scalar.order_of value n h c.args.b.now c.requires.right c.args.i c.requires.place y c.index-b-i.is p is)
    (subst (λ u. value u z ≡ (numbers u).mul (value u y) (value u c.in_ok-inverse.inverse)) o e
    ∙ ap ((numbers n).mul (value n y)) (subst
    (λ u. value u c.in_ok-inverse.inverse ≡ (numbers u).mul (value u x)
    (value u c.index-a-j.result)) c.in_ok-phase.ensures.order c.in_ok-inverse.ensures.value)))
    c.mul-2.ensures.value
