-- A power of z times a number of the row.
use Rattle.std.proofs.Common.{◌≡◌, sym, ◌∙◌, ap, ap₂, subst, ◌*◌, ◌/◌, ◌%◌, ◌<◌, ◌^◌, ℕ, arith}
use Rattle.std.proofs.lemmas.Result.{IfOk-weaker}
use Rattle.irr_number.specs.Number.{numbers, root_power}
use Rattle.irr_canonical.specs.RootSum.{IsRootSum}
use Rattle.irr_canonical.proofs.RootSums.{IsRootSum-root}
use Rattle.irr_char.proofs.AverageTerms.{few_powers, item-small, item-value}
use Rattle.irr_mat.proofs.Sizes.{product_sizes, sum_denominators}
use Rattle.irr_rep.specs.Twisted.{phase_table, place_count}
use Rattle.std.specs.Int.{◌∣◌}
use Rattle.irr_root.proofs.Phases.{root_power-rest}
use Rattle.irr_climb.proofs.step.Step.conjugate_entry.Goals as goal

pub mul-requires-clause-denominators : goal.mul-requires-clause-denominators
mul-requires-clause-denominators g c =
    let value = g.S.Scalar.value in
    let n = c.args.order.now.n in
    let h = place_count c.args.self.now.inner in
    let x = c.in_ok-root.root in
    let k = c.conjugate_member-image.result in
    sum_denominators value (g.S.Scalar.order_of x) n (g.met.S.Scalar.admitted_positive (g.S.Scalar.order_of x) (g.met.S.Scalar.order_admitted x))
    c.in_ok-root.ensures.order
    1 1 48 1 x c.index-row-image.result
    (subst (IsRootSum n 1 1) (sym c.in_ok-root.ensures.value)
    (IsRootSum-root n (c.conjugate_exponent.result % c.order.result * (c.n.result / c.order-2.result))))
    (item-small g.S.Scalar.order_of value n h c.args.row.now c.requires.row k c.conjugate_member-image.ensures.within c.index-row-image.result
    c.index-row-image.is)
    (2 ^ 60) (omega arith)

pub mul-requires-clause-sizes : goal.mul-requires-clause-sizes
mul-requires-clause-sizes g c =
    let value = g.S.Scalar.value in
    let n = c.args.order.now.n in
    let h = place_count c.args.self.now.inner in
    let x = c.in_ok-root.root in
    let k = c.conjugate_member-image.result in
    product_sizes value (g.S.Scalar.order_of x) n (g.met.S.Scalar.admitted_positive (g.S.Scalar.order_of x) (g.met.S.Scalar.order_admitted x))
    c.in_ok-root.ensures.order
    1 1 48 1 x c.index-row-image.result
    (subst (IsRootSum n 1 1) (sym c.in_ok-root.ensures.value)
    (IsRootSum-root n (c.conjugate_exponent.result % c.order.result * (c.n.result / c.order-2.result))))
    (item-small g.S.Scalar.order_of value n h c.args.row.now c.requires.row k c.conjugate_member-image.ensures.within c.index-row-image.result
    c.index-row-image.is)
    (2 ^ 100) (few_powers n 1 48 c.args.order.now.limited (omega arith) (omega arith))

turned_root : (N n e a b d : ℕ) → 0 < N → N ∣ n → a ≡ N → b ≡ n → d ≡ N → root_power n (e % a * (b / d)) ≡ root_power n (n / N * e)
turned_root N n e a b d positive divides p q r =
    ap₂ (λ a k. root_power n (e % a * k)) p (ap₂ (λ b d. b / d) q r) ∙ root_power-rest N n e positive divides ∙ ap (root_power n) (swapped e (n / N))
  where
    swapped : (x y : ℕ) → x * y ≡ y * x
    swapped x y = omega arith

pub returns-clause-value : goal.returns-clause-value
returns-clause-value g c is p e =
    let value = g.S.Scalar.value in
    let n = c.args.order.now.n in
    let h = place_count c.args.self.now.inner in
    let U = phase_table c.args.self.now.outer in
    let k = c.conjugate_member-image.result in
    let root = c.in_ok-root.root in
    let entry = c.index-row-image.result in
    IfOk-weaker c.mul.result _ _ (λ z q.
    subst (λ u. value u z ≡ (numbers u).mul (value u root) (value u entry)) c.in_ok-root.ensures.order q
    ∙ ap₂ (numbers n).mul
    (c.in_ok-root.ensures.value
    ∙ turned_root U.order n c.conjugate_exponent.result c.order.result c.n.result c.order-2.result U.order_positive is.outer_divides
    c.order.ensures.order c.n.ensures.value c.order-2.ensures.order
    ∙ ap (λ x. root_power n (n / U.order * x)) (c.conjugate_exponent.ensures n is p e))
    (item-value g.S.Scalar.order_of value n h c.args.row.now c.requires.row k c.conjugate_member-image.ensures.within entry c.index-row-image.is
    (is.quotient.conj p) (sym (c.conjugate_member-image.ensures.member n is p e))))
    c.mul.ensures.value
