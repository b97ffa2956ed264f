-- The sum is h, -h or 0.
use Rattle.std.proofs.Common.{◌≡◌, sym, ◌∙◌, subst, ◌^◌, Bool, true, false, IsTrue, arith, rules}
use Rattle.irr_number.specs.Number.{numbers}
use Rattle.irr_mat.proofs.Sizes.{sum_denominators, sum_sizes}
use Rattle.irr_real.proofs.FormTypes.{minus_is, other_is, plus_is, sum_room, whole_few}
use Rattle.irr_real.proofs.types.type_of_sum.Goals as goal

is-true : (b : Bool) → b ≡ true → IsTrue b
is-true b e = search rules

is-false : (b : Bool) → b ≡ false → IsTrue b → ⊥
is-false b e t = search rules

pub sub-requires-clause-denominators : goal.sub-requires-clause-denominators
sub-requires-clause-denominators g c =
    let n = c.args.order.now.n in
    let sum = c.args.sum.now in
    let m = g.S.Scalar.order_of sum in
    let whole = c.in_ok-whole.whole in
    sum_denominators g.S.Scalar.value m n (g.met.S.Scalar.admitted_positive m (g.met.S.Scalar.order_admitted sum))
    c.requires.order 2304 1 48 1 sum whole c.requires.few
    (whole_few n c.args.count (g.S.Scalar.value n whole) c.requires.within c.in_ok-whole.ensures.value)
    (2 ^ 60) (omega arith)

pub sub-requires-clause-sizes : goal.sub-requires-clause-sizes
sub-requires-clause-sizes g c =
    let n = c.args.order.now.n in
    let sum = c.args.sum.now in
    let m = g.S.Scalar.order_of sum in
    let whole = c.in_ok-whole.whole in
    sum_sizes g.S.Scalar.value m n (g.met.S.Scalar.admitted_positive m (g.met.S.Scalar.order_admitted sum))
    c.requires.order 2304 1 48 1 sum whole c.requires.few
    (whole_few n c.args.count (g.S.Scalar.value n whole) c.requires.within c.in_ok-whole.ensures.value)
    (2 ^ 110) (sum_room n c.args.order.now.limited)

pub add-requires-clause-denominators : goal.add-requires-clause-denominators
add-requires-clause-denominators g c =
    let n = c.args.order.now.n in
    let sum = c.args.sum.now in
    let m = g.S.Scalar.order_of sum in
    let whole = c.in_ok-whole.whole in
    sum_denominators g.S.Scalar.value m n (g.met.S.Scalar.admitted_positive m (g.met.S.Scalar.order_admitted sum))
    c.requires.order 2304 1 48 1 sum whole c.requires.few
    (whole_few n c.args.count (g.S.Scalar.value n whole) c.requires.within c.in_ok-whole.ensures.value)
    (2 ^ 60) (omega arith)

pub add-requires-clause-sizes : goal.add-requires-clause-sizes
add-requires-clause-sizes g c =
    let n = c.args.order.now.n in
    let sum = c.args.sum.now in
    let m = g.S.Scalar.order_of sum in
    let whole = c.in_ok-whole.whole in
    sum_sizes g.S.Scalar.value m n (g.met.S.Scalar.admitted_positive m (g.met.S.Scalar.order_admitted sum))
    c.requires.order 2304 1 48 1 sum whole c.requires.few
    (whole_few n c.args.count (g.S.Scalar.value n whole) c.requires.within c.in_ok-whole.ensures.value)
    (2 ^ 110) (sum_room n c.args.order.now.limited)

pub returns-then-is_zero : goal.returns-then-is_zero
returns-then-is_zero g c x e =
    let value = g.S.Scalar.value in
    let n = c.args.order.now.n in
    let sum = c.args.sum.now in
    let whole = c.in_ok-whole.whole in
    let less = subst (λ k. value k c.in_ok-less.less ≡ (numbers k).add (value k sum) ((numbers k).neg (value k whole)))
    c.requires.order c.in_ok-less.ensures.value in
    minus_is n c.args.order.now.positive c.args.count c.requires.positive (value n sum) (value n whole)
    c.in_ok-whole.ensures.value x e
    (sym less ∙ subst (λ k. value k c.in_ok-less.less ≡ (numbers k).zero) (c.in_ok-less.ensures.order ∙ c.requires.order)
    (c.is_zero.ensures.zero.0 (is-true c.is_zero.result c.if-is_zero.true)))

pub returns-then-is_zero-2 : goal.returns-then-is_zero-2
returns-then-is_zero-2 g c x e =
    let value = g.S.Scalar.value in
    let n = c.args.order.now.n in
    let sum = c.args.sum.now in
    let whole = c.in_ok-whole.whole in
    let more = subst (λ k. value k c.in_ok-more.more ≡ (numbers k).add (value k sum) (value k whole)) c.requires.order
    c.in_ok-more.ensures.value in
    plus_is n c.args.order.now.positive c.args.count c.requires.positive (value n sum) (value n whole)
    c.in_ok-whole.ensures.value x e
    (sym more ∙ subst (λ k. value k c.in_ok-more.more ≡ (numbers k).zero) (c.in_ok-more.ensures.order ∙ c.requires.order)
    (c.is_zero-2.ensures.zero.0 (is-true c.is_zero-2.result c.if-is_zero-2.true)))

pub returns : goal.returns
returns g c x e =
    let value = g.S.Scalar.value in
    let n = c.args.order.now.n in
    let sum = c.args.sum.now in
    let whole = c.in_ok-whole.whole in
    let less = subst (λ k. value k c.in_ok-less.less ≡ (numbers k).add (value k sum) ((numbers k).neg (value k whole)))
    c.requires.order c.in_ok-less.ensures.value in
    let more = subst (λ k. value k c.in_ok-more.more ≡ (numbers k).add (value k sum) (value k whole)) c.requires.order
    c.in_ok-more.ensures.value in
    other_is n c.args.count (value n sum) (value n whole) c.in_ok-whole.ensures.value
    (λ z. is-false c.is_zero.result c.if-is_zero.false (c.is_zero.ensures.zero.1
    (subst (λ k. value k c.in_ok-less.less ≡ (numbers k).zero) (sym (c.in_ok-less.ensures.order ∙ c.requires.order))
    (less ∙ z))))
    (λ z. is-false c.is_zero-2.result c.if-is_zero-2.false (c.is_zero-2.ensures.zero.1
    (subst (λ k. value k c.in_ok-more.more ≡ (numbers k).zero) (sym (c.in_ok-more.ensures.order ∙ c.requires.order))
    (more ∙ z))))
    x e
