-- A product with 0 is 0.
use Rattle.std.proofs.Common.{◌≡◌, ◌∙◌, sym, ap, subst, Bool, true, IsTrue, rules}
use Rattle.irr_algebra.proofs.Rings.{mul-zero, zero-mul}
use Rattle.irr_number.specs.Number.{numbers}
use Rattle.irr_mat.proofs.matrices.arithmetic.product.Goals as goal

is-true : (b : Bool) → b ≡ true → IsTrue b
is-true b e = search rules

pub returns-then-is_zero-clause-value : goal.returns-then-is_zero-clause-value
returns-then-is_zero-clause-value g c =
    let value = g.S.Scalar.value in
    let n = g.S.Scalar.order_of c.args.left.now in
    let y = value n c.args.right.now in
    let zero = c.is_zero.ensures.zero.0 (is-true c.is_zero.result c.if-is_zero.true) in
    c.in_ok-none.ensures.value ∙ zero ∙ sym (zero-mul (numbers n) y) ∙ ap (λ x. (numbers n).mul x y) (sym zero)

pub returns-then-is_zero-2-clause-value : goal.returns-then-is_zero-2-clause-value
returns-then-is_zero-2-clause-value g c =
    let value = g.S.Scalar.value in
    let n = g.S.Scalar.order_of c.args.left.now in
    let x = value n c.args.left.now in
    let y = c.args.right.now in
    let zero : value n y ≡ (numbers n).zero = subst (λ k. value k y ≡ (numbers k).zero) c.requires.orders
    (c.is_zero-2.ensures.zero.0 (is-true c.is_zero-2.result c.if-is_zero-2.true)) in
    let same : value n c.in_ok-none-2.none ≡ value n y = subst (λ k. value k c.in_ok-none-2.none ≡ value k y) c.requires.orders c.in_ok-none-2.ensures.value in
    same ∙ zero ∙ sym (mul-zero (numbers n) x) ∙ ap ((numbers n).mul x) (sym zero)
