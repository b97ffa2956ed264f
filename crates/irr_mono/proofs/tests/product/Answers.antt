-- The numbers of the product can be worked out and compared.
use Rattle.std.proofs.Common.{◌≡◌, sym, ◌∙◌, subst, length, ◌<◌, ◌≤◌, ◌^◌, rules}
use Rattle.irr_mat.specs.Entries.{first_order, matrix_of}
use Rattle.irr_mat.specs.Size.{IsWithin}
use Rattle.irr_mono.specs.Monomial.{AreRules}
use Rattle.irr_mono.proofs.Trial.{product_fits, sums_fit, within-numbers, within-product, within-read}
use Rattle.irr_mono.proofs.Truth.{is-true}
use Rattle.irr_mono.proofs.tests.product.Goals as goal

pub mul-requires-2-clause-sizes : goal.mul-requires-2-clause-sizes
mul-requires-2-clause-sizes g c =
    let value = g.S.Scalar.value in
    let n = c.args.order.now.n in
    let left = c.args.left.now in
    let right = c.args.right.now in
    let a = c.in_ok-a.a in
    let b = c.in_ok-b.b in
    let k = first_order g.S.Scalar.order_of a.entries.items in
    let rules_left : AreRules n left.place.items left.exp.items = c.are_rules.ensures (is-true c.are_rules.result c.if-not-are_rules.false) in
    let same : length right.place.items ≡ length left.place.items = (let u = c.len.ensures in let v = c.len-2.ensures in let w = c.if-len.false in search rules) in
    product_fits k a.cols (subst (λ q. q ≤ 12000) (sym c.in_ok-a.ensures.order) (g.met.S.Scalar.admitted_limited n c.requires.admitted)) (subst (λ q. q < 2 ^ 32) (sym c.in_ok-a.ensures.cols) rules_left.few)
    (matrix_of value k a.rows a.cols a.entries.items) (matrix_of value k a.cols b.cols b.entries.items)
    (within-numbers value k n a.rows a.cols (length left.place.items) a.entries.items left.place.items left.exp.items c.in_ok-a.ensures.order c.in_ok-a.ensures.rows c.in_ok-a.ensures.cols c.in_ok-a.ensures.value)
    (within-numbers value k n a.cols b.cols (length right.place.items) b.entries.items right.place.items right.exp.items c.in_ok-a.ensures.order (c.in_ok-a.ensures.cols ∙ sym same) c.in_ok-b.ensures.cols c.in_ok-b.ensures.value)

pub equal-requires-clause-sizes : goal.equal-requires-clause-sizes
equal-requires-clause-sizes g c =
    let value = g.S.Scalar.value in
    let n = c.args.order.now.n in
    let left = c.args.left.now in
    let right = c.args.right.now in
    let a = c.in_ok-a.a in
    let b = c.in_ok-b.b in
    let x = c.in_ok-expected.expected in
    let y = c.in_ok-numbers.numbers in
    let k = first_order g.S.Scalar.order_of a.entries.items in
    let m = first_order g.S.Scalar.order_of x.entries.items in
    let made = c.in_ok-numbers.ensures in
    let rules_left : AreRules n left.place.items left.exp.items = c.are_rules.ensures (is-true c.are_rules.result c.if-not-are_rules.false) in
    let same : length right.place.items ≡ length left.place.items = (let u = c.len.ensures in let v = c.len-2.ensures in let w = c.if-len.false in search rules) in
    let order : m ≡ n = c.in_ok-expected.ensures.order ∙ c.in_ok-a.ensures.order in
    let first : IsWithin k 1 1 (matrix_of value k a.rows a.cols a.entries.items) =
    within-numbers value k n a.rows a.cols (length left.place.items) a.entries.items left.place.items left.exp.items c.in_ok-a.ensures.order c.in_ok-a.ensures.rows c.in_ok-a.ensures.cols c.in_ok-a.ensures.value in
    let second : IsWithin k 1 1 (matrix_of value k a.cols b.cols b.entries.items) =
    within-numbers value k n a.cols b.cols (length right.place.items) b.entries.items right.place.items right.exp.items c.in_ok-a.ensures.order (c.in_ok-a.ensures.cols ∙ sym same) c.in_ok-b.ensures.cols c.in_ok-b.ensures.value in
    let both : IsWithin k a.cols 1 (matrix_of value k a.rows b.cols x.entries.items) =
    subst (IsWithin k a.cols 1) (sym c.in_ok-expected.ensures.value)
    (within-product k a.rows a.cols b.cols (matrix_of value k a.rows a.cols a.entries.items) (matrix_of value k a.cols b.cols b.entries.items) first second) in
    sums_fit m a.cols (subst (λ q. q ≤ 12000) (sym order) (g.met.S.Scalar.admitted_limited n c.requires.admitted)) (subst (λ q. q < 2 ^ 32) (sym c.in_ok-a.ensures.cols) rules_left.few)
    (matrix_of value m x.rows x.cols x.entries.items) (matrix_of value m y.rows y.cols y.entries.items)
    (within-read value m k x.rows a.rows x.cols b.cols a.cols x.entries.items c.in_ok-expected.ensures.order c.in_ok-expected.ensures.rows c.in_ok-expected.ensures.cols both)
    (within-numbers value m n y.rows y.cols (length c.in_ok-product.product.place.items) y.entries.items c.in_ok-product.product.place.items c.in_ok-product.product.exp.items order made.rows made.cols made.value)
