-- Two products are compared.
use Rattle.std.proofs.Common.{sym, ◌∙◌, subst, ℕ, ◌<◌, ◌≤◌}
use Rattle.irr_algebra.specs.Fin.{Fin}
use Rattle.irr_algebra.specs.Matrix.{◌·◌, scale}
use Rattle.irr_algebra.specs.Ring.{whole}
use Rattle.irr_algebra.proofs.Indices.{from_nat, to_nat-from_nat}
use Rattle.irr_number.specs.Number.{numbers}
use Rattle.irr_number.proofs.Lifts.{lift-root_power}
use Rattle.irr_canonical.specs.RootSum.{IsRootSum}
use Rattle.irr_space.specs.PhaseTable.{PhaseTable, phases_over}
use Rattle.std.specs.Int.{◌∣◌}
use Rattle.irr_rep.specs.Family.{matrix_at}
use Rattle.irr_rep.specs.Twisted.{place_count, phase_table}
use Rattle.irr_rep.proofs.CommonDenominators.{root_sum_of_power}
use Rattle.irr_rep.proofs.MatrixForms.{fit_of_both, fit_of_product, item-matrix, multiplied, order_of_matrix, product_fits, same-from, same-to}
use Rattle.irr_rep.proofs.MatrixForms.{sums_fit}
use Rattle.irr_rep.proofs.defects.multiplies.Goals as goal

-- a multiple of a phase is a multiple of a power of z
phase_multiple : {h : ℕ} (T : PhaseTable h) (n : ℕ) (v : T.order ∣ n) (q : ℕ) → 0 < q → (i j : Fin h)
    → IsRootSum n q 1 ((numbers n).mul (whole (numbers n) q) ((phases_over T n v).phase i j))
phase_multiple T n v q p i j = subst (λ y. IsRootSum n q 1 ((numbers n).mul (whole (numbers n) q) y))
    (sym (lift-root_power T.order n T.order_positive v (T.exponent i j))) (root_sum_of_power n q _ p)

pub mul-requires-clause-sizes : goal.mul-requires-clause-sizes
mul-requires-clause-sizes g c =
    let f = c.args.f.now in
    let h = place_count c.args.t.now in
    let p = c.requires.checkable in
    let i = from_nat h c.args.i c.requires.row in
    let j = from_nat h c.args.j c.requires.column in
    let m = item-matrix p.n f.dim f.mats.items c.args.i c.index.result.now
    (subst (λ k. c.args.i < k) (sym p.limits.shape.count) c.requires.row) c.index.ensures p.limits.shape i
    (to_nat-from_nat h c.args.i c.requires.row) in
    let k = item-matrix p.n f.dim f.mats.items c.args.j c.index-2.result.now
    (subst (λ k. c.args.j < k) (sym p.limits.shape.count) c.requires.column) c.index-2.ensures p.limits.shape j
    (to_nat-from_nat h c.args.j c.requires.column) in
    let order = subst (λ u. u ≤ 12000) m.order (order_of_matrix (λ u. u ≤ 12000)
    (λ x. g.met.S.Scalar.admitted_limited (g.S.Scalar.order_of x) (g.met.S.Scalar.order_admitted x)) c.index.result.now) in
    product_fits p.n f.dim (matrix_at p.n f.dim f.mats.items i) (matrix_at p.n f.dim f.mats.items j) c.index.result.now c.index-2.result.now m k
    (fit_of_product p.n f.dim p.denominator order p.limits.few p.limits.limited (matrix_at p.n f.dim f.mats.items i) (p.limits.within i)
    (matrix_at p.n f.dim f.mats.items j) (p.limits.within j))

pub equal-requires-clause-orders : goal.equal-requires-clause-orders
equal-requires-clause-orders g c =
    let f = c.args.f.now in
    let h = place_count c.args.t.now in
    let p = c.requires.checkable in
    let i = from_nat h c.args.i c.requires.row in
    let j = from_nat h c.args.j c.requires.column in
    let ei = to_nat-from_nat h c.args.i c.requires.row in
    let ej = to_nat-from_nat h c.args.j c.requires.column in
    let m = item-matrix p.n f.dim f.mats.items c.args.i c.index.result.now
    (subst (λ k. c.args.i < k) (sym p.limits.shape.count) c.requires.row) c.index.ensures p.limits.shape i ei in
    (c.in_ok-expected.ensures p i j ei ej).order ∙ sym (c.in_ok-product.ensures.order ∙ m.order)

pub equal-requires-clause-sizes : goal.equal-requires-clause-sizes
equal-requires-clause-sizes g c =
    let f = c.args.f.now in
    let h = place_count c.args.t.now in
    let T = phase_table c.args.t.now in
    let p = c.requires.checkable in
    let i = from_nat h c.args.i c.requires.row in
    let j = from_nat h c.args.j c.requires.column in
    let ei = to_nat-from_nat h c.args.i c.requires.row in
    let ej = to_nat-from_nat h c.args.j c.requires.column in
    let m = item-matrix p.n f.dim f.mats.items c.args.i c.index.result.now
    (subst (λ k. c.args.i < k) (sym p.limits.shape.count) c.requires.row) c.index.ensures p.limits.shape i ei in
    let k = item-matrix p.n f.dim f.mats.items c.args.j c.index-2.result.now
    (subst (λ k. c.args.j < k) (sym p.limits.shape.count) c.requires.column) c.index-2.ensures p.limits.shape j ej in
    let a = matrix_at p.n f.dim f.mats.items i in
    let b = matrix_at p.n f.dim f.mats.items j in
    let w = matrix_at p.n f.dim f.mats.items (T.product i j) in
    let q = c.args.number in
    let s = (numbers p.n).mul (whole (numbers p.n) q) ((phases_over T p.n p.divides).phase i j) in
    let z = c.in_ok-product.product in
    let order = subst (λ u. u ≤ 12000) m.order (order_of_matrix (λ u. u ≤ 12000)
    (λ x. g.met.S.Scalar.admitted_limited (g.S.Scalar.order_of x) (g.met.S.Scalar.order_admitted x)) c.index.result.now) in
    sums_fit p.n f.dim (a · b) (scale (numbers p.n) s w) z c.in_ok-expected.expected
    (multiplied p.n f.dim a b c.index.result.now c.index-2.result.now m k z c.in_ok-product.ensures.rows c.in_ok-product.ensures.cols
    c.in_ok-product.ensures.order c.in_ok-product.ensures.value)
    (c.in_ok-expected.ensures p i j ei ej)
    (fit_of_both p.n f.dim p.denominator order p.limits.few p.limits.limited a (p.limits.within i) b (p.limits.within j) q s w c.requires.limited
    (phase_multiple T p.n p.divides q c.requires.positive i j) (p.limits.within (T.product i j)))

pub returns : goal.returns
returns g c p i j ei ej =
    let f = c.args.f.now in
    let T = phase_table c.args.t.now in
    let m = item-matrix p.n f.dim f.mats.items c.args.i c.index.result.now
    (subst (λ k. c.args.i < k) (sym p.limits.shape.count) c.requires.row) c.index.ensures p.limits.shape i ei in
    let k = item-matrix p.n f.dim f.mats.items c.args.j c.index-2.result.now
    (subst (λ k. c.args.j < k) (sym p.limits.shape.count) c.requires.column) c.index-2.ensures p.limits.shape j ej in
    let a = matrix_at p.n f.dim f.mats.items i in
    let b = matrix_at p.n f.dim f.mats.items j in
    let w = scale (numbers p.n) ((numbers p.n).mul (whole (numbers p.n) c.args.number) ((phases_over T p.n p.divides).phase i j))
    (matrix_at p.n f.dim f.mats.items (T.product i j)) in
    let z = c.in_ok-product.product in
    let left = multiplied p.n f.dim a b c.index.result.now c.index-2.result.now m k z c.in_ok-product.ensures.rows c.in_ok-product.ensures.cols
    c.in_ok-product.ensures.order c.in_ok-product.ensures.value in
    let right = c.in_ok-expected.ensures p i j ei ej in (
      λ t. same-to p.n f.dim (a · b) w z c.in_ok-expected.expected left right (c.equal.ensures.0 t).2,
      λ e. c.equal.ensures.1 (same-from p.n f.dim (a · b) w z c.in_ok-expected.expected left right e),
    )
