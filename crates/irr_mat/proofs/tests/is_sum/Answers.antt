-- Sums of powers of z can be worked out and compared.
use Rattle.std.proofs.Common.{◌≡◌, sym, ◌∙◌, subst, ◌+◌, ◌≤◌, arith}
use Rattle.irr_mat.specs.Entries.{first_order, matrix_of}
use Rattle.irr_mat.specs.Size.{IsWithin}
use Rattle.irr_mat.proofs.Bounds.{within-add_same}
use Rattle.irr_mat.proofs.Trial.{few_fit, within_to}
use Rattle.irr_mat.proofs.tests.is_sum.Goals as goal

pub add-requires-clause-sizes : goal.add-requires-clause-sizes
add-requires-clause-sizes g c =
    let value = g.S.Scalar.value in
    let order = g.S.Scalar.order_of in
    let n = c.args.order.now.n in
    let a = c.in_ok-a.a in
    let b = c.in_ok-b.b in
    let m = first_order order a.entries.items in
    let e : m ≡ n = c.in_ok-a.ensures.order in
    few_fit m 1 1 (matrix_of value m a.rows a.cols a.entries.items) (matrix_of value m a.rows a.cols b.entries.items)
    (subst (λ k. k ≤ 12000) (sym e) (g.met.S.Scalar.admitted_limited n c.requires.admitted)) (omega arith) (omega arith)
    (within_to value n 2 1 1 a.entries.items c.in_ok-a.ensures.within m a.rows a.cols e c.in_ok-a.ensures.rows c.in_ok-a.ensures.cols)
    (within_to value n 2 1 1 b.entries.items c.in_ok-b.ensures.within m a.rows a.cols e c.in_ok-a.ensures.rows c.in_ok-a.ensures.cols)

pub equal-requires-clause-sizes : goal.equal-requires-clause-sizes
equal-requires-clause-sizes g c =
    let value = g.S.Scalar.value in
    let order = g.S.Scalar.order_of in
    let n = c.args.order.now.n in
    let a = c.in_ok-a.a in
    let b = c.in_ok-b.b in
    let x = c.in_ok-expected.expected in
    let y = c.in_ok-found.found in
    let m = first_order order a.entries.items in
    let k = first_order order y.entries.items in
    let e : m ≡ n = c.in_ok-a.ensures.order in
    let f : k ≡ n = c.in_ok-found.ensures.order ∙ e in
    let u : IsWithin m (1 + 1) 1 (matrix_of value m a.rows a.cols y.entries.items) =
    subst (IsWithin m (1 + 1) 1) (sym c.in_ok-found.ensures.value)
    (within-add_same m a.rows a.cols 1 1 1 (matrix_of value m a.rows a.cols a.entries.items) (matrix_of value m a.rows a.cols b.entries.items)
    (within_to value n 2 1 1 a.entries.items c.in_ok-a.ensures.within m a.rows a.cols e c.in_ok-a.ensures.rows c.in_ok-a.ensures.cols)
    (within_to value n 2 1 1 b.entries.items c.in_ok-b.ensures.within m a.rows a.cols e c.in_ok-a.ensures.rows c.in_ok-a.ensures.cols)) in
    let v : IsWithin k (1 + 1) 1 (matrix_of value k y.rows y.cols y.entries.items) =
    subst (λ w. IsWithin w (1 + 1) 1 (matrix_of value w y.rows y.cols y.entries.items)) (sym c.in_ok-found.ensures.order)
    (subst (λ w. IsWithin m (1 + 1) 1 (matrix_of value m w y.cols y.entries.items)) (sym c.in_ok-found.ensures.rows)
    (subst (λ w. IsWithin m (1 + 1) 1 (matrix_of value m a.rows w y.entries.items)) (sym c.in_ok-found.ensures.cols) u)) in
    few_fit k (1 + 1) 1 (matrix_of value k y.rows y.cols y.entries.items) (matrix_of value k x.rows x.cols x.entries.items)
    (subst (λ w. w ≤ 12000) (sym f) (g.met.S.Scalar.admitted_limited n c.requires.admitted)) (omega arith) (omega arith)
    v
    (within_to value n 2 1 1 x.entries.items c.in_ok-expected.ensures.within k x.rows x.cols f c.in_ok-expected.ensures.rows c.in_ok-expected.ensures.cols)
