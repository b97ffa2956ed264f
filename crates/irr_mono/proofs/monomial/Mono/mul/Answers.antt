-- All columns: the product.
use Rattle.std.proofs.Common.{◌≡◌, sym, subst, ◌<◌, ℕ, length, slice_index, rules, arith}
use Rattle.irr_mono.proofs.Products.{AreProduct, monomial-mul}
use Rattle.irr_mono.proofs.monomial.Mono.mul.Goals as goal

pub returns-clause-value : goal.returns-clause-value
returns-clause-value c =
    let N = c.args.order.now.n in
    let p = c.args.self.now.place.items in
    let e = c.args.self.now.exp.items in
    let q = c.args.other.now.place.items in
    let f = c.args.other.now.exp.items in
    let columns : c.len-column-end.result ≡ length q = (let l = c.len-column-end.ensures in search rules) in
    let all : c.loop-column.column ≡ length p = omega (arith, columns, c.requires.columns, c.loop-column-test.false, c.loop-column.auto.column-end) in
    let inside : (k : ℕ) → k < length p → slice_index q k < length p = λ k l.
    subst (λ m. slice_index q k < m) c.requires.columns (c.requires.right.inside k (subst (λ m. k < m) (sym c.requires.columns) l)) in
    monomial-mul N p e q f (length p) c.loop-column.place.items c.loop-column.exp.items inside
    (subst (λ k. AreProduct N p e q f k c.loop-column.place.items c.loop-column.exp.items) all c.loop-column.invariant)
