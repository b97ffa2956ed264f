-- The entries, one after another.
use Rattle.std.proofs.Common.{◌≡◌, ◌<◌, ◌≤◌, ◌+◌, ◌*◌, sym, ◌∙◌, subst, ℕ, Fits, arith, rules}
use mir.Syntax.{w32}
use Rattle.irr_algebra.specs.Pair.{times}
use Rattle.irr_algebra.proofs.Indices.{from_nat, to_nat-from_nat}
use Rattle.irr_clifford.specs.Formulas.{induced_matrix}
use Rattle.irr_mat.proofs.Entries.{Filled, filled-next, filled-nil, filled-push}
use Rattle.irr_rep.specs.Twisted.{place_count}
use Rattle.irr_climb.proofs.InducedMade.{made_count, made_matrix, made_orders, rows_positive, rows_small, size_is}
use Rattle.irr_climb.proofs.induced.matrices.matrix_at_place.Goals as goal

fits_small : (k : ℕ) → k ≤ 144 → Fits w32 k
fits_small k l = search rules

pub overflow_mul-size : goal.overflow_mul-size
overflow_mul-size g c = fits_small (c.args.step.now.index * c.args.family.now.dim)
    (rows_small c.requires.family.0 c.args.family.now.dim c.requires.positive c.requires.few)

pub loop-i-init : goal.loop-i-init
loop-i-init g c is d D r p e =
    let order = g.S.Scalar.order_of in
    let value = g.S.Scalar.value in
    let n = c.args.order.now.n in
    let t = times is.quotient.index d in
    let a = induced_matrix is.quotient D p in
    subst (Filled order value n a (0 * t)) (sym c.new-entries.ensures.items) (filled-nil order value n t t a)

pub loop-j-init : goal.loop-j-init
loop-j-init g c is d D r p e =
    let order = g.S.Scalar.order_of in
    let value = g.S.Scalar.value in
    let n = c.args.order.now.n in
    let t = times is.quotient.index d in
    let a = induced_matrix is.quotient D p in
    let more : c.loop-i.i * t ≡ c.loop-i.i * t + 0 = omega arith in
    subst (λ k. Filled order value n a k c.loop-i.entries.items) more (c.loop-i.invariant is d D r p e)

pub loop-j-preserved : goal.loop-j-preserved
loop-j-preserved g c is d D r p e =
    let t = times is.quotient.index d in
    filled-push g.S.Scalar.order_of g.S.Scalar.value c.args.order.now.n t t (induced_matrix is.quotient D p) c.loop-i.i c.loop-j.j
    c.loop-j.entries.items c.push.new.self.items c.in_ok-entry.entry (c.loop-j.invariant is d D r p e) c.in_ok-push.ensures.items
    (subst (λ k. c.loop-j.j < k) (size_is is d c.args.family.now.dim r.size) c.loop-j-test.true)
    c.in_ok-entry.ensures.order (c.in_ok-entry.ensures.entry is d D r p e)

pub loop-i-preserved : goal.loop-i-preserved
loop-i-preserved g c is d D r p e =
    let t = times is.quotient.index d in
    let full : c.loop-j.j ≡ c.args.step.now.index * c.args.family.now.dim = search rules in
    filled-next g.S.Scalar.order_of g.S.Scalar.value c.args.order.now.n t t (induced_matrix is.quotient D p) c.loop-i.i c.loop-j.j
    c.loop-j.entries.items (c.loop-j.invariant is d D r p e) (full ∙ size_is is d c.args.family.now.dim r.size)

pub from_entries-requires-clause-some_rows : goal.from_entries-requires-clause-some_rows
from_entries-requires-clause-some_rows g c = rows_positive c.requires.family.0 c.args.family.now.dim c.requires.positive

pub from_entries-requires-clause-some_cols : goal.from_entries-requires-clause-some_cols
from_entries-requires-clause-some_cols g c = rows_positive c.requires.family.0 c.args.family.now.dim c.requires.positive

pub from_entries-requires-clause-filled : goal.from_entries-requires-clause-filled
from_entries-requires-clause-filled g c =
    let r = c.requires.family in
    let o = place_count c.args.step.now.outer in
    let dim = c.args.family.now.dim in
    let p = from_nat o c.args.x c.requires.place in
    made_count g.S.Scalar.order_of g.S.Scalar.value c.args.order.now.n (times r.0.quotient.index r.1) (c.args.step.now.index * dim) c.loop-i.i
    (induced_matrix r.0.quotient r.2 p) c.loop-i.entries.items
    (c.loop-i.invariant r.0 r.1 r.2 r.3 p (to_nat-from_nat o c.args.x c.requires.place)) (size_is r.0 r.1 dim r.3.size)
    c.loop-i-test.false c.loop-i.auto.i-end (rows_positive r.0 dim c.requires.positive)

pub from_entries-requires-clause-one_order : goal.from_entries-requires-clause-one_order
from_entries-requires-clause-one_order g c =
    let r = c.requires.family in
    let o = place_count c.args.step.now.outer in
    let dim = c.args.family.now.dim in
    let p = from_nat o c.args.x c.requires.place in
    made_orders g.S.Scalar.order_of g.S.Scalar.value c.args.order.now.n (times r.0.quotient.index r.1) (c.args.step.now.index * dim) c.loop-i.i
    (induced_matrix r.0.quotient r.2 p) c.loop-i.entries.items
    (c.loop-i.invariant r.0 r.1 r.2 r.3 p (to_nat-from_nat o c.args.x c.requires.place)) (size_is r.0 r.1 dim r.3.size)
    c.loop-i-test.false c.loop-i.auto.i-end (rows_positive r.0 dim c.requires.positive)

pub returns : goal.returns
returns g c is d D r p e =
    let dim = c.args.family.now.dim in
    made_matrix c.args.order.now.n (times is.quotient.index d) (c.args.step.now.index * dim) c.loop-i.i
    (induced_matrix is.quotient D p) c.loop-i.entries.items (c.loop-i.invariant is d D r p e) (size_is is d dim r.size)
    c.loop-i-test.false c.loop-i.auto.i-end (rows_positive is dim c.requires.positive)
    c.from_entries.result c.from_entries.ensures.rows c.from_entries.ensures.cols c.from_entries.ensures.entries
