-- The only row that is not 0, and columns with none or with two.
use Rattle.std.proofs.Common.{◌≢◌, ◌∙◌, subst, ◌+◌, ◌<◌, ◌≤◌, arith}
use Rattle.irr_mat.specs.Entries.{first_order, matrix_of}
use Rattle.irr_mono.specs.Columns.{AreZeros}
use Rattle.irr_mono.proofs.ColumnPowers.{only-from, only-none, only-two}
use Rattle.irr_mono.proofs.columns.only_nonzero.Goals as goal

pub returns-then-row-rows : goal.returns-then-row-rows
returns-then-row-rows g c =
    let m = c.args.m.now in
    let n = first_order g.S.Scalar.order_of m.entries.items in
    let past : m.rows ≤ c.next_nonzero-row.result = omega (arith, c.if-row-rows.true, c.rows.ensures.value) in
    λ row only. only-none (matrix_of g.S.Scalar.value n m.rows m.cols m.entries.items) c.args.column row c.next_nonzero-row.result c.requires past c.next_nonzero-row.ensures.zeros only

pub returns-then-next_nonzero-rows : goal.returns-then-next_nonzero-rows
returns-then-next_nonzero-rows g c =
    let m = c.args.m.now in
    let n = first_order g.S.Scalar.order_of m.entries.items in
    let apart : c.next_nonzero.result ≢ c.rows-2.result = c.if-next_nonzero-rows.true in
    let less : c.next_nonzero-row.result < c.next_nonzero.result = omega (arith, c.next_nonzero.ensures.after) in
    let inside : c.next_nonzero.result < m.rows = omega (arith, apart, c.rows-2.ensures.value, c.next_nonzero.ensures.within) in
    λ row only. only-two (matrix_of g.S.Scalar.value n m.rows m.cols m.entries.items) c.args.column row c.next_nonzero-row.result c.next_nonzero.result c.requires less inside
    c.next_nonzero-row.ensures.nonzero c.next_nonzero.ensures.nonzero only

pub returns : goal.returns
returns g c =
    let m = c.args.m.now in
    let n = first_order g.S.Scalar.order_of m.entries.items in
    let a = matrix_of g.S.Scalar.value n m.rows m.cols m.entries.items in
    let apart : c.next_nonzero-row.result ≢ c.rows.result = c.if-row-rows.false in
    let inside : c.next_nonzero-row.result < m.rows = omega (arith, apart, c.rows.ensures.value, c.next_nonzero-row.ensures.within) in
    only-from a c.args.column c.next_nonzero-row.result inside c.next_nonzero-row.ensures.zeros c.next_nonzero-row.ensures.nonzero
    (subst (AreZeros a c.args.column (c.next_nonzero-row.result + 1)) (c.if-next_nonzero-rows.false ∙ c.rows-2.ensures.value) c.next_nonzero.ensures.zeros)
