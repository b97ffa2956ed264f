-- A row that is not 0, and one more row that is.
use Rattle.std.proofs.Common.{◌≡◌, sym, subst, ◌≤◌, arith}
use Rattle.irr_number.specs.Number.{numbers}
use Rattle.irr_mat.specs.Entries.{first_order, matrix_of}
use Rattle.irr_mono.proofs.ColumnPowers.{nonzero-at, nonzero-past, zeros-more}
use Rattle.irr_mono.proofs.Truth.{is-true, not-true}
use Rattle.irr_mono.proofs.columns.next_nonzero.Goals as goal

pub returns-then-not-is_zero-clause-nonzero : goal.returns-then-not-is_zero-clause-nonzero
returns-then-not-is_zero-clause-nonzero g c =
    let m = c.args.m.now in
    let n = first_order g.S.Scalar.order_of m.entries.items in
    let x = c.at-entry.result.now in
    nonzero-at (matrix_of g.S.Scalar.value n m.rows m.cols m.entries.items) c.args.column c.loop-row.row (g.S.Scalar.value n x) (c.at-entry.ensures.entry n)
    (λ z. not-true c.is_zero.result c.if-not-is_zero.true (c.is_zero.ensures.zero.1 (subst (λ k. g.S.Scalar.value k x ≡ (numbers k).zero) (sym c.at-entry.ensures.order) z)))

pub loop-row-preserved : goal.loop-row-preserved
loop-row-preserved g c =
    let m = c.args.m.now in
    let n = first_order g.S.Scalar.order_of m.entries.items in
    let x = c.at-entry.result.now in
    zeros-more (matrix_of g.S.Scalar.value n m.rows m.cols m.entries.items) c.args.column c.args.from c.loop-row.row (g.S.Scalar.value n x) c.loop-row.invariant (c.at-entry.ensures.entry n)
    (subst (λ k. g.S.Scalar.value k x ≡ (numbers k).zero) c.at-entry.ensures.order (c.is_zero.ensures.zero.0 (is-true c.is_zero.result c.if-not-is_zero.false)))

pub returns-clause-nonzero : goal.returns-clause-nonzero
returns-clause-nonzero g c =
    let m = c.args.m.now in
    let n = first_order g.S.Scalar.order_of m.entries.items in
    let past : m.rows ≤ c.rows.result = omega (arith, c.rows.ensures.value) in
    nonzero-past (matrix_of g.S.Scalar.value n m.rows m.cols m.entries.items) c.args.column c.rows.result past
