-- The only entry of a column that is not 0 is a power of z, or it is none.
use Rattle.std.proofs.Common.{sym, subst}
use Rattle.irr_mat.specs.Entries.{matrix_of}
use Rattle.irr_mono.specs.Columns.{IsOnly}
use Rattle.irr_mono.proofs.ColumnPowers.{no-power, only-power, power-only}
use Rattle.irr_mono.proofs.Sizes.{fit_denominator, fit_size}
use Rattle.irr_mono.proofs.columns.power_in_column.Goals as goal

pub returns-in_default : goal.returns-in_default
returns-in_default g c =
    let m = c.args.m.now in
    let n = c.args.order.now.n in
    λ row exponent h. c.in_default.ensures row (subst (λ k. IsOnly (matrix_of g.S.Scalar.value k m.rows m.cols m.entries.items) c.args.column row) (sym c.requires.order)
    (power-only n (matrix_of g.S.Scalar.value n m.rows m.cols m.entries.items) c.args.column row exponent (g.met.S.Scalar.admitted_positive n c.requires.admitted) h))

pub exponent_of-requires-clause-denominator : goal.exponent_of-requires-clause-denominator
exponent_of-requires-clause-denominator g c =
    let m = c.args.m.now in
    let n = c.args.order.now.n in
    fit_denominator n (g.met.S.Scalar.admitted_positive n c.requires.admitted) (matrix_of g.S.Scalar.value n m.rows m.cols m.entries.items) c.requires.sizes c.in-Some.row c.args.column
    (g.S.Scalar.value n c.at.result.now) c.in-Some.ensures.inside c.requires.column (c.at.ensures.entry n)

pub exponent_of-requires-clause-size : goal.exponent_of-requires-clause-size
exponent_of-requires-clause-size g c =
    let m = c.args.m.now in
    let n = c.args.order.now.n in
    fit_size n (g.met.S.Scalar.admitted_positive n c.requires.admitted) (matrix_of g.S.Scalar.value n m.rows m.cols m.entries.items) c.requires.sizes c.in-Some.row c.args.column
    (g.S.Scalar.value n c.at.result.now) c.in-Some.ensures.inside c.requires.column (c.at.ensures.entry n)

pub returns-in-Some-2 : goal.returns-in-Some-2
returns-in-Some-2 g c =
    let m = c.args.m.now in
    let n = c.args.order.now.n in
    let found = rw c.in-Some-2.is at c.in_ok-exponent.ensures in
    only-power n (matrix_of g.S.Scalar.value n m.rows m.cols m.entries.items) c.args.column c.in-Some.row c.in-Some-2.exponent (g.S.Scalar.value n c.at.result.now)
    (subst (λ k. IsOnly (matrix_of g.S.Scalar.value k m.rows m.cols m.entries.items) c.args.column c.in-Some.row) c.requires.order c.in-Some.ensures) (c.at.ensures.entry n) found.0 found.1

pub returns-in-None : goal.returns-in-None
returns-in-None g c =
    let m = c.args.m.now in
    let n = c.args.order.now.n in
    no-power n (matrix_of g.S.Scalar.value n m.rows m.cols m.entries.items) c.args.column c.in-Some.row (g.S.Scalar.value n c.at.result.now) (g.met.S.Scalar.admitted_positive n c.requires.admitted) c.requires.column
    (subst (λ k. IsOnly (matrix_of g.S.Scalar.value k m.rows m.cols m.entries.items) c.args.column c.in-Some.row) c.requires.order c.in-Some.ensures) (c.at.ensures.entry n) (rw c.in-None.is at c.in_ok-exponent.ensures)
