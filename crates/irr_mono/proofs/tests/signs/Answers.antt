-- All entries.
use Rattle.std.proofs.Common.{◌≡◌, sym, ◌∙◌, ap, subst, ◌*◌, ◌<◌, length, arith}
use native.Mathlib.Nat as Nat
use Rattle.irr_mat.specs.Entries.{first_order, matrix_of}
use Rattle.irr_mat.specs.Size.{IsWithin}
use Rattle.irr_mat.proofs.Bounds.{within-list}
use Rattle.irr_mat.proofs.Entries.{one_order}
use Rattle.irr_mono.proofs.tests.signs.Goals as goal

pub from_entries-requires-clause-one_order : goal.from_entries-requires-clause-one_order
from_entries-requires-clause-one_order g c =
    let full : length c.loop-sign.numbers.items ≡ c.args.rows * c.args.cols = omega (arith, c.loop-sign.invariant.count, c.requires.full, c.loop-sign-test.false, c.loop-sign.auto.sign-index-end) in
    (one_order g.S.Scalar.order_of c.args.order.now.n c.loop-sign.numbers.items c.loop-sign.invariant.orders (subst (λ k. 0 < k) (sym full) (Nat.mul-pos c.requires.some_rows c.requires.some_cols))).1

pub returns-clause-order : goal.returns-clause-order
returns-clause-order g c =
    let full : length c.loop-sign.numbers.items ≡ c.args.rows * c.args.cols = omega (arith, c.loop-sign.invariant.count, c.requires.full, c.loop-sign-test.false, c.loop-sign.auto.sign-index-end) in
    ap (first_order g.S.Scalar.order_of) c.from_entries.ensures.entries
    ∙ (one_order g.S.Scalar.order_of c.args.order.now.n c.loop-sign.numbers.items c.loop-sign.invariant.orders (subst (λ k. 0 < k) (sym full) (Nat.mul-pos c.requires.some_rows c.requires.some_cols))).0

pub returns-clause-within : goal.returns-clause-within
returns-clause-within g c =
    let n = c.args.order.now.n in
    let full : length c.loop-sign.numbers.items ≡ c.args.rows * c.args.cols = omega (arith, c.loop-sign.invariant.count, c.requires.full, c.loop-sign-test.false, c.loop-sign.auto.sign-index-end) in
    subst (λ xs. IsWithin n 1 1 (matrix_of g.S.Scalar.value n c.args.rows c.args.cols xs)) (sym c.from_entries.ensures.entries)
    (within-list g.S.Scalar.value n c.args.rows c.args.cols 1 1 c.loop-sign.numbers.items (omega arith) full c.loop-sign.invariant.sums)
