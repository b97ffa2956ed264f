-- The first place at which the rows differ decides.
use Rattle.std.proofs.Common.{rules, ◌≡◌, sym, ◌<◌, ◌≤◌, min, length, inl, inr, arith}
use Rattle.irr_algebra.specs.Fin.{to_nat}
use Rattle.irr_algebra.proofs.Indices.{to_nat-lt}
use Rattle.irr_char.proofs.RowForms.{before_or_at, compared_at, decided_at, is_equal, same_at}
use Rattle.irr_char.proofs.rows.compare_rows.Goals as goal

pub loop-k-init : goal.loop-k-init
loop-k-init c n h f g p fx gy i l = sym
    (same_at n g f c.args.ys.now c.args.xs.now p gy fx 0 c.index-ys-0.result c.index-xs-0.result c.index-ys-0.is c.index-xs-0.is
    c.compare_numbers-first.result c.compare_numbers-first.ensures (is_equal c.compare_numbers-first.result c.ne.result c.ne.ensures c.if-ne.false) i
    (omega arith))

pub loop-k-preserved : goal.loop-k-preserved
loop-k-preserved c n h f g p fx gy i l = elim (before_or_at (to_nat i) c.loop-k.k l) [
  | inl b ↦ c.loop-k.invariant n h f g p fx gy i b
  | inr e ↦ same_at n f g c.args.xs.now c.args.ys.now p fx gy c.loop-k.k c.index-xs-k.result c.index-ys-k.result c.index-xs-k.is c.index-ys-k.is
      c.compare_numbers-order.result c.compare_numbers-order.ensures
      (is_equal c.compare_numbers-order.result c.ne-in-loop-k.result c.ne-in-loop-k.ensures c.if-ne-2.false) i e
]

pub returns-then-ne-2 : goal.returns-then-ne-2
returns-then-ne-2 c n h f g start s p fx gy =
    let m : c.min-common.result ≡ min (length c.args.xs.now) (length c.args.ys.now) = c.min-common.ensures in
    let t : c.loop-k.k < c.min-common.result = c.loop-k-test.true in
    let q : length c.args.xs.now ≡ h = fx.same_length in
    let r : 1 ≤ c.loop-k.k = c.loop-k.auto.k in
    decided_at n f g start s c.loop-k.k r (omega arith) (c.loop-k.invariant n h f g p fx gy) c.compare_numbers-order.result (search rules)
    (compared_at n f g c.args.xs.now c.args.ys.now p fx gy c.loop-k.k c.index-xs-k.result c.index-ys-k.result c.index-xs-k.is c.index-ys-k.is
    c.compare_numbers-order.result c.compare_numbers-order.ensures)

pub returns : goal.returns
returns c n h f g start s p fx gy i =
    let m : c.min-common.result ≡ min (length c.args.xs.now) (length c.args.ys.now) = c.min-common.ensures in
    let t : c.min-common.result ≤ c.loop-k.k = c.loop-k-test.false in
    let q : length c.args.xs.now ≡ h = fx.same_length in
    let u : length c.args.ys.now ≡ h = gy.same_length in
    let b : to_nat i < h = to_nat-lt i in
    c.loop-k.invariant n h f g p fx gy i (omega arith)
