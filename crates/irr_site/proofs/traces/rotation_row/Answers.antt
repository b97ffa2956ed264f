-- One number after another.
use Rattle.std.proofs.Common.{rules, ◌≡◌, sym, ◌∙◌, ap, subst, ℕ, ◌+◌, ◌*◌, ◌<◌, ◌≤◌, ◌^◌, ◌∷◌, [], length, length-append, map, unsigned_abs, to_z, of_z, arith}
use Rattle.std.specs.List.{All}
use Rattle.std.specs.Int.{w64}
use Rattle.std.proofs.lemmas.List.Elements.{All-nil, All-push}
use native.Mathlib.Nat as Nat
use Rattle.irr_algebra.specs.Fin.{Fin, to_nat}
use Rattle.irr_algebra.specs.Matrix.{trace}
use Rattle.irr_algebra.specs.Ring.{whole}
use Rattle.irr_algebra.proofs.Indices.{to_nat-lt}
use Rattle.irr_number.specs.Number.{Number, numbers}
use Rattle.irr_rational.specs.Integer.{integer, whole_matrix}
use Rattle.irr_canonical.specs.Coefficient.{denominator, size}
use Rattle.irr_canonical.specs.RootSum.{IsRootSum}
use Rattle.irr_canonical.proofs.RootSums.{IsRootSum-one}
use Rattle.irr_canonical.proofs.RootSizes.{denominator_of_IsRootSum, size_of_IsRootSum}
use Rattle.irr_seitz.specs.OperationMeaning.{operation}
use Rattle.irr_site.proofs.RotationTraces.{integer_few, read_small, row_more, scaled_value, trace_integer, trace_room}
use Rattle.irr_site.proofs.traces.rotation_row.Goals as goal

module _ {S : Type 0} (value : (n : ℕ) → S → Number n) (m n : ℕ) (positive : 0 < m) (same : m ≡ n) (one : S)
    (e : value n one ≡ (numbers n).one) where
  one_here : IsRootSum m 1 1 (value m one)
  one_here = subst (λ k. IsRootSum k 1 1 (value k one)) (sym same) (subst (IsRootSum n 1 1) (sym e) (IsRootSum-one n))

  one_denominator : denominator m (value m one) * 1 ≤ 2 ^ 60
  one_denominator =
      let l : denominator m (value m one) ≤ 1 = Nat.le_of_dvd (omega arith)
      (denominator_of_IsRootSum m positive 1 1 (value m one) one_here) in
      omega (arith, l)

  one_size : (h : ℕ) → n ≤ 12000 → h ≤ 27 → size m (value m one) * h ≤ 2 ^ 100
  one_size h l few = trace_room (size m (value m one)) m h (size_of_IsRootSum m positive 1 1 (value m one) one_here)
      (subst (λ k. k ≤ 12000) (sym same) l) few

pub loop-init : goal.loop-init
loop-init g c =
    let n = c.args.order.now.n in
    record {
      size = ap length c.new-row.ensures.items;
      orders = subst (All (λ x. g.S.Scalar.order_of x ≡ n)) (sym c.new-row.ensures.items) (All-nil (λ x. g.S.Scalar.order_of x ≡ n));
      each = λ p l. absurd (omega (arith, l));
    }

pub scale-requires-clause-denominators : goal.scale-requires-clause-denominators
scale-requires-clause-denominators g c =
    let one = c.in_ok-one.one in
    let m = g.S.Scalar.order_of one in
    one_denominator g.S.Scalar.value m c.args.order.now.n
    (g.met.S.Scalar.admitted_positive m (g.met.S.Scalar.order_admitted one)) c.in_ok-one.ensures.order one
    c.in_ok-one.ensures.value

pub scale-requires-clause-sizes : goal.scale-requires-clause-sizes
scale-requires-clause-sizes g c =
    let one = c.in_ok-one.one in
    let m = g.S.Scalar.order_of one in
    subst (λ z. size m (g.S.Scalar.value m one) * unsigned_abs z ≤ 2 ^ 100)
    (sym (read_small c.rotation_trace-trace.result c.rotation_trace-trace.ensures.small))
    (one_size g.S.Scalar.value m c.args.order.now.n
    (g.met.S.Scalar.admitted_positive m (g.met.S.Scalar.order_admitted one)) c.in_ok-one.ensures.order one
    c.in_ok-one.ensures.value (unsigned_abs c.rotation_trace-trace.result) c.args.order.now.limited c.rotation_trace-trace.ensures.small)

pub loop-preserved : goal.loop-preserved
loop-preserved g c =
    let n = c.args.order.now.n in
    let value = g.S.Scalar.value in
    let number = c.in_ok-number.number in
    let A = (operation c.args.op.now).rotation in
    let v = trace (whole_matrix (numbers n) A) in
    let before = c.loop.row.items in
    let inv = c.loop.invariant in
    record {
      size = ap length c.in_ok-push.ensures.items ∙ length-append before (number ∷ []) ∙ ap (λ m. m + 1) inv.size;
      orders = subst (All (λ x. g.S.Scalar.order_of x ≡ n)) (sym c.in_ok-push.ensures.items)
          (All-push (λ x. g.S.Scalar.order_of x ≡ n) before number inv.orders (c.in_ok-number.ensures.order ∙ c.in_ok-one.ensures.order));
      each = row_more value n v before c.push.new.self.items number c.loop.counter inv.size c.in_ok-push.ensures.items inv.each
          (scaled_value n (to_z w64 (of_z w64 c.rotation_trace-trace.result)) (value n number) (value n c.in_ok-one.one)
          (subst (λ k. (numbers k).mul (whole (numbers k) 1) (value k number)
          ≡ (numbers k).mul (integer (numbers k) (to_z w64 (of_z w64 c.rotation_trace-trace.result))) (value k c.in_ok-one.one)) c.in_ok-one.ensures.order
          c.in_ok-number.ensures.value) c.in_ok-one.ensures.value
          ∙ ap (integer (numbers n)) (read_small c.rotation_trace-trace.result c.rotation_trace-trace.ensures.small ∙ c.rotation_trace-trace.ensures.value) ∙ trace_integer (numbers n) A);
    }

pub returns-clause-row : goal.returns-clause-row
returns-clause-row g c =
    let n = c.args.order.now.n in
    let A = (operation c.args.op.now).rotation in
    let done : c.loop.counter ≡ c.args.count = search rules in
    let inv = c.loop.invariant in
    record {
      count = inv.size ∙ done;
      orders = inv.orders;
      small = λ i. subst (IsRootSum n 48 1)
          (sym (inv.each (to_nat i) (subst (λ m. to_nat i < m) (sym done) (to_nat-lt i)) ∙ sym (trace_integer (numbers n) A)
          ∙ ap (integer (numbers n)) (sym c.rotation_trace-trace.ensures.value)))
          (integer_few n c.rotation_trace-trace.result c.rotation_trace-trace.ensures.small);
    }

pub returns-clause-value : goal.returns-clause-value
returns-clause-value g c p l =
    let done : c.loop.counter ≡ c.args.count = search rules in
    c.loop.invariant.each p (subst (λ m. p < m) (sym done) l)
