-- The number 1, so many times.
use Rattle.std.proofs.Common.{◌≡◌, sym, ◌∙◌, subst, ℕ, ◌*◌, ◌<◌, ◌≤◌, ◌^◌, to_z, of_z, unsigned_abs, arith}
use Rattle.std.specs.Int.{w64}
use Rattle.std.proofs.lemmas.Int.{to_z-of_z}
use native.Mathlib.Nat as Nat
use Rattle.irr_algebra.specs.Ring.{whole}
use Rattle.irr_number.specs.Number.{Number, numbers}
use Rattle.irr_rational.specs.Integer.{integer}
use Rattle.irr_canonical.specs.Coefficient.{denominator, size}
use Rattle.irr_canonical.specs.RootSum.{IsRootSum}
use Rattle.irr_canonical.proofs.RootSums.{IsRootSum-one}
use Rattle.irr_canonical.proofs.RootSizes.{denominator_of_IsRootSum, size_of_IsRootSum}
use Rattle.irr_real.proofs.FormTypes.{scale_room, whole_value}
use Rattle.irr_real.proofs.types.as_number.Goals as goal

module _ {S : Type 0} (value : (n : ℕ) → S → Number n) (m n : ℕ) (positive : 0 < m) (same : m ≡ n) (one : S)
    (e : value n one ≡ (numbers n).one) where
  one_here : IsRootSum m 1 1 (value m one)
  one_here = subst (λ k. IsRootSum k 1 1 (value k one)) (sym same) (subst (IsRootSum n 1 1) (sym e) (IsRootSum-one n))

  one_denominator : denominator m (value m one) * 1 ≤ 2 ^ 60
  one_denominator =
      let l : denominator m (value m one) ≤ 1 = Nat.le_of_dvd (omega arith)
      (denominator_of_IsRootSum m positive 1 1 (value m one) one_here) in
      omega (arith, l)

  one_size : (h : ℕ) → n ≤ 12000 → h ≤ 48 → size m (value m one) * h ≤ 2 ^ 100
  one_size h l few = scale_room (size m (value m one)) m h (size_of_IsRootSum m positive 1 1 (value m one) one_here)
      (subst (λ k. k ≤ 12000) (sym same) l) few

pub scale-requires-clause-denominators : goal.scale-requires-clause-denominators
scale-requires-clause-denominators g c =
    let one = c.in_ok-one.one in
    let m = g.S.Scalar.order_of one in
    one_denominator g.S.Scalar.value m c.args.order.now.n
    (g.met.S.Scalar.admitted_positive m (g.met.S.Scalar.order_admitted one)) c.in_ok-one.ensures.order one
    c.in_ok-one.ensures.value

pub scale-requires-clause-sizes : goal.scale-requires-clause-sizes
scale-requires-clause-sizes g c =
    let one = c.in_ok-one.one in
    let m = g.S.Scalar.order_of one in
    subst (λ z. size m (g.S.Scalar.value m one) * unsigned_abs z ≤ 2 ^ 100)
    (sym (to_z-of_z w64 c.from.result (record { sfits = c.from.type_inv }) ∙ c.from.ensures))
    (one_size g.S.Scalar.value m c.args.order.now.n
    (g.met.S.Scalar.admitted_positive m (g.met.S.Scalar.order_admitted one)) c.in_ok-one.ensures.order one
    c.in_ok-one.ensures.value c.args.count c.args.order.now.limited c.requires.within)

pub returns-clause-value : goal.returns-clause-value
returns-clause-value g c =
    let value = g.S.Scalar.value in
    let n = c.args.order.now.n in
    let z = to_z w64 (of_z w64 c.from.result) in
    whole_value n c.args.count z (value n c.in_ok-number.number) (value n c.in_ok-one.one)
    (subst (λ k. (numbers k).mul (whole (numbers k) 1) (value k c.in_ok-number.number)
    ≡ (numbers k).mul (integer (numbers k) z) (value k c.in_ok-one.one)) c.in_ok-one.ensures.order
    c.in_ok-number.ensures.value) c.in_ok-one.ensures.value
    (to_z-of_z w64 c.from.result (record { sfits = c.from.type_inv }) ∙ c.from.ensures)
