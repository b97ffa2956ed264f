-- Powers of z of order 12 have small sizes and the denominator 1.
use Rattle.std.proofs.Common.{◌≡◌, sym, ◌∙◌, ap, ap₂, subst, ℕ, ◌+◌, ◌*◌, ◌<◌, ◌≤◌, ◌^◌, arith}
use Rattle.std.specs.Int.{◌∣◌}
use native.Mathlib.Nat as Nat
use Rattle.irr_sparse.proofs.PowerSizes.{power-denominator, power-size}
use Rattle.irr_sparse.proofs.numbers.tests.operations_on_powers.Goals as goal

both-one : (s t : ℕ) → s ≡ 1 → t ≡ 1 → s * t ≤ 2 ^ 60
both-one s t p q = let e : s * t ≡ 1 * 1 = ap₂ ◌*◌ p q in omega arith

small-sum : (a b s t m : ℕ) → a ≤ m → b ≤ m → m ≡ 12 → s ≡ 1 → t ≡ 1 → a * t + b * s < 2 ^ 110
small-sum a b s t m ha hb e p q = let u : a * t ≡ a * 1 = ap (λ x. a * x) q in let v : b * s ≡ b * 1 = ap (λ x. b * x) p in omega arith

small-product : (a b m : ℕ) → a ≤ m → b ≤ m → m ≡ 12 → a * b ≤ 2 ^ 100
small-product a b m ha hb e = let x : a ≤ 12 = omega arith in let y : b ≤ 12 = omega arith in omega (arith, Nat.mul-le-mul x y)

pub equal-requires-clause-denominators : goal.equal-requires-clause-denominators
equal-requires-clause-denominators g c = both-one _ _ (power-denominator c.in_ok-a.a.n c.in_ok-order.order.n 2 c.in_ok-a.a.terms.items c.in_ok-a.a.den c.in_ok-a.ensures.order c.in_ok-order.order.positive c.in_ok-a.ensures.value) (power-denominator c.in_ok-a.a.n c.in_ok-order.order.n 5 c.in_ok-b.b.terms.items c.in_ok-b.b.den c.in_ok-a.ensures.order c.in_ok-order.order.positive c.in_ok-b.ensures.value)

pub equal-requires-clause-sizes : goal.equal-requires-clause-sizes
equal-requires-clause-sizes g c = small-sum _ _ _ _ c.in_ok-order.order.n (power-size c.in_ok-a.a.n c.in_ok-order.order.n 2 c.in_ok-a.a.terms.items c.in_ok-a.a.den c.in_ok-a.ensures.order c.in_ok-order.order.positive c.in_ok-a.ensures.value) (power-size c.in_ok-a.a.n c.in_ok-order.order.n 5 c.in_ok-b.b.terms.items c.in_ok-b.b.den c.in_ok-a.ensures.order c.in_ok-order.order.positive c.in_ok-b.ensures.value) c.in_ok-order.ensures (power-denominator c.in_ok-a.a.n c.in_ok-order.order.n 2 c.in_ok-a.a.terms.items c.in_ok-a.a.den c.in_ok-a.ensures.order c.in_ok-order.order.positive c.in_ok-a.ensures.value) (power-denominator c.in_ok-a.a.n c.in_ok-order.order.n 5 c.in_ok-b.b.terms.items c.in_ok-b.b.den c.in_ok-a.ensures.order c.in_ok-order.order.positive c.in_ok-b.ensures.value)

pub add-requires-clause-denominators : goal.add-requires-clause-denominators
add-requires-clause-denominators g c = both-one _ _ (power-denominator c.in_ok-a.a.n c.in_ok-order.order.n 2 c.in_ok-a.a.terms.items c.in_ok-a.a.den c.in_ok-a.ensures.order c.in_ok-order.order.positive c.in_ok-a.ensures.value) (power-denominator c.in_ok-a.a.n c.in_ok-order.order.n 5 c.in_ok-b.b.terms.items c.in_ok-b.b.den c.in_ok-a.ensures.order c.in_ok-order.order.positive c.in_ok-b.ensures.value)

pub add-requires-clause-sizes : goal.add-requires-clause-sizes
add-requires-clause-sizes g c = small-sum _ _ _ _ c.in_ok-order.order.n (power-size c.in_ok-a.a.n c.in_ok-order.order.n 2 c.in_ok-a.a.terms.items c.in_ok-a.a.den c.in_ok-a.ensures.order c.in_ok-order.order.positive c.in_ok-a.ensures.value) (power-size c.in_ok-a.a.n c.in_ok-order.order.n 5 c.in_ok-b.b.terms.items c.in_ok-b.b.den c.in_ok-a.ensures.order c.in_ok-order.order.positive c.in_ok-b.ensures.value) c.in_ok-order.ensures (power-denominator c.in_ok-a.a.n c.in_ok-order.order.n 2 c.in_ok-a.a.terms.items c.in_ok-a.a.den c.in_ok-a.ensures.order c.in_ok-order.order.positive c.in_ok-a.ensures.value) (power-denominator c.in_ok-a.a.n c.in_ok-order.order.n 5 c.in_ok-b.b.terms.items c.in_ok-b.b.den c.in_ok-a.ensures.order c.in_ok-order.order.positive c.in_ok-b.ensures.value)

pub sub-requires-clause-denominators : goal.sub-requires-clause-denominators
sub-requires-clause-denominators g c = both-one _ _ (power-denominator c.in_ok-a.a.n c.in_ok-order.order.n 2 c.in_ok-a.a.terms.items c.in_ok-a.a.den c.in_ok-a.ensures.order c.in_ok-order.order.positive c.in_ok-a.ensures.value) (power-denominator c.in_ok-a.a.n c.in_ok-order.order.n 5 c.in_ok-b.b.terms.items c.in_ok-b.b.den c.in_ok-a.ensures.order c.in_ok-order.order.positive c.in_ok-b.ensures.value)

pub sub-requires-clause-sizes : goal.sub-requires-clause-sizes
sub-requires-clause-sizes g c = small-sum _ _ _ _ c.in_ok-order.order.n (power-size c.in_ok-a.a.n c.in_ok-order.order.n 2 c.in_ok-a.a.terms.items c.in_ok-a.a.den c.in_ok-a.ensures.order c.in_ok-order.order.positive c.in_ok-a.ensures.value) (power-size c.in_ok-a.a.n c.in_ok-order.order.n 5 c.in_ok-b.b.terms.items c.in_ok-b.b.den c.in_ok-a.ensures.order c.in_ok-order.order.positive c.in_ok-b.ensures.value) c.in_ok-order.ensures (power-denominator c.in_ok-a.a.n c.in_ok-order.order.n 2 c.in_ok-a.a.terms.items c.in_ok-a.a.den c.in_ok-a.ensures.order c.in_ok-order.order.positive c.in_ok-a.ensures.value) (power-denominator c.in_ok-a.a.n c.in_ok-order.order.n 5 c.in_ok-b.b.terms.items c.in_ok-b.b.den c.in_ok-a.ensures.order c.in_ok-order.order.positive c.in_ok-b.ensures.value)

pub sub-requires-2-clause-denominators : goal.sub-requires-2-clause-denominators
sub-requires-2-clause-denominators g c = both-one _ _ (power-denominator c.in_ok-a.a.n c.in_ok-order.order.n 2 c.in_ok-a.a.terms.items c.in_ok-a.a.den c.in_ok-a.ensures.order c.in_ok-order.order.positive c.in_ok-a.ensures.value) (power-denominator c.in_ok-a.a.n c.in_ok-order.order.n 2 c.in_ok-a.a.terms.items c.in_ok-a.a.den c.in_ok-a.ensures.order c.in_ok-order.order.positive c.in_ok-a.ensures.value)

pub sub-requires-2-clause-sizes : goal.sub-requires-2-clause-sizes
sub-requires-2-clause-sizes g c = small-sum _ _ _ _ c.in_ok-order.order.n (power-size c.in_ok-a.a.n c.in_ok-order.order.n 2 c.in_ok-a.a.terms.items c.in_ok-a.a.den c.in_ok-a.ensures.order c.in_ok-order.order.positive c.in_ok-a.ensures.value) (power-size c.in_ok-a.a.n c.in_ok-order.order.n 2 c.in_ok-a.a.terms.items c.in_ok-a.a.den c.in_ok-a.ensures.order c.in_ok-order.order.positive c.in_ok-a.ensures.value) c.in_ok-order.ensures (power-denominator c.in_ok-a.a.n c.in_ok-order.order.n 2 c.in_ok-a.a.terms.items c.in_ok-a.a.den c.in_ok-a.ensures.order c.in_ok-order.order.positive c.in_ok-a.ensures.value) (power-denominator c.in_ok-a.a.n c.in_ok-order.order.n 2 c.in_ok-a.a.terms.items c.in_ok-a.a.den c.in_ok-a.ensures.order c.in_ok-order.order.positive c.in_ok-a.ensures.value)

pub mul-requires-clause-denominators : goal.mul-requires-clause-denominators
mul-requires-clause-denominators g c = both-one _ _ (power-denominator c.in_ok-a.a.n c.in_ok-order.order.n 2 c.in_ok-a.a.terms.items c.in_ok-a.a.den c.in_ok-a.ensures.order c.in_ok-order.order.positive c.in_ok-a.ensures.value) (power-denominator c.in_ok-a.a.n c.in_ok-order.order.n 5 c.in_ok-b.b.terms.items c.in_ok-b.b.den c.in_ok-a.ensures.order c.in_ok-order.order.positive c.in_ok-b.ensures.value)

pub mul-requires-clause-sizes : goal.mul-requires-clause-sizes
mul-requires-clause-sizes g c = small-product _ _ c.in_ok-order.order.n (power-size c.in_ok-a.a.n c.in_ok-order.order.n 2 c.in_ok-a.a.terms.items c.in_ok-a.a.den c.in_ok-a.ensures.order c.in_ok-order.order.positive c.in_ok-a.ensures.value) (power-size c.in_ok-a.a.n c.in_ok-order.order.n 5 c.in_ok-b.b.terms.items c.in_ok-b.b.den c.in_ok-a.ensures.order c.in_ok-order.order.positive c.in_ok-b.ensures.value) c.in_ok-order.ensures

pub scale-requires-clause-denominators : goal.scale-requires-clause-denominators
scale-requires-clause-denominators g c = omega (arith, (power-denominator c.in_ok-a.a.n c.in_ok-order.order.n 2 c.in_ok-a.a.terms.items c.in_ok-a.a.den c.in_ok-a.ensures.order c.in_ok-order.order.positive c.in_ok-a.ensures.value))

pub scale-requires-clause-sizes : goal.scale-requires-clause-sizes
scale-requires-clause-sizes g c = omega (arith, (power-size c.in_ok-a.a.n c.in_ok-order.order.n 2 c.in_ok-a.a.terms.items c.in_ok-a.a.den c.in_ok-a.ensures.order c.in_ok-order.order.positive c.in_ok-a.ensures.value), c.in_ok-order.ensures)

pub lift-requires-clause-divides : goal.lift-requires-clause-divides
lift-requires-clause-divides g c = subst (λ x. c.in_ok-a.a.n ∣ x) (sym c.in_ok-multiple.ensures) (subst (λ x. x ∣ 60) (sym (c.in_ok-a.ensures.order ∙ c.in_ok-order.ensures)) (Nat.dvd-mul_right 12 5))

pub lift-requires-clause-size : goal.lift-requires-clause-size
lift-requires-clause-size g c = omega (arith, (power-size c.in_ok-a.a.n c.in_ok-order.order.n 2 c.in_ok-a.a.terms.items c.in_ok-a.a.den c.in_ok-a.ensures.order c.in_ok-order.order.positive c.in_ok-a.ensures.value), c.in_ok-order.ensures)
