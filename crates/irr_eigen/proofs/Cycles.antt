-- The cycle of a place, from exponents.
use Rattle.std.proofs.Common.{◌≡◌, sym, ◌∙◌, ap, ap₂, subst, refl, ℕ, zero, suc, ◌+◌, ◌*◌, ◌<◌}
use Rattle.irr_algebra.specs.Ring.{Ring}
use Rattle.irr_algebra.specs.Fin.{Fin, to_nat}
use Rattle.irr_algebra.proofs.Rings.{one-mul}
use Rattle.irr_theory.specs.FactorSystem.{FactorSystem}
use Rattle.irr_theory.specs.Lifted.{lifted_product}
use Rattle.irr_eigen.specs.Power.{power, IsPrimitiveRoot}
use Rattle.irr_eigen.specs.Step.{at_place, lifted_power, Cycle, cycle_numbers, exponent_sum, HasExponents}
use Rattle.irr_eigen.proofs.Powers.{power-add, power-mul}
use Rattle.irr_eigen.proofs.Primitive.{primitive-power}

-- the number of a power of g is z to the sum of the exponents
power-number : {R : Ring} (T : FactorSystem R) (order : ℕ) (z : R.Carrier) (x : Fin T.places → Fin T.places → ℕ) (g : Fin T.places) → HasExponents T order z x
    → (n : ℕ) → (lifted_power (at_place T g) n).number ≡ power R z (exponent_sum T x g n)
unfolding lifted_power lifted_product exponent_sum power
power-number T order z x g h zero = refl
power-number {R} T order z x g h (suc n) =
    ap₂ R.mul (one-mul R (lifted_power (at_place T g) n).number ∙ power-number T order z x g h n) (h.phase-power g (lifted_power (at_place T g) n).place)
    ∙ sym (power-add R z (exponent_sum T x g n) (x g (lifted_power (at_place T g) n).place))

pub cycle_of_exponents : {R : Ring} (T : FactorSystem R) (order : ℕ) (z : R.Carrier) (x : Fin T.places → Fin T.places → ℕ) (g : Fin T.places) (n q y : ℕ)
    → HasExponents T order z x → 0 < n → 0 < q → order ≡ n * q → (lifted_power (at_place T g) n).place ≡ T.start → exponent_sum T x g n ≡ n * y
    → (cycle : Cycle T g) × (cycle.order ≡ n) × (cycle.number ≡ power R z y) × (cycle.root ≡ power R z q)
cycle_of_exponents {R} T order z x g n q y h n-pos q-pos split returns sum = (
  record {
    order = n;
    positive = n-pos;
    returns = returns;
    number = power R z y;
    phase-power = power-number T order z x g h n ∙ ap (power R z) sum ∙ power-mul R z n y;
    root = power R z q;
    primitive = primitive-power n q z q-pos (subst (λ k. IsPrimitiveRoot R k z) split h.primitive);
  },
  refl,
  refl,
  refl,
)

-- the roots that are added up are powers of z
pub cycle-powers : {R : Ring} {T : FactorSystem R} {g : Fin T.places} (cycle : Cycle T g) (z : R.Carrier) (q y : ℕ) → cycle.number ≡ power R z y → cycle.root ≡ power R z q
    → (m : ℕ) (i : Fin m) (j : ℕ) → R.mul (cycle_numbers cycle m i) (power R (power R cycle.root m) j) ≡ power R z (y + to_nat i * q + j * m * q)
cycle-powers {R} cycle z q y number root m i j =
    ap₂ R.mul
    (ap₂ R.mul number (ap (λ x. power R x (to_nat i)) root ∙ sym (power-mul R z (to_nat i) q)) ∙ sym (power-add R z y (to_nat i * q)))
    (sym (power-mul R cycle.root j m) ∙ ap (λ x. power R x (j * m)) root ∙ sym (power-mul R z (j * m) q))
    ∙ sym (power-add R z (y + to_nat i * q) (j * m * q))
