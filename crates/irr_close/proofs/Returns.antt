-- Powers of rotations that have an inverse.
--   power_apart         two powers that are the same, and the power by which they differ
--   power_rest          a power by its remainder
--   returns_exactly     a power is the unit where the order divides it
use Rattle.std.proofs.Common.{◌≡◌, sym, ◌∙◌, ap, ℕ, zero, suc, ◌+◌, ◌-◌, ◌*◌, ◌/◌, ◌%◌, ◌≤◌, ◌↔◌, inl, inr, arith}
use native.Mathlib.Nat as Nat
use Rattle.std.proofs.lemmas.Bool.{cases_lt}
use Rattle.irr_algebra.specs.Matrix.{◌·◌, unit}
use Rattle.irr_algebra.proofs.Matrices.{mul_assoc, unit-mul, mul-unit}
use Rattle.irr_number.specs.Integers.{integers}
use Rattle.irr_theory.specs.Extension.{matrix_power}
use Rattle.irr_theory.proofs.Extensions.{matrix_power-add}
use Rattle.irr_space.specs.Operation.{Rotation}
use Rattle.irr_seitz.specs.FiniteOrder.{IsFiniteOrder}

cancel_power : (R S : Rotation) → S · R ≡ unit integers 3 → (n : ℕ) (A B : Rotation) → matrix_power R n · A ≡ matrix_power R n · B → A ≡ B
unfolding matrix_power
cancel_power R S e zero A B h = sym (unit-mul A) ∙ h ∙ unit-mul B
cancel_power R S e (suc n) A B h =
    cancel_power R S e n A B (back (matrix_power R n · A) (matrix_power R n · B) (sym (mul_assoc R (matrix_power R n) A) ∙ h
    ∙ mul_assoc R (matrix_power R n) B))
  where
    back : (X Y : Rotation) → R · X ≡ R · Y → X ≡ Y
    back X Y p = sym (unit-mul X) ∙ ap (λ (M : Rotation). M · X) (sym e) ∙ mul_assoc S R X ∙ ap (λ (M : Rotation). S · M) p ∙ sym (mul_assoc S R Y)
        ∙ ap (λ (M : Rotation). M · Y) e ∙ unit-mul Y

pub power_apart : (R S : Rotation) → S · R ≡ unit integers 3 → (a b : ℕ) → a ≤ b → matrix_power R a ≡ matrix_power R b
    → matrix_power R (b - a) ≡ unit integers 3
power_apart R S e a b l h = cancel_power R S e a (matrix_power R (b - a)) (unit integers 3)
    (sym (matrix_power-add R a (b - a)) ∙ (let k : a + (b - a) ≡ b = omega arith in ap (matrix_power R) k) ∙ sym h
    ∙ sym (mul-unit (matrix_power R a)))

power_multiple : (R : Rotation) (n q : ℕ) → matrix_power R n ≡ unit integers 3 → matrix_power R (n * q) ≡ unit integers 3
unfolding matrix_power
power_multiple R n zero e = let k : n * 0 ≡ 0 = omega arith in ap (matrix_power R) k
power_multiple R n (suc q) e = (let m = Nat.mul-suc n q in let k : n * suc q ≡ n + n * q = omega (arith, m) in ap (matrix_power R) k)
    ∙ matrix_power-add R n (n * q) ∙ ap (λ (M : Rotation). M · matrix_power R (n * q)) e ∙ unit-mul (matrix_power R (n * q)) ∙ power_multiple R n q e

pub power_rest : (R : Rotation) (n e : ℕ) → matrix_power R n ≡ unit integers 3 → matrix_power R e ≡ matrix_power R (e % n)
power_rest R n e h = ap (matrix_power R) (sym (Nat.div-add-mod e n)) ∙ matrix_power-add R (n * (e / n)) (e % n)
    ∙ ap (λ (M : Rotation). M · matrix_power R (e % n)) (power_multiple R n (e / n) h) ∙ unit-mul (matrix_power R (e % n))

pub returns_exactly : (R : Rotation) (n e : ℕ) → IsFiniteOrder R n → (e % n ≡ 0) ↔ (matrix_power R e ≡ unit integers 3)
unfolding matrix_power
returns_exactly R n e o = (
  λ z. power_rest R n e o.power ∙ ap (matrix_power R) z,
  λ h. elim (cases_lt 0 (e % n)) [
    | inl some ↦ absurd (o.least (e % n) some (Nat.mod-lt e o.positive) (sym (power_rest R n e o.power) ∙ h))
    | inr none ↦ omega arith
  ],
)
