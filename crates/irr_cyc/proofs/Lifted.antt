-- Lifts of canonical forms.
--   lift-value            the coefficients at their new places stand for the lift
--   factor-pos, factor-equal    the factor between an order and its multiple
use Rattle.std.proofs.Common.{◌≡◌, sym, ◌∙◌, ap, subst, ℕ, ℤ, ◌*◌, ◌/◌, ◌%◌, ◌<◌, ◌≤◌, ◌^◌, inl, inr, List, length, unsigned_abs, arith}
use Rattle.std.proofs.lemmas.Bool.{cases_lt}
use Rattle.std.specs.Int.{◌∣◌}
use native.Mathlib.Nat as Nat
use Rattle.irr_number.specs.Element.{delta, weighted_sum}
use Rattle.irr_number.specs.Integers.{integers}
use Rattle.irr_number.specs.Lift.{lift, lift_of}
use Rattle.irr_number.proofs.Lifts.{lift_of-lift}
use Rattle.irr_canonical.specs.Coefficient.{number_of, size, total_below}
use Rattle.irr_canonical.proofs.Operations.{over-lift}
use Rattle.irr_cyc.specs.Form.{IsForm, at}
use Rattle.irr_cyc.proofs.Values.{form-size, value-over}

pub factor-pos : (n m : ℕ) → 0 < m → n ∣ m → 0 < m / n
factor-pos n m p v = elim (cases_lt 0 (m / n)) [ inl l ↦ l | inr g ↦ (let z : m / n ≡ 0 = omega arith in absurd (omega (arith, Nat.mul-div_cancel' n v, ap (λ x. n * x) z, p))) ]

pub factor-equal : (n m : ℕ) → n ∣ m → m ≡ n * (m / n)
factor-equal n m v = sym (Nat.mul-div_cancel' n v)

module _ (xs : List ℤ) (d : ℕ) (f : IsForm xs d) where
  pub lift-bound : (slice : List ℤ) → slice ≡ xs → size (length xs) (number_of (length xs) xs d) ≤ 2 ^ 100 → total_below (length slice) (λ j. unsigned_abs (at slice j)) ≤ 2 ^ 100
  lift-bound slice e h = subst (λ (ys : List ℤ). total_below (length ys) (λ j. unsigned_abs (at ys j)) ≤ 2 ^ 100) (sym e) (subst (λ m. m ≤ 2 ^ 100) (form-size xs d f) h)

  pub lift-value : (m : ℕ) → length xs ∣ m → (zs : List ℤ) → ((k : ℕ) → k < m → at zs k ≡ weighted_sum (length xs) (at xs) (λ i. delta integers ((m / length xs * i) % m) k))
      → number_of m zs d ≡ lift_of (length xs) m (number_of (length xs) xs d)
  lift-value m v zs h = value-over m zs d f.positive ∙ over-lift (length xs) m f.some v (at xs) (at zs) d f.positive h
      ∙ ap (lift (length xs) m f.some v).map (sym (value-over (length xs) xs d f.positive)) ∙ sym (lift_of-lift (length xs) m f.some v (number_of (length xs) xs d))
