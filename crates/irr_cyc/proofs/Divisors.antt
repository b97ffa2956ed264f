-- Common divisors of a denominator and coefficients.
--   one_of_dvd                only 1 divides 1
--   mul-int_div               an exact quotient times its divisor
--   divisor-step              the greatest common divisor of one more coefficient
--   lowest-same, lowest-terms, lowest-zeros, lowest-positive    coefficients and denominator over their greatest common divisor
use Rattle.std.proofs.Common.{◌≡◌, sym, ◌∙◌, ap, subst, ℕ, ℤ, pos, negsuc, suc, ◌+◌, ◌*◌, ◌/◌, ◌%◌, ◌<◌, ◌≤◌, ◌*ℤ◌, neg_ℤ, inl, inr, List, length, unsigned_abs, int_div, arith}
use Rattle.std.proofs.lemmas.Bool.{cases_lt}
use Rattle.std.proofs.lemmas.Int.{unsigned_abs-mul}
use Rattle.std.proofs.lemmas.Nat.Gcd.{IsGcd-from_mod}
use Rattle.std.specs.Int.{◌∣◌, IsGcd}
use native.Mathlib.Nat as Nat
use Rattle.irr_algebra.proofs.Rings.{mul-neg}
use Rattle.irr_number.specs.Integers.{integers}
use Rattle.irr_number.proofs.Primes.{divisor_pos}
use Rattle.irr_number.proofs.WholeNumbers.{whole_cancel}
use Rattle.irr_cyc.specs.Form.{IsLowest, at}

pub one_of_dvd : (c : ℕ) → c ∣ 1 → c ≡ 1
one_of_dvd c d = let l : c ≤ 1 = Nat.le_of_dvd (omega arith) d in let p : 0 < c = divisor_pos c 1 (omega arith) d in omega arith

pub mul-int_div : (d : ℕ) (z : ℤ) → d ∣ unsigned_abs z → pos d *ℤ int_div z (pos d) ≡ z
mul-int_div d (pos n) v = ap pos (Nat.mul-div_cancel' d v)
mul-int_div d (negsuc n) v = mul-neg integers (pos d) (pos (suc n / d)) ∙ ap (λ x. neg_ℤ (pos x)) (Nat.mul-div_cancel' d v)

-- d divides the denominator and the first n coefficients, and each that does divides d
pub record IsDivisorOf (xs : List ℤ) (den n d : ℕ) : Type 0 where
  pub positive : 0 < d
  pub denominator : d ∣ den
  pub each : (j : ℕ) → j < n → d ∣ unsigned_abs (at xs j)
  pub greatest : (c : ℕ) → c ∣ den → ((j : ℕ) → j < n → c ∣ unsigned_abs (at xs j)) → c ∣ d

pub divisor-start : (xs : List ℤ) (den : ℕ) → 0 < den → IsDivisorOf xs den 0 den
divisor-start xs den p = record { positive = p; denominator = Nat.dvd_refl den; each = λ j l. absurd (omega arith); greatest = λ c v h. v }

-- one more coefficient
pub divisor-step : (xs : List ℤ) (den n d g : ℕ) → IsDivisorOf xs den n d → IsGcd d (unsigned_abs (at xs n) % d) g → IsDivisorOf xs den (n + 1) g
divisor-step xs den n d g inv h = let k : IsGcd (unsigned_abs (at xs n)) d g = IsGcd-from_mod (unsigned_abs (at xs n)) d g h in record {
  positive = divisor_pos g d inv.positive k.1;
  denominator = Nat.dvd_trans g k.1 inv.denominator;
  each = λ j l. elim (cases_lt j n) [
    | inl less ↦ Nat.dvd_trans g k.1 (inv.each j less)
    | inr ge ↦ (let e : n ≡ j = omega arith in subst (λ x. g ∣ unsigned_abs (at xs x)) e k.0)
  ];
  greatest = λ c v all. k.2 c (all n (omega arith)) (inv.greatest c v (λ j l. all j (omega arith)));
}

-- a divisor 1 is the greatest at once
pub divisor-one : (xs : List ℤ) (den n m : ℕ) → n ≤ m → IsDivisorOf xs den n 1 → IsDivisorOf xs den m 1
divisor-one xs den n m l inv = record {
  positive = inv.positive;
  denominator = inv.denominator;
  each = λ j lt. Nat.one-dvd (unsigned_abs (at xs j));
  greatest = λ c v all. inv.greatest c v (λ j lt. all j (omega arith));
}

module _ (old new : List ℤ) (den g : ℕ) (p : 0 < den) (inv : IsDivisorOf old den (length old) g) (len : length new ≡ length old)
    (is : (j : ℕ) → j < length old → pos g *ℤ at new j ≡ at old j) where
  den-is : g * (den / g) ≡ den
  den-is = Nat.mul-div_cancel' g inv.denominator

  pub lowest-positive : 0 < den / g
  lowest-positive = elim (cases_lt 0 (den / g)) [ inl l ↦ l | inr z ↦ (let e : den / g ≡ 0 = omega arith in absurd (omega (arith, p, den-is, ap (λ x. g * x) e))) ]

  pub lowest-same : (j : ℕ) → j < length old → pos den *ℤ at new j ≡ pos (den / g) *ℤ at old j
  lowest-same j lt = ap (λ d. pos d *ℤ at new j) (sym den-is ∙ Nat.mul_comm g (den / g)) ∙ integers.mul_assoc (pos (den / g)) (pos g) (at new j) ∙ ap (λ x. pos (den / g) *ℤ x) (is j lt)

  pub lowest-zeros : (j : ℕ) → j < length old → at old j ≡ pos 0 → at new j ≡ pos 0
  lowest-zeros j lt z = whole_cancel g (at new j) inv.positive (is j lt ∙ z)

  pub lowest-terms : IsLowest new (den / g)
  lowest-terms c v all = one (inv.greatest (g * c) (subst (λ x. g * c ∣ x) den-is (Nat.mul-dvd-mul_left c g v)) (λ j lt.
      subst (λ x. g * c ∣ x) (sym (unsigned_abs-mul (pos g) (at new j)) ∙ ap unsigned_abs (is j lt)) (Nat.mul-dvd-mul_left c g (all j (omega (arith, len))))))
    where
      one : g * c ∣ g → c ≡ 1
      one d = one_of_dvd c (Nat.dvd_of_mul-dvd-mul_left c inv.positive (subst (λ x. g * c ∣ x) (sym (Nat.mul-one g)) d))
