-- Terms over their greatest common divisor with a denominator.
--   IsDivisorOf            the greatest common divisor of a denominator and the first coefficients
--   divisor-start, divisor-step, divisor-one    one coefficient after another
--   divided                the terms over a divisor
--   divided-terms, divided-lowest, divided-value    what is kept
use Rattle.std.proofs.Common.{◌≡◌, refl, sym, ◌∙◌, ap, ap₂, subst, ℕ, ℤ, zero, suc, pos, ◌+◌, ◌*◌, ◌/◌, ◌%◌, ◌<◌, ◌≤◌, ◌*ℤ◌, inl, inr, List, [], ◌∷◌, map, length, unsigned_abs, int_div, arith}
use Rattle.std.proofs.lemmas.Bool.{cases_lt}
use Rattle.std.proofs.lemmas.Int.{unsigned_abs-mul}
use Rattle.std.proofs.lemmas.Nat.Gcd.{IsGcd-from_mod}
use Rattle.std.specs.Int.{◌∣◌, IsGcd}
use native.Mathlib.Nat as Nat
use Rattle.irr_algebra.specs.Ring.{Ring, whole}
use Rattle.irr_algebra.proofs.Rings.{mul-zero, ring_laws}
use Rattle.irr_algebra.proofs.Whole.{whole-mul}
use Rattle.irr_number.specs.Integers.{integers}
use Rattle.irr_number.specs.Number.{numbers, root_power}
use Rattle.irr_number.proofs.Primes.{divisor_pos}
use Rattle.irr_rational.specs.Integer.{integer}
use Rattle.irr_rational.proofs.Integers.{integer-mul, integer-pos}
use Rattle.irr_cyc.specs.Terms.{terms_sum}
use Rattle.irr_cyc.proofs.Divisors.{mul-int_div, one_of_dvd}
use Rattle.irr_sparse.specs.TermList.{AreTerms, IsLowest, coefficient_at}
use Rattle.irr_sparse.specs.Value.{value_of}
use Rattle.irr_sparse.proofs.Lists.{terms-cons, terms-head, terms-none, terms-tail}
use Rattle.irr_sparse.proofs.Values.{exponents-below, value-same}

-- d divides the denominator and the first n coefficients, and each that does divides d
pub record IsDivisorOf (ts : List (ℕ × ℤ)) (den n d : ℕ) : Type 0 where
  pub positive : 0 < d
  pub denominator : d ∣ den
  pub each : (i : ℕ) → i < n → d ∣ unsigned_abs (coefficient_at ts i)
  pub greatest : (c : ℕ) → c ∣ den → ((i : ℕ) → i < n → c ∣ unsigned_abs (coefficient_at ts i)) → c ∣ d

pub divisor-start : (ts : List (ℕ × ℤ)) (den : ℕ) → 0 < den → IsDivisorOf ts den 0 den
divisor-start ts den p = record { positive = p; denominator = Nat.dvd_refl den; each = λ i l. absurd (omega arith); greatest = λ c v h. v }

-- one more coefficient
pub divisor-step : (ts : List (ℕ × ℤ)) (den n d g : ℕ) → IsDivisorOf ts den n d → IsGcd d (unsigned_abs (coefficient_at ts n) % d) g → IsDivisorOf ts den (n + 1) g
divisor-step ts den n d g inv h = let k : IsGcd (unsigned_abs (coefficient_at ts n)) d g = IsGcd-from_mod (unsigned_abs (coefficient_at ts n)) d g h in record {
  positive = divisor_pos g d inv.positive k.1;
  denominator = Nat.dvd_trans g k.1 inv.denominator;
  each = λ i l. elim (cases_lt i n) [
    | inl less ↦ Nat.dvd_trans g k.1 (inv.each i less)
    | inr ge ↦ (let e : n ≡ i = omega arith in subst (λ x. g ∣ unsigned_abs (coefficient_at ts x)) e k.0)
  ];
  greatest = λ c v all. k.2 c (all n (omega arith)) (inv.greatest c v (λ i l. all i (omega arith)));
}

-- a divisor 1 is the greatest at once
pub divisor-one : (ts : List (ℕ × ℤ)) (den n m d : ℕ) → n ≤ m → d ≡ 1 → IsDivisorOf ts den n d → IsDivisorOf ts den m 1
divisor-one ts den n m d l e inv = record {
  positive = omega arith;
  denominator = Nat.one-dvd den;
  each = λ i lt. Nat.one-dvd (unsigned_abs (coefficient_at ts i));
  greatest = λ c v all. subst (λ x. c ∣ x) e (inv.greatest c v (λ i lt. all i (omega arith)));
}

-- the terms over a divisor
abbrev pub divided : (g : ℕ) → List (ℕ × ℤ) → List (ℕ × ℤ)
divided g ts = map (λ t. (t.0, int_div t.1 (pos g))) ts

pub length-divided : (g : ℕ) (ts : List (ℕ × ℤ)) → length (divided g ts) ≡ length ts
length-divided g [] = refl
length-divided g (t ∷ ts) = ap suc (length-divided g ts)

pub quotient-at : (g : ℕ) (ts : List (ℕ × ℤ)) (i : ℕ) → i < length ts → ((i : ℕ) → i < length ts → g ∣ unsigned_abs (coefficient_at ts i)) → pos g *ℤ coefficient_at (divided g ts) i ≡ coefficient_at ts i
quotient-at g [] i lt v = absurd (omega arith)
quotient-at g (t ∷ ts) zero lt v = mul-int_div g t.1 (v 0 (omega arith))
quotient-at g (t ∷ ts) (suc i) lt v = quotient-at g ts i (omega arith) (λ k l. v (suc k) (omega arith))

pub divided-terms : (n b g : ℕ) (ts : List (ℕ × ℤ)) → ((i : ℕ) → i < length ts → g ∣ unsigned_abs (coefficient_at ts i)) → AreTerms n b ts → AreTerms n b (divided g ts)
divided-terms n b g [] v h = terms-none n b
divided-terms n b g (t ∷ ts) v h = terms-cons n b (t.0, int_div t.1 (pos g)) (divided g ts)
    (record {
      from = (terms-head n b t ts h).from;
      below = (terms-head n b t ts h).below;
      basis = (terms-head n b t ts h).basis;
      nonzero = λ z. (terms-head n b t ts h).nonzero (sym (mul-int_div g t.1 (v 0 (omega arith))) ∙ ap (λ x. pos g *ℤ x) z ∙ mul-zero integers (pos g));
    })
    (divided-terms n (suc t.0) g ts (λ i l. v (suc i) (omega arith)) (terms-tail n b t ts h))

-- the sum over the divisor
divided-sum : (n g : ℕ) (ts : List (ℕ × ℤ)) → ((i : ℕ) → i < length ts → g ∣ unsigned_abs (coefficient_at ts i)) → (numbers n).mul (whole (numbers n) g) (terms_sum n (divided g ts)) ≡ terms_sum n ts
unfolding terms_sum
divided-sum n g [] v = mul-zero (numbers n) (whole (numbers n) g)
divided-sum n g (t ∷ ts) v = spread (numbers n) (whole (numbers n) g) (integer (numbers n) (int_div t.1 (pos g))) (root_power n t.0) (terms_sum n (divided g ts))
    ∙ ap₂ (numbers n).add (ap (λ x. (numbers n).mul x (root_power n t.0)) (ap (λ x. (numbers n).mul x (integer (numbers n) (int_div t.1 (pos g)))) (sym (integer-pos (numbers n) g))
    ∙ sym (integer-mul (numbers n) (pos g) (int_div t.1 (pos g))) ∙ ap (integer (numbers n)) (mul-int_div g t.1 (v 0 (omega arith))))) (divided-sum n g ts (λ i l. v (suc i) (omega arith)))
  where
    spread : (R : Ring) (g c z s : R.Carrier) → R.mul g (R.add (R.mul c z) s) ≡ R.add (R.mul (R.mul g c) z) (R.mul g s)
    spread R g c z s = simp (ring_laws, R)

module _ (ts : List (ℕ × ℤ)) (den g : ℕ) (p : 0 < den) (inv : IsDivisorOf ts den (length ts) g) where
  den-is : g * (den / g) ≡ den
  den-is = Nat.mul-div_cancel' g inv.denominator

  pub divided-positive : 0 < den / g
  divided-positive = elim (cases_lt 0 (den / g)) [ inl l ↦ l | inr z ↦ (let e : den / g ≡ 0 = omega arith in absurd (omega (arith, p, den-is, ap (λ x. g * x) e))) ]

  pub divided-lowest : IsLowest (divided g ts) (den / g)
  divided-lowest c v all = one (inv.greatest (g * c) (subst (λ x. g * c ∣ x) den-is (Nat.mul-dvd-mul_left c g v)) (λ i lt.
      subst (λ x. g * c ∣ x) (sym (unsigned_abs-mul (pos g) (coefficient_at (divided g ts) i)) ∙ ap unsigned_abs (quotient-at g ts i lt inv.each)) (Nat.mul-dvd-mul_left c g (all i (omega (arith, length-divided g ts))))))
    where
      one : g * c ∣ g → c ≡ 1
      one d = one_of_dvd c (Nat.dvd_of_mul-dvd-mul_left c inv.positive (subst (λ x. g * c ∣ x) (sym (Nat.mul-one g)) d))

  pub divided-value : (n : ℕ) → 0 < n → AreTerms n 0 ts → value_of n (divided g ts) (den / g) ≡ value_of n ts den
  divided-value n hN h = value-same n hN (divided g ts) ts (den / g) den divided-positive p (exponents-below n 0 (divided g ts) (divided-terms n 0 g ts inv.each h)) (exponents-below n 0 ts h)
      (ap (λ d. (numbers n).mul (whole (numbers n) d) (terms_sum n (divided g ts))) (sym den-is ∙ Nat.mul_comm g (den / g))
      ∙ ap (λ x. (numbers n).mul x (terms_sum n (divided g ts))) (whole-mul (numbers n) (den / g) g)
      ∙ (numbers n).mul_assoc (whole (numbers n) (den / g)) (whole (numbers n) g) (terms_sum n (divided g ts))
      ∙ ap ((numbers n).mul (whole (numbers n) (den / g))) (divided-sum n g ts inv.each))
