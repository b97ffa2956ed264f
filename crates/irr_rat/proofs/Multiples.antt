-- Least common multiples.
--   lcm_of_gcd          the least common multiple by the greatest common divisor
--   lcm_zero            that of 0
--   lcm_unique          there is one at most
--   lcm_exists          and there is one, by Euclid's algorithm
--   lcm_positive        that of numbers above 0 is above 0
use Rattle.std.proofs.Common.{◌≡◌, sym, ◌∙◌, ap, subst, refl, ℕ, zero, suc, ◌<◌, ◌≤◌, ◌*◌, ◌/◌, ◌%◌, ◌^◌, mod-lt, ◌↔◌, pos, arith, Option, None, Some, SomeIff, IfSome, IsNone, true, false}
use Rattle.std.specs.Int.{◌∣◌, IsGcd}
use Rattle.std.proofs.lemmas.Nat.Gcd.{IsGcd-from_mod, IsGcd-from_zero, IsGcd-swap}
use native.Mathlib.Nat as Nat
use Rattle.irr_algebra.specs.Fin.Fin.{first}
use Rattle.irr_number.proofs.Primes.{cofactor, divisor_pos, strong_induction}
use Rattle.irr_rational.specs.Ratio.{IsLowest}
use Rattle.irr_rational.proofs.LowestTerms.{lowest_quotients}
use Rattle.irr_rational.proofs.WholeNumbers.{dvd_of_lowest}
use Rattle.irr_rat.specs.Lcm.{IsLcm}

pub lcm_unique : (a b m n : ℕ) → IsLcm a b m → IsLcm a b n → m ≡ n
lcm_unique a b m n h k = Nat.dvd_antisymm (h.2 n k.0 k.1) (k.2 m h.0 h.1)

pub lcm_zero : (b : ℕ) → IsLcm 0 b 0
lcm_zero b = (Nat.dvd_refl 0, Nat.dvd-zero b, λ d v w. v)

-- where c and e have no common divisor and c divides y times e, it divides y
coprime_dvd : (c e y : ℕ) → IsLowest (pos e) c → c ∣ y * e → c ∣ y
coprime_dvd c e y h v = dvd_of_lowest {m = 1} (λ i. pos e) c y (record { positive = h.positive; lowest = λ d v each. h.lowest d v (each first) }) (λ i. v)

-- a over g times b
pub lcm_of_gcd : (a b g : ℕ) → 0 < a → IsGcd a b g → IsLcm a b ((a / g) * b)
lcm_of_gcd a b g h k = (
  subst (λ n. a ∣ n) both (Nat.dvd-mul_right_of_dvd a (Nat.dvd_refl a) (b / g)),
  Nat.dvd-mul_left b (a / g),
  λ d v w. at_cofactor d v (cofactor b d w),
)
  where
    g-pos : 0 < g
    g-pos = divisor_pos g a h k.0

    first-part : g * (a / g) ≡ a
    first-part = Nat.mul-div_cancel' g k.0

    second-part : g * (b / g) ≡ b
    second-part = Nat.mul-div_cancel' g k.1

    sorted : (c e f : ℕ) → (e * c) * f ≡ c * (e * f)
    sorted c e f = omega arith

    both : a * (b / g) ≡ (a / g) * b
    both = ap (λ n. n * (b / g)) (sym first-part) ∙ sorted (a / g) g (b / g) ∙ ap (λ n. (a / g) * n) second-part

    at_cofactor : (d : ℕ) → a ∣ d → (y : ℕ) × (d ≡ b * y) → (a / g) * b ∣ d
    at_cofactor d v t = subst (λ n. (a / g) * b ∣ n) (Nat.mul_comm b t.0 ∙ Nat.mul_comm t.0 b ∙ sym t.1)
        (subst (λ n. n ∣ b * t.0) (Nat.mul_comm b (a / g)) (Nat.mul-dvd-mul_left (a / g) b divides))
      where
        divides : a / g ∣ t.0
        divides = coprime_dvd (a / g) (b / g) t.0 (lowest_quotients (pos b) a g h (IsGcd-swap a b g k)).0
            (subst (λ n. a / g ∣ n) (Nat.mul_comm (b / g) t.0) (Nat.dvd_of_mul-dvd-mul_left (a / g) g-pos
            (subst (λ n. g * (a / g) ∣ n) (t.1 ∙ ap (λ n. n * t.0) (sym second-part) ∙ Nat.mul_assoc g (b / g) t.0) (subst (λ n. n ∣ d) (sym first-part) v))))

gcd_exists : (b a : ℕ) → (g : ℕ) × IsGcd a b g
gcd_exists = strong_induction (λ b. (a : ℕ) → (g : ℕ) × IsGcd a b g) step
  where
    step : (b : ℕ) → ((m : ℕ) → m < b → (a : ℕ) → (g : ℕ) × IsGcd a m g) → (a : ℕ) → (g : ℕ) × IsGcd a b g
    step zero ih a = (a, IsGcd-from_zero a 0 refl)
    step (suc b) ih a = let t : (g : ℕ) × IsGcd (suc b) (a % suc b) g = ih (a % suc b) (mod-lt a (omega arith)) (suc b) in
        (t.0, IsGcd-from_mod a (suc b) t.0 t.1)

pub lcm_exists : (a b : ℕ) → 0 < a → (m : ℕ) × IsLcm a b m
lcm_exists a b h = let t : (g : ℕ) × IsGcd a b g = gcd_exists b a in ((a / t.0) * b, lcm_of_gcd a b t.0 h t.1)

pub lcm_positive : (a b m : ℕ) → 0 < a → 0 < b → IsLcm a b m → 0 < m
lcm_positive a b m p q l = divisor_pos m (a * b) (Nat.mul-pos p q) (l.2 (a * b) (Nat.dvd-mul_right a b) (Nat.dvd-mul_left b a))

-- an answer that is m where m fits
pub checked_lcm : (a b m : ℕ) (r : Option ℕ) → IsLcm a b m → SomeIff r (m < 2 ^ 64) m
    → IfSome r (IsLcm a b) × (IsNone r ↔ ((n : ℕ) → IsLcm a b n → 2 ^ 64 ≤ n))
checked_lcm a b m None h k = (tt, ((λ e n l. subst (λ v. 2 ^ 64 ≤ v) (lcm_unique a b m n h l) (omega (arith, k))), λ f. refl))
checked_lcm a b m (Some y) h k = (
  subst (IsLcm a b) (sym k.1) h,
  ((λ e n l. absurd (let g : true ≡ false = e in cc)), λ f. absurd (let low : 2 ^ 64 ≤ m = f m h in let high : m < 2 ^ 64 = k.0 in omega arith)),
)
