-- Fractions over their least common denominator.
--   least_of_lcm, lcm_beyond, multiple_beyond    least common multiples within a limit
--   least_of_three             that of three denominators
--   least_of_rows              and of three rows
--   scaled                     a fraction over a multiple of its denominator
--   small_fraction             in lowest terms the numbers of a fraction are not greater than as it is written
--   lowest_over_least          over the least common denominator the numerators are in lowest terms
use Rattle.std.proofs.Common.{◌≡◌, refl, sym, ◌∙◌, ap, ap₂, subst, ℕ, ◌<◌, ◌≤◌, ◌*◌, ◌/◌, ◌^◌, Bool, true, false, Option, None, Some, ℤ, pos, ◌*ℤ◌, unsigned_abs, arith}
use Rattle.std.specs.Int.{◌∣◌}
use Rattle.std.specs.Int.RustNames.{int_div}
use Rattle.std.proofs.lemmas.Int.{unsigned_abs-mul}
use Rattle.std.proofs.lemmas.Nat.Gcd.{le_of_dvd}
use native.Mathlib.Nat as Nat
use Rattle.irr_algebra.specs.Fin.{Fin}
use Rattle.irr_algebra.specs.Fin.Fin.{first}
use Rattle.irr_number.proofs.Primes.{cofactor, divisor_pos}
use Rattle.irr_rational.specs.Rational.{ratio}
use Rattle.irr_rational.specs.Ratio.{AreLowest, IsLowest}
use Rattle.irr_rational.proofs.Ratios.{ratio-scale}
use Rattle.irr_rational.proofs.WholeNumbers.{mul-int_div}
use Rattle.irr_rat.specs.Lcm.{IsLcm}
use Rattle.irr_rat.proofs.Multiples.{lcm_exists, lcm_positive}
use Rattle.irr_rat.proofs.LowestForms.{lowest_divides}
use Rattle.irr_rat.proofs.CommonDenominators.{denominator_divides}
use Rattle.irr_token.specs.Token.{PlacedNumber, value_of}
use Rattle.irr_token.specs.Quotient.{WrittenQuotient, is_negative, with_sign, denominator_value, quotient_value}
use Rattle.irr_token.specs.Fault.{AreNotZero, AreWithin, denominators, present}
use Rattle.irr_setting_text.specs.SettingFault.{numbers_within, present_within}
use Rattle.irr_setting_text.specs.LineReading.{IsLeast}

pub least_of_lcm : (a b m : ℕ) → 0 < a → 0 < b → IsLcm a b m → IsLeast (λ k. (a ∣ k) × (b ∣ k)) m
least_of_lcm a b m p q l = record { positive = lcm_positive a b m p q l; has = (l.0, l.1); least = λ k v. l.2 k v.0 v.1 }

pub lcm_beyond : (a b limit k : ℕ) → 0 < a → limit < 2 ^ 64 → ((m : ℕ) → IsLcm a b m → 2 ^ 64 ≤ m) → 0 < k → a ∣ k → b ∣ k → limit < k
lcm_beyond a b limit k p lt f h v w = let t = lcm_exists a b p in
    let big : 2 ^ 64 ≤ t.0 = f t.0 t.1 in
    let le : t.0 ≤ k = le_of_dvd h (t.1.2 k v w) in omega arith

pub multiple_beyond : (a b m limit k : ℕ) → IsLcm a b m → limit < m → 0 < k → a ∣ k → b ∣ k → limit < k
multiple_beyond a b m limit k l lt h v w = let le : m ≤ k = le_of_dvd h (l.2 k v w) in omega arith

pub least_of_three : (x y z both all : ℕ) → IsLeast (λ k. (x ∣ k) × (y ∣ k)) both → IsLeast (λ k. (both ∣ k) × (z ∣ k)) all
    → IsLeast (λ k. (x ∣ k) × (y ∣ k) × (z ∣ k)) all
least_of_three x y z both all f g = record {
  positive = g.positive;
  has = (Nat.dvd_trans x f.has.0 g.has.0, Nat.dvd_trans y f.has.1 g.has.0, g.has.1);
  least = λ k v. g.least k (f.least k (v.0, v.1), v.2);
}

pub least_of_rows : (F G H : ℕ → Type 0) (x y z both all : ℕ) → ((k l : ℕ) → k ∣ l → F k → F l) → ((k l : ℕ) → k ∣ l → G k → G l) → ((k l : ℕ) → k ∣ l → H k → H l)
    → IsLeast F x → IsLeast G y → IsLeast H z → IsLeast (λ k. (x ∣ k) × (y ∣ k)) both → IsLeast (λ k. (both ∣ k) × (z ∣ k)) all → IsLeast (λ k. F k × G k × H k) all
least_of_rows F G H x y z both all f g h lx ly lz lb la = record {
  positive = la.positive;
  has = (f x all (Nat.dvd_trans x lb.has.0 la.has.0) lx.has, g y all (Nat.dvd_trans y lb.has.1 la.has.0) ly.has, h z all la.has.1 lz.has);
  least = λ k v. la.least k (lb.least k (lx.least k v.0, ly.least k v.1), lz.least k v.2);
}

pub scaled : (a n : ℤ) (b d : ℕ) → 0 < b → 0 < d → b ∣ d → n ≡ pos (d / b) *ℤ a → ratio n d ≡ ratio a b
scaled a n b d hb hd v e =
    let whole : b * (d / b) ≡ d = Nat.mul-div_cancel' b v in
    let turned : (d / b) * b ≡ d = Nat.mul_comm (d / b) b ∙ whole in
    let some : 0 < d / b = divisor_pos (d / b) d hd (subst (λ m. (d / b) ∣ m) turned (Nat.dvd-mul_right (d / b) b)) in
    ap₂ ratio e (sym turned) ∙ ratio-scale a b (d / b) hb some

size_of : (s : Bool) (n : ℕ) → unsigned_abs (with_sign s n) ≡ n
size_of true n = grind arith
size_of false n = refl

denominator-within : (m : ℕ) (d : Option PlacedNumber) → 0 < m → AreNotZero (present d) → AreWithin (present_within m d)
    → (0 < denominator_value d) × (denominator_value d ≤ m)
denominator-within m None h z w = (omega arith, omega arith)
denominator-within m (Some n) h z w = (z.0, w.0)

pub small_fraction : (m : ℕ) (a : ℤ) (b : ℕ) (q : WrittenQuotient) → 0 < m → AreNotZero (denominators q) → AreWithin (numbers_within m q) → IsLowest a b
    → ratio a b ≡ quotient_value q → (unsigned_abs a ≤ m) × (b ≤ m)
small_fraction m a b q h z w low e =
    let d = denominator-within m q.denominator h z w.1 in
    at_factor d.1 (lowest_divides {n = 1} (λ i. a) (λ i. with_sign (is_negative q.sign) (value_of q.numerator)) b (denominator_value q.denominator)
    (record { positive = low.positive; lowest = λ g v each. low.lowest g v (each first) }) d.0 (λ i. e))
  where
    at_factor : denominator_value q.denominator ≤ m
        → (k : ℕ) × (0 < k) × (denominator_value q.denominator ≡ k * b) × (Fin 1 → with_sign (is_negative q.sign) (value_of q.numerator) ≡ pos k *ℤ a)
        → (unsigned_abs a ≤ m) × (b ≤ m)
    at_factor le t =
        let num : value_of q.numerator ≡ t.0 * unsigned_abs a = sym (size_of (is_negative q.sign) (value_of q.numerator)) ∙ ap unsigned_abs (t.3 first)
        ∙ unsigned_abs-mul (pos t.0) a in
        let low : value_of q.numerator ≤ m = w.0 in
        let more : 1 * unsigned_abs a ≤ t.0 * unsigned_abs a = Nat.mul-le-mul_right (unsigned_abs a) t.1 in
        let next : 1 * b ≤ t.0 * b = Nat.mul-le-mul_right b t.1 in
        let den : denominator_value q.denominator ≡ t.0 * b = t.2 in
        (omega (arith, num, low, more), omega (arith, den, le, next))

-- the denominators of fractions in lowest terms, and the least number that they all divide
pub lowest_over_least : {n : ℕ} (a : Fin n → ℤ) (b : Fin n → ℕ) (num : Fin n → ℤ) (den : ℕ) → ((i : Fin n) → IsLowest (a i) (b i))
    → ((i : Fin n) → ratio (num i) den ≡ ratio (a i) (b i)) → 0 < den → ((k : ℕ) → ((i : Fin n) → b i ∣ k) → den ∣ k) → AreLowest num den
lowest_over_least {n} a b num den low same h least = record { positive = h; lowest = only }
  where
    only : (e : ℕ) → e ∣ den → ((i : Fin n) → e ∣ unsigned_abs (num i)) → e ≡ 1
    only e v each = at_cofactor (cofactor e den v)
      where
        e-pos : 0 < e
        e-pos = divisor_pos e den h v

        at_cofactor : (k : ℕ) × (den ≡ e * k) → e ≡ 1
        at_cofactor t = Nat.dvd_antisymm (Nat.dvd_of_mul-dvd-mul_left e k-pos (subst (λ m. m ∣ t.0 * 1) (t.1 ∙ Nat.mul_comm e t.0)
            (subst (λ m. den ∣ m) (sym (Nat.mul-one t.0)) (least t.0 divides)))) (Nat.one-dvd e)
          where
            k-pos : 0 < t.0
            k-pos = divisor_pos t.0 den h (subst (λ m. t.0 ∣ m) (sym t.1) (Nat.dvd-mul_left t.0 e))

            divides : (i : Fin n) → b i ∣ t.0
            divides i = denominator_divides (a i) (int_div (num i) (pos e)) (b i) t.0 (low i) k-pos
                (sym (ratio-scale (int_div (num i) (pos e)) t.0 e k-pos e-pos) ∙ ap₂ ratio (mul-int_div e (num i) (each i)) (sym t.1) ∙ same i)
