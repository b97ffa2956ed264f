-- Lowest terms of several fractions.
--   quotients_are_lowest    numbers over their greatest common divisor with the denominator
--   lowest_divides          the form in lowest terms divides each other form
--   three_gcd, three_lowest     the same of three numbers, step by step
--   lowest_already           numbers whose greatest common divisor with the denominator is 1
--   fits_of_lowest          and so it fits where another form fits
use Rattle.std.proofs.Common.{◌≡◌, sym, ◌∙◌, ap, ap₂, subst, ℕ, zero, suc, ◌<◌, ◌≤◌, ◌*◌, ◌/◌, ◌^◌, ℤ, pos, negsuc, ◌*ℤ◌, neg_ℤ, FitsSigned, arith, unsigned_abs, mul-pos, List, [], ◌∷◌, get_or}
use mathlib.Core.Path.{fun_ext}
use Rattle.std.proofs.lemmas.Int.{unsigned_abs-mul}
use Rattle.std.specs.Int.{◌∣◌, Width, IsGcd}
use mir.Val.{hbits}
use Rattle.std.specs.Int.RustNames.{int_div}
use native.Mathlib.Nat as Nat
use Rattle.irr_algebra.specs.Fin.{Fin, to_nat}
use Rattle.irr_algebra.specs.Fin.Fin.{first, next}
use Rattle.irr_algebra.proofs.Rings.{mul-neg}
use Rattle.irr_number.specs.Integers.{integers}
use Rattle.irr_number.proofs.Primes.{cofactor, divisor_pos}
use Rattle.irr_rational.specs.Rational.{rationals, ratio, rational_field}
use Rattle.irr_rational.specs.Ratio.{AreLowest, entry, ratios}
use Rattle.irr_rational.proofs.Integers.{integer_inj}
use Rattle.irr_rational.proofs.Ratios.{IsOver, over-scale, ratio-over, ratio-scale, over_of_ratio}
use Rattle.irr_rational.proofs.ListedRatios.{ratios-at}
use Rattle.irr_rational.proofs.WholeNumbers.{mul-int_div, dvd_of_multiples}
use Rattle.irr_rat.specs.Lowest.{AreThreeLowest}

-- g is the greatest common divisor of b and all a
pub record IsCommonGcd {n : ℕ} (a : Fin n → ℤ) (b g : ℕ) : Type 0 where
  pub denominator : g ∣ b
  pub numerators : (i : Fin n) → g ∣ unsigned_abs (a i)
  pub greatest : (d : ℕ) → d ∣ b → ((i : Fin n) → d ∣ unsigned_abs (a i)) → d ∣ g

-- all over their greatest common divisor
pub quotients_are_lowest : {n : ℕ} (a : Fin n → ℤ) (b g : ℕ) → 0 < b → IsCommonGcd a b g
    → AreLowest (λ i. int_div (a i) (pos g)) (b / g) × ((i : Fin n) → ratio (int_div (a i) (pos g)) (b / g) ≡ ratio (a i) b)
quotients_are_lowest {n} a b g h k = (
  record { positive = c-pos; lowest = lowest },
  λ i. sym (ratio-scale (int_div (a i) (pos g)) (b / g) g c-pos g-pos) ∙ ap₂ ratio (mul-int_div g (a i) (k.numerators i)) (Nat.mul-div_cancel' g k.denominator),
)
  where
    g-pos : 0 < g
    g-pos = divisor_pos g b h k.denominator

    c-pos : 0 < b / g
    c-pos = divisor_pos (b / g) b h (subst (λ n. b / g ∣ n) (Nat.mul-div_cancel' g k.denominator) (Nat.dvd-mul_left (b / g) g))

    lowest : (d : ℕ) → d ∣ b / g → ((i : Fin n) → d ∣ unsigned_abs (int_div (a i) (pos g))) → d ≡ 1
    lowest d v w = Nat.dvd_antisymm (Nat.dvd_of_mul-dvd-mul_left d g-pos (subst (λ n. g * d ∣ n) (sym (Nat.mul-one g)) (k.greatest (g * d)
        (subst (λ n. g * d ∣ n) (Nat.mul-div_cancel' g k.denominator) (Nat.mul-dvd-mul_left d g v))
        (λ i. subst (λ n. g * d ∣ n) (sym (unsigned_abs-mul (pos g) (int_div (a i) (pos g))) ∙ ap unsigned_abs (mul-int_div g (a i) (k.numerators i))) (Nat.mul-dvd-mul_left d g (w i)))))) (Nat.one-dvd d)

-- they are in lowest terms where this is 1
pub lowest_already : {n : ℕ} (a : Fin n → ℤ) (b g : ℕ) → 0 < b → g ≡ 1 → IsCommonGcd a b g → AreLowest a b
lowest_already a b g h one k = record { positive = h; lowest = λ d v w. Nat.dvd_antisymm (subst (λ m. d ∣ m) one (k.greatest d v w)) (Nat.one-dvd d) }

-- the form in lowest terms divides each other form
pub lowest_divides : {n : ℕ} (a c : Fin n → ℤ) (b d : ℕ) → AreLowest a b → 0 < d → ((i : Fin n) → ratio (a i) b ≡ ratio (c i) d)
    → (k : ℕ) × (0 < k) × (d ≡ k * b) × ((i : Fin n) → c i ≡ pos k *ℤ a i)
lowest_divides {n} a c b d low h e = at_cofactor (cofactor b d (dvd_of_multiples a b d low (λ i. record { number = c i; is = other i })))
  where
    other : (i : Fin n) → IsOver rationals (ratio (a i) b) (c i) d
    other i = over_of_ratio (ratio (a i) b) (c i) d h (sym (e i))

    at_cofactor : (k : ℕ) × (d ≡ b * k) → (k : ℕ) × (0 < k) × (d ≡ k * b) × ((i : Fin n) → c i ≡ pos k *ℤ a i)
    at_cofactor t = (t.0, k-pos, part, same)
      where
        part : d ≡ t.0 * b
        part = t.1 ∙ Nat.mul_comm b t.0

        k-pos : 0 < t.0
        k-pos = divisor_pos t.0 d h (subst (λ m. t.0 ∣ m) (sym t.1) (Nat.dvd-mul_left t.0 b))

        same : (i : Fin n) → c i ≡ pos t.0 *ℤ a i
        same i = integer_inj rational_field (c i) (pos t.0 *ℤ a i) (sym (subst (λ m. IsOver rationals (ratio (a i) b) (c i) m) part (other i))
            ∙ over-scale rationals (ratio (a i) b) (a i) b t.0 (ratio-over (a i) b low.positive))

-- step by step for three numbers
pub three_gcd : (num : List ℤ) (b d e g : ℕ) → IsGcd (unsigned_abs (get_or num 2 (pos 0))) b d → IsGcd (unsigned_abs (get_or num 1 (pos 0))) d e
    → IsGcd (unsigned_abs (get_or num 0 (pos 0))) e g → IsCommonGcd {n = 3} (entry num) b g
unfolding to_nat
three_gcd num b d e g h k l = record {
  denominator = Nat.dvd_trans g (Nat.dvd_trans g l.1 k.1) h.1;
  numerators = elim [
    | first ↦ l.0
    | next first ↦ Nat.dvd_trans g l.1 k.0
    | next (next first) ↦ Nat.dvd_trans g (Nat.dvd_trans g l.1 k.1) h.0
    | next (next (next i)) ↦ elim i [ ]
  ];
  greatest = λ f v w. l.2 f (w first) (k.2 f (w (next first)) (h.2 f (w (next (next first))) v));
}

-- three quotients as a list
pub three_lowest : (num : List ℤ) (x y z : ℤ) (b g : ℕ) → 0 < b → IsCommonGcd {n = 3} (entry num) b g
    → x ≡ int_div (get_or num 0 (pos 0)) (pos g) → y ≡ int_div (get_or num 1 (pos 0)) (pos g) → z ≡ int_div (get_or num 2 (pos 0)) (pos g)
    → AreThreeLowest (x ∷ y ∷ z ∷ []) (b / g) × ((i : Fin 3) → ratios (x ∷ y ∷ z ∷ []) (b / g) i ≡ ratios num b i)
unfolding to_nat
three_lowest num x y z b g h k ex ey ez = (
  subst (λ a. AreLowest {n = 3} a (b / g)) (fun_ext same) q.0,
  λ i. ratios-at (x ∷ y ∷ z ∷ []) (b / g) i ∙ ap (λ a. ratio a (b / g)) (sym (same i)) ∙ q.1 i ∙ sym (ratios-at num b i),
)
  where
    q : AreLowest {n = 3} (λ i. int_div (entry num i) (pos g)) (b / g) × ((i : Fin 3) → ratio (int_div (entry num i) (pos g)) (b / g) ≡ ratio (entry num i) b)
    q = quotients_are_lowest {n = 3} (entry num) b g h k

    same : (i : Fin 3) → int_div (entry {n = 3} num i) (pos g) ≡ entry {n = 3} (x ∷ y ∷ z ∷ []) i
    same first = sym ex
    same (next first) = sym ey
    same (next (next first)) = sym ez
    same (next (next (next i))) = elim i [ ]

fits_of_negative : (w : Width) (x : ℕ) → 0 < x → FitsSigned w (neg_ℤ (pos x)) → x ≤ 2 ^ hbits w
fits_of_negative w zero h f = omega arith
fits_of_negative w (suc m) h f = let g : m < 2 ^ hbits w = f.sfits in omega arith

-- a number fits where a positive multiple of it does
fits_of_multiple : (w : Width) (a : ℤ) (k : ℕ) → 0 < k → FitsSigned w (pos k *ℤ a) → FitsSigned w a
fits_of_multiple w (pos n) k h f =
    let g : k * n < 2 ^ hbits w = f.sfits in
    let m : 1 * n ≤ k * n = Nat.mul-le-mul_right n h in
    record { sfits = omega arith }
fits_of_multiple w (negsuc n) k h f =
    let g : k * suc n ≤ 2 ^ hbits w = fits_of_negative w (k * suc n) (mul-pos h (omega arith)) (subst (FitsSigned w) (mul-neg integers (pos k) (pos (suc n))) f) in
    let m : 1 * suc n ≤ k * suc n = Nat.mul-le-mul_right (suc n) h in
    record { sfits = omega arith }

-- in lowest terms a form fits where another form fits
pub fits_of_lowest : (w : Width) {n : ℕ} (a c : Fin n → ℤ) (b d : ℕ) → AreLowest a b → 0 < d → ((i : Fin n) → ratio (a i) b ≡ ratio (c i) d)
    → (m : ℕ) → d < m → ((i : Fin n) → FitsSigned w (c i)) → (b < m) × ((i : Fin n) → FitsSigned w (a i))
fits_of_lowest w {n} a c b d low h e m l f = at_factor (lowest_divides a c b d low h e)
  where
    at_factor : (k : ℕ) × (0 < k) × (d ≡ k * b) × ((i : Fin n) → c i ≡ pos k *ℤ a i) → (b < m) × ((i : Fin n) → FitsSigned w (a i))
    at_factor t = (
      (let g : 1 * b ≤ t.0 * b = Nat.mul-le-mul_right b t.1 in let p : d ≡ t.0 * b = t.2 in omega arith),
      λ i. fits_of_multiple w (a i) t.0 t.1 (subst (FitsSigned w) (t.3 i) (f i)),
    )
