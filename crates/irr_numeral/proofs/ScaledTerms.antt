-- The numbers of scaled terms.
--   term-scaled       d times a term's value is its numerator over d times its power
--   terms-scaled      d times the value of terms is the sum of the scaled ones
--   value-of          the number whose product with d is that sum
--   exponents-below   the exponents are below the order
--   size-scaled       the sum of the absolute scaled numerators is the size
--   size-front, size-all, scaled-front     one term more in the program, and all
use Rattle.std.proofs.Common.{◌≡◌, refl, sym, ◌∙◌, ap, ap₂, subst, ℕ, ℤ, pos, neg_ℤ, suc, ◌<◌, ◌≤◌, ◌+◌, ◌*◌, ◌/◌, ◌*ℤ◌, ◌++◌, take, get_or, Bool, true, false, Option, None, Some, IfSome, List, [], ◌∷◌, length, map, All, arith, sum_by, unsigned_abs}
use Rattle.std.specs.Int.{◌∣◌}
use Rattle.std.specs.Str.Parse.{digits_value}
use Rattle.std.proofs.lemmas.List.{map-append, take_all}
use Rattle.std.proofs.lemmas.List.Elements.{All-map}
use Rattle.std.proofs.lemmas.List.Sums.{sum_by-cons, sum_by_push}
use native.Mathlib.Nat as Nat
use Rattle.irr_algebra.specs.Ring.{whole}
use Rattle.irr_algebra.proofs.Rings.{mul-zero, mul-neg}
use Rattle.irr_algebra.proofs.Homomorphisms.{map-whole}
use Rattle.irr_number.specs.Integers.{integers}
use Rattle.irr_number.specs.Lift.{lift, lift_of}
use Rattle.irr_number.specs.Number.{Number, numbers, root_power}
use Rattle.irr_number.proofs.Lifts.{lift_of-lift}
use Rattle.irr_rational.specs.Integer.{integer}
use Rattle.irr_rational.specs.Rational.{ratio, rationals}
use Rattle.irr_rational.proofs.Integers.{map-integer}
use Rattle.irr_rational.proofs.Ratios.{IsOver, ratio-over, over-scale}
use Rattle.irr_canonical.proofs.Sums.{eq_of_mul}
use Rattle.irr_canonical.proofs.Sizes.{unsigned_abs-neg}
use Rattle.irr_cyc.specs.Terms.{terms_sum}
use Rattle.irr_numeral.proofs.CommonDenominators.{front-more}
use Rattle.irr_numeral.specs.declared.terms.Written.{Written}
use Rattle.irr_numeral.specs.TermPlaces.{written_term}
use Rattle.irr_numeral.specs.NumberLimit.{IsSmallExponent}
use Rattle.irr_numeral.specs.ScaledTerm.{scaled_term}
use Rattle.irr_numeral.specs.WrittenNumber.{WrittenTerm, exponent_of, exponent_value}
use Rattle.irr_numeral.specs.WrittenValue.{denominator_of, numerator_of, numerator_over, with_sign, term_value, written_value, written_size, IsCommonDenominator}

-- a fraction as a number of order n
pub over-lift : (n : ℕ) (a : ℤ) (b : ℕ) → 0 < b → IsOver (numbers n) (lift_of 1 n (ratio a b)) a b
over-lift n a b p =
    ap ((numbers n).mul (whole (numbers n) b)) (lift_of-lift 1 n (omega arith) (Nat.one-dvd n) (ratio a b))
    ∙ ap (λ w. (numbers n).mul w ((lift 1 n (omega arith) (Nat.one-dvd n)).map (ratio a b))) (sym (map-whole (lift 1 n (omega arith) (Nat.one-dvd n)) b))
    ∙ sym ((lift 1 n (omega arith) (Nat.one-dvd n)).map-mul (whole rationals b) (ratio a b))
    ∙ ap (lift 1 n (omega arith) (Nat.one-dvd n)).map (ratio-over a b p)
    ∙ map-integer (lift 1 n (omega arith) (Nat.one-dvd n)) a

plain-scale : (k m : ℕ) → pos k *ℤ pos m ≡ pos (m * k)
plain-scale k m = ap (λ n. pos n) (Nat.mul_comm k m)

signed-scale : (negative : Bool) (k m : ℕ) → pos k *ℤ with_sign negative m ≡ with_sign negative (m * k)
signed-scale true k m = mul-neg integers (pos k) (pos m) ∙ ap (λ z. neg_ℤ z) (plain-scale k m)
signed-scale false k m = plain-scale k m

term-scaled : (n d : ℕ) (t : WrittenTerm) → 0 < denominator_of t → denominator_of t ∣ d
    → (numbers n).mul (whole (numbers n) d) (term_value n t) ≡ (numbers n).mul (integer (numbers n) (scaled_term d t).1) (root_power n (exponent_of t))
term-scaled n d t p v =
    sym ((numbers n).mul_assoc (whole (numbers n) d) (lift_of 1 n (ratio (numerator_of t) (denominator_of t))) (root_power n (exponent_of t)))
    ∙ ap (λ x. (numbers n).mul x (root_power n (exponent_of t))) scaled
  where
    product : d / denominator_of t * denominator_of t ≡ d
    product = Nat.mul_comm (d / denominator_of t) (denominator_of t) ∙ Nat.mul-div_cancel' (denominator_of t) v

    scaled : IsOver (numbers n) (lift_of 1 n (ratio (numerator_of t) (denominator_of t))) (scaled_term d t).1 d
    scaled = subst (λ a. IsOver (numbers n) (lift_of 1 n (ratio (numerator_of t) (denominator_of t))) a d)
        (signed-scale t.negative (d / denominator_of t) (digits_value 10 t.numerator))
        (subst (IsOver (numbers n) (lift_of 1 n (ratio (numerator_of t) (denominator_of t))) (pos (d / denominator_of t) *ℤ numerator_of t)) product
        (over-scale (numbers n) (lift_of 1 n (ratio (numerator_of t) (denominator_of t))) (numerator_of t) (denominator_of t) (d / denominator_of t)
        (over-lift n (numerator_of t) (denominator_of t) p)))

pub terms-scaled : (n d : ℕ) (ts : List WrittenTerm) → All (λ t. 0 < denominator_of t) ts → All (λ t. denominator_of t ∣ d) ts
    → (numbers n).mul (whole (numbers n) d) (written_value n ts) ≡ terms_sum n (map (scaled_term d) ts)
unfolding written_value terms_sum
terms-scaled n d [] p v = mul-zero (numbers n) (whole (numbers n) d)
terms-scaled n d (t ∷ ts) p v = (numbers n).mul-add (whole (numbers n) d) (term_value n t) (written_value n ts)
    ∙ ap₂ (numbers n).add (term-scaled n d t (p 0 t (omega arith)) (v 0 t (omega arith)))
    (terms-scaled n d ts (λ k e lt. p (suc k) e (omega arith)) (λ k e lt. v (suc k) e (omega arith)))

pub value-of : (n d : ℕ) (ts : List WrittenTerm) (x : Number n) → 0 < n → IsCommonDenominator ts d → All (λ t. 0 < denominator_of t) ts
    → (numbers n).mul (whole (numbers n) d) x ≡ terms_sum n (map (scaled_term d) ts) → x ≡ written_value n ts
value-of n d ts x h c p e = eq_of_mul n h d c.positive x (written_value n ts) (e ∙ sym (terms-scaled n d ts p c.common))

below : (n : ℕ) (o : Option (List ℕ)) → 0 < n → IfSome o (λ ds. digits_value 10 ds < n) → exponent_value o < n
below n None h is = h
below n (Some ds) h is = is

pub exponents-below : (n d : ℕ) (ts : List WrittenTerm) → 0 < n → All (IsSmallExponent n) ts → All (λ t. t.0 < n) (map (scaled_term d) ts)
exponents-below n d ts h all = All-map (λ t. t.0 < n) (scaled_term d) ts (λ k e lt. below n (get_or ts k e).exponent h (all k e lt))

signed-size : (negative : Bool) (m : ℕ) → unsigned_abs (with_sign negative m) ≡ m
signed-size true m = unsigned_abs-neg (pos m)
signed-size false m = refl

pub size-scaled : (d : ℕ) (ts : List WrittenTerm) → sum_by (λ t. unsigned_abs t.1) (map (scaled_term d) ts) ≡ written_size d ts
size-scaled d [] = refl
size-scaled d (t ∷ ts) = sum_by-cons (λ u. unsigned_abs u.1) (scaled_term d t) (map (scaled_term d) ts)
    ∙ ap₂ (λ a b. a + b) (signed-size t.negative (numerator_over d t)) (size-scaled d ts) ∙ sym (sum_by-cons (numerator_over d) t ts)

-- one term more in the program
pub size-front : (d : ℕ) (ws : List Written) (i : ℕ) (e : Written) → i < length ws
    → written_size d (take (i + 1) (map written_term ws)) ≡ written_size d (take i (map written_term ws)) + numerator_over d (written_term (get_or ws i e))
size-front d ws i e lt = ap (written_size d) (front-more ws i e lt) ∙ sum_by_push (numerator_over d) (take i (map written_term ws))
    (written_term (get_or ws i e))

pub size-all : (d : ℕ) (ts : List WrittenTerm) (i s : ℕ) → length ts ≤ i → s ≡ written_size d (take i ts) → s ≡ written_size d ts
size-all d ts i s le e = e ∙ ap (written_size d) (take_all i ts le)

pub scaled-front : (d : ℕ) (ws : List Written) (i : ℕ) (e : Written) (scaled more : List (ℕ × ℤ)) (t : ℕ × ℤ) → i < length ws
    → scaled ≡ map (scaled_term d) (take i (map written_term ws)) → more ≡ scaled ++ (t ∷ []) → t ≡ scaled_term d (written_term (get_or ws i e))
    → more ≡ map (scaled_term d) (take (i + 1) (map written_term ws))
scaled-front d ws i e scaled more t lt h m v = m ∙ ap₂ (λ a b. a ++ (b ∷ [])) h v
    ∙ sym (map-append (scaled_term d) (take i (map written_term ws)) (written_term (get_or ws i e) ∷ []))
    ∙ ap (map (scaled_term d)) (sym (front-more ws i e lt))
