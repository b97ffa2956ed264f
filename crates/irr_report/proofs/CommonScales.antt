-- Common denominators of lists of terms, and sizes over them.
--   common-both     the common denominator of two lists of terms
--   common-some     terms with no denominator 0 have one
--   size-over       the size over a multiple of a common denominator
--   size-rises      it is not less
use Rattle.std.proofs.Common.{◌≡◌, sym, ◌∙◌, ap, ap₂, subst, ℕ, zero, suc, ◌<◌, ◌≤◌, ◌+◌, ◌*◌, ◌/◌, List, [], ◌∷◌, ◌++◌, length, length-append, get_or, All, arith, Option, None, Some, IfSome}
use Rattle.std.specs.Int.{◌∣◌}
use Rattle.std.specs.Str.Parse.{digits_value}
use Rattle.std.proofs.lemmas.List.{get_or_append_left, get_or-append-add}
use Rattle.std.proofs.lemmas.List.Elements.{All-append}
use Rattle.std.proofs.lemmas.List.Sums.{sum_by-cons}
use Rattle.std.proofs.lemmas.Nat.Gcd.{dvd_trans}
use native.Mathlib.Nat as Nat
use Rattle.irr_number.proofs.Primes.{divisor_pos}
use Rattle.irr_rat.specs.Lcm.{IsLcm}
use Rattle.irr_rat.proofs.Multiples.{lcm_exists, lcm_positive}
use Rattle.irr_numeral.specs.TermPlaces.{HasZero}
use Rattle.irr_numeral.specs.WrittenNumber.{WrittenTerm, IsDenominator, AreTerms}
use Rattle.irr_numeral.specs.WrittenValue.{IsCommonDenominator, denominator_of, denominator_value, numerator_over, written_size}
use Rattle.irr_numeral.proofs.CommonDenominators.{common-none, positive-value}
use Rattle.irr_numeral.proofs.ExponentOrder.{term-index}

pub all-one : {A : Type 0} (P : A → Type 0) (x : A) → P x → All P (x ∷ [])
all-one P x p zero d lt = p
all-one P x p (suc k) d lt = absurd (omega arith)

all-left : (P : WrittenTerm → Type 0) (ts us : List WrittenTerm) → All P (ts ++ us) → All P ts
all-left P ts us h k d lt = subst P (get_or_append_left ts us d k lt) (h k d (omega (arith, lt, length-append ts us)))

all-right : (P : WrittenTerm → Type 0) (ts us : List WrittenTerm) → All P (ts ++ us) → All P us
all-right P ts us h k d lt = subst P (get_or-append-add ts us k d) (h (length ts + k) d (omega (arith, lt, length-append ts us)))

pub common-both : (ts us : List WrittenTerm) (d e m : ℕ) → IsCommonDenominator ts d → IsCommonDenominator us e → IsLcm d e m
    → IsCommonDenominator (ts ++ us) m
common-both ts us d e m h k l = record {
  positive = lcm_positive d e m h.positive k.positive l;
  common = All-append (λ t. denominator_of t ∣ m) ts us
      (λ i x lt. dvd_trans (denominator_of (get_or ts i x)) (h.common i x lt) l.0)
      (λ i x lt. dvd_trans (denominator_of (get_or us i x)) (k.common i x lt) l.1);
  least = λ x all. l.2 x (h.least x (all-left (λ t. denominator_of t ∣ x) ts us all)) (k.least x (all-right (λ t. denominator_of t ∣ x) ts us all));
}

common-one : (t : WrittenTerm) → 0 < denominator_of t → IsCommonDenominator (t ∷ []) (denominator_of t)
common-one t p = record {
  positive = p;
  common = all-one (λ u. denominator_of u ∣ denominator_of t) t (Nat.dvd_refl (denominator_of t));
  least = λ m all. all 0 t (omega arith);
}

pub common-some : (ts : List WrittenTerm) → All (λ t. 0 < denominator_of t) ts → (d : ℕ) × IsCommonDenominator ts d
common-some [] p = (1, common-none)
common-some (t ∷ ts) p =
    let first : 0 < denominator_of t = p 0 t (omega arith) in
    let r = common-some ts (λ k d lt. p (suc k) d (omega arith)) in
    let l = lcm_exists (denominator_of t) r.0 first in
    (l.0, common-both (t ∷ []) ts (denominator_of t) r.0 l.0 (common-one t first) r.1 l.1)

positive-option : (o : Option (List ℕ)) → IfSome o IsDenominator → ¬ (o ≡ Some (48 ∷ [])) → 0 < denominator_value o
positive-option None is n = omega arith
positive-option (Some ds) is n = positive-value ds is (λ e. n (ap Some e))

pub positive-terms : (ts : List WrittenTerm) → AreTerms ts → All (λ t. ¬ (HasZero t)) ts → All (λ t. 0 < denominator_of t) ts
positive-terms ts h z k d lt = positive-option (get_or ts k d).denominator (term-index ts k d h lt).denominator (z k d lt)

quotients : (q d m : ℕ) → 0 < d → q ∣ d → d ∣ m → m / q ≡ (d / q) * (m / d)
quotients q d m p v w = Nat.div-eq_of_eq-mul_right (divisor_pos q d p v) whole
  where
    whole : m ≡ q * ((d / q) * (m / d))
    whole = sym (Nat.mul-div_cancel' d w) ∙ ap (λ x. x * (m / d)) (sym (Nat.mul-div_cancel' q v)) ∙ Nat.mul_assoc q (d / q) (m / d)

spread : (x a s r : ℕ) → x * (a * r) + s * r ≡ (x * a + s) * r
spread x a s r = omega arith

pub size-over : (d m : ℕ) (ts : List WrittenTerm) → 0 < d → d ∣ m → All (λ t. denominator_of t ∣ d) ts → written_size m ts ≡ written_size d ts * (m / d)
size-over d m [] p w h = sym (Nat.zero-mul (m / d))
size-over d m (t ∷ ts) p w h =
    sum_by-cons (numerator_over m) t ts
    ∙ ap₂ (λ a b. digits_value 10 t.numerator * a + b) (quotients (denominator_of t) d m p (h 0 t (omega arith)) w)
    (size-over d m ts p w (λ k e lt. h (suc k) e (omega arith)))
    ∙ spread (digits_value 10 t.numerator) (d / denominator_of t) (written_size d ts) (m / d)
    ∙ ap (λ s. s * (m / d)) (sym (sum_by-cons (numerator_over d) t ts))

pub size-rises : (d m : ℕ) (ts : List WrittenTerm) → 0 < d → 0 < m → d ∣ m → All (λ t. denominator_of t ∣ d) ts → written_size d ts ≤ written_size m ts
size-rises d m ts p q w h =
    let over : written_size m ts ≡ written_size d ts * (m / d) = size-over d m ts p w h in
    let some : 0 < m / d = divisor_pos (m / d) m q (subst (λ x. m / d ∣ x) (Nat.mul-div_cancel' d w) (Nat.dvd-mul_left (m / d) d)) in
    let more : written_size d ts * 1 ≤ written_size d ts * (m / d) = Nat.mul-le-mul_left (written_size d ts) some in
    omega (arith, over, more)
