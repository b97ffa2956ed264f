-- The least common denominator of terms, term by term.
--   front-more        one term more of a list of terms that are read
--   common-none       that of no terms is 1
--   common-more       one term more
--   positive-term     a denominator that is not 0 is above 0
--   common-exists     there is one
--   common-beyond     where that of the first terms passes a limit, that of all does
use Rattle.std.proofs.Common.{◌≡◌, sym, ◌∙◌, ap, subst, ℕ, zero, suc, Option, None, Some, IfSome, inl, inr, length-append, ◌<◌, ◌≤◌, ◌+◌, List, [], ◌∷◌, ◌++◌, length, get_or, take, map, All, arith}
use Rattle.std.specs.Int.{◌∣◌}
use Rattle.std.proofs.lemmas.List.{get_or-map, length-map, get_or_append_left, take_all}
use Rattle.std.proofs.Math.Seq.{take-suc, get_or-append_seam}
use Rattle.std.proofs.lemmas.List.Elements.{All-append, All-take}
use Rattle.std.proofs.lemmas.Nat.Gcd.{dvd_trans, le_of_dvd}
use native.Mathlib.Nat as Nat
use Rattle.irr_rat.proofs.Multiples.{lcm_exists, lcm_positive}
use Rattle.std.specs.Str.Parse.{digits_value}
use Rattle.irr_numeral.proofs.ExponentOrder.{exponent_of_whole}
use Rattle.irr_rat.specs.Lcm.{IsLcm}
use Rattle.irr_numeral.specs.declared.terms.Written.{Written}
use Rattle.irr_numeral.specs.TermPlaces.{HasZero, written_term}
use Rattle.irr_numeral.specs.WrittenNumber.{WrittenTerm, IsDenominator, IsTerm}
use Rattle.irr_numeral.specs.WrittenValue.{IsCommonDenominator, IsSmallTerm, denominator_of, denominator_value}

pub front-more : (ws : List Written) (i : ℕ) (d : Written) → i < length ws
    → take (i + 1) (map written_term ws) ≡ take i (map written_term ws) ++ (written_term (get_or ws i d) ∷ [])
front-more ws i d lt =
    let next : i + 1 ≡ suc i = omega arith in
    ap (λ n. take n (map written_term ws)) next ∙ take-suc (map written_term ws) i (written_term d) (omega (arith, lt, length-map ws written_term))
    ∙ ap (λ u. take i (map written_term ws) ++ (u ∷ [])) (get_or-map written_term ws i d (written_term d) lt)

pub common-none : IsCommonDenominator [] 1
common-none = record { positive = omega arith; common = λ k d lt. absurd (omega arith); least = λ m h. Nat.one-dvd m }

-- each of the terms, and one more
all-push : (P : WrittenTerm → Type 0) (ts : List WrittenTerm) (t : WrittenTerm) → All P ts → P t → All P (ts ++ (t ∷ []))
all-push P ts t h p = All-append P ts (t ∷ []) h one
  where
    one : All P (t ∷ [])
    one zero d lt = p
    one (suc k) d lt = absurd (omega arith)

all-front : (P : WrittenTerm → Type 0) (ts us : List WrittenTerm) → All P (ts ++ us) → All P ts
all-front P ts us h k d lt = subst P (get_or_append_left ts us d k lt) (h k d (omega (arith, lt, length-append ts us)))

all-last : (P : WrittenTerm → Type 0) (ts : List WrittenTerm) (t : WrittenTerm) → All P (ts ++ (t ∷ [])) → P t
all-last P ts t h = subst P (get_or-append_seam ts t [] t) (h (length ts) t (omega (arith, length-append ts (t ∷ []))))

-- a term at its place
pub all-at : (P : WrittenTerm → Type 0) (ws : List Written) (i : ℕ) (d : Written) → All P (map written_term ws) → i < length ws
    → P (written_term (get_or ws i d))
all-at P ws i d h lt = subst P (get_or-map written_term ws i d (written_term d) lt) (h i (written_term d) (omega (arith, lt, length-map ws written_term)))

pub common-more : (ts : List WrittenTerm) (t : WrittenTerm) (c m : ℕ) → IsCommonDenominator ts c → 0 < denominator_of t → IsLcm c (denominator_of t) m
    → 0 < m → IsCommonDenominator (ts ++ (t ∷ [])) m
common-more ts t c m h p l q = record {
  positive = q;
  common = all-push (λ u. denominator_of u ∣ m) ts t (λ k d lt. dvd_trans (denominator_of (get_or ts k d)) (h.common k d lt) l.0) l.1;
  least = λ x all. l.2 x (h.least x (all-front (λ u. denominator_of u ∣ x) ts (t ∷ []) all)) (all-last (λ u. denominator_of u ∣ x) ts t all);
}

pub common-beyond : (ts : List WrittenTerm) (i c d limit : ℕ) → IsCommonDenominator (take i ts) c → limit < c → IsCommonDenominator ts d → limit < d
common-beyond ts i c d limit h l g =
    let le : c ≤ d = le_of_dvd g.positive (h.least d (All-take (λ t. denominator_of t ∣ d) i ts g.common)) in
    omega arith

pub common-all : (ts : List WrittenTerm) (i c : ℕ) → length ts ≤ i → IsCommonDenominator (take i ts) c → IsCommonDenominator ts c
common-all ts i c le h = subst (λ us. IsCommonDenominator us c) (take_all i ts le) h

-- a denominator that is not 0 is above 0
pub positive-value : (ds : List ℕ) → IsDenominator ds → ¬ (ds ≡ 48 ∷ []) → 0 < digits_value 10 ds
positive-value ds (inl e) n = absurd (n e)
positive-value ds (inr w) n = (exponent_of_whole ds w).1

pub positive-of : (o : Option (List ℕ)) (ds : List ℕ) → o ≡ Some ds → IfSome o IsDenominator → ¬ (o ≡ Some (48 ∷ [])) → 0 < digits_value 10 ds
positive-of None ds e is n = absurd (cc)
positive-of (Some es) ds e is n = subst (λ u. 0 < denominator_value u) e (positive-value es is (λ f. n (ap Some f)))

pub positive-term : (t : WrittenTerm) → IsTerm t → ¬ (HasZero t) → 0 < denominator_of t
positive-term t is n = of_option t.denominator is.denominator n
  where
    of_option : (o : Option (List ℕ)) → IfSome o IsDenominator → ¬ (o ≡ Some (48 ∷ [])) → 0 < denominator_value o
    of_option None is n = omega arith
    of_option (Some ds) is n = positive-value ds is (λ e. n (ap Some e))

pub positive-denominator : (t : WrittenTerm) → IsSmallTerm t → 0 < denominator_of t
positive-denominator t h = positive-term t h.0 h.1

-- one term more in the program
pub step-of : (ws : List Written) (i : ℕ) (d : Written) (c q m : ℕ) → i < length ws → IsCommonDenominator (take i (map written_term ws)) c
    → q ≡ denominator_of (written_term (get_or ws i d)) → 0 < q → IsLcm c q m
    → IsCommonDenominator (take (i + 1) (map written_term ws)) m
step-of ws i d c q m lt h e p l = subst (λ us. IsCommonDenominator us m) (sym (front-more ws i d lt))
    (common-more (take i (map written_term ws)) (written_term (get_or ws i d)) c m h (subst (λ x. 0 < x) e p) (subst (λ x. IsLcm c x m) e l)
    (lcm_positive c q m h.positive p l))

-- each of the terms of a list, and of one with one term more at its front
all-cons : (P : WrittenTerm → Type 0) (t : WrittenTerm) (ts : List WrittenTerm) → P t → All P ts → All P (t ∷ ts)
all-cons P t ts p h zero d lt = p
all-cons P t ts p h (suc k) d lt = h k d (omega arith)

all-tail : (P : WrittenTerm → Type 0) (t : WrittenTerm) (ts : List WrittenTerm) → All P (t ∷ ts) → All P ts
all-tail P t ts h k d lt = h (suc k) d (omega arith)

pub common-exists : (ts : List WrittenTerm) → All (λ t. 0 < denominator_of t) ts → (c : ℕ) × IsCommonDenominator ts c
common-exists [] p = (1, common-none)
common-exists (t ∷ ts) p =
    let rest : (c : ℕ) × IsCommonDenominator ts c = common-exists ts (all-tail (λ u. 0 < denominator_of u) t ts p) in
    let more : (m : ℕ) × IsLcm rest.0 (denominator_of t) m = lcm_exists rest.0 (denominator_of t) rest.1.positive in (
      more.0,
      record {
        positive = lcm_positive rest.0 (denominator_of t) more.0 rest.1.positive (p 0 t (omega arith)) more.1;
        common = all-cons (λ u. denominator_of u ∣ more.0) t ts more.1.1
            (λ k d lt. dvd_trans (denominator_of (get_or ts k d)) (rest.1.common k d lt) more.1.0);
        least = λ x all. more.1.2 x (rest.1.least x (all-tail (λ u. denominator_of u ∣ x) t ts all)) (all 0 t (omega arith));
      },
    )
