-- What the reading of a number's text makes of its terms.
--   AreRead n text ts        the terms of a text whose faults are at most the common denominator and the size
--   small-terms              their numbers are within the limits
--   denominator-fault, size-fault     where the common denominator or the size passes its limit
--   read-as                  the number of the scaled terms
--   measured-as              their least common denominator and their size
use Rattle.std.proofs.Common.{◌≡◌, refl, sym, ◌∙◌, ap, subst, ℕ, ℤ, ◌<◌, ◌≤◌, List, length, get_or, map, All, arith, inr, ◌⊎◌, ◌^◌, sum_by, unsigned_abs}
use native.Mathlib.Nat as Nat
use Rattle.irr_algebra.specs.Ring.{whole}
use Rattle.irr_number.specs.Number.{Number, numbers}
use Rattle.irr_cyc.specs.Terms.{terms_sum}
use Rattle.irr_numeral.specs.declared.limits.TheConstants.{COEFFICIENT_LIMIT, DENOMINATOR_LIMIT}
use Rattle.irr_numeral.specs.NumberFault.{IsRangeFault, IsTotalFault}
use Rattle.irr_numeral.specs.NumberLimit.{IsWithin, IsSmallExponent}
use Rattle.irr_numeral.specs.ScaledTerm.{scaled_term}
use Rattle.irr_numeral.specs.TermPlaces.{HasZero, written_term}
use Rattle.irr_numeral.specs.declared.terms.Written.{Written}
use Rattle.irr_numeral.specs.WrittenNumber.{WrittenTerm, AreTerms, AreIncreasing, spelled}
use Rattle.irr_numeral.specs.WrittenValue.{IsSmallTerm, IsCommonDenominator, AreSmall, IsMeasured, IsReadAs, written_size}
use Rattle.irr_numeral.proofs.CommonDenominators.{positive-denominator}
use Rattle.irr_numeral.proofs.ExponentOrder.{term-index}
use Rattle.irr_numeral.proofs.ScaledTerms.{value-of, exponents-below, size-scaled}

pub record AreRead (n : ℕ) (text : List ℕ) (ts : List WrittenTerm) : Type 0 where
  pub are_terms : AreTerms ts
  pub spells : spelled ts ≡ text
  pub increasing : AreIncreasing ts
  pub not_zero : All (λ t. ¬ (HasZero t)) ts
  pub within : All (IsWithin n) ts

module _ (n : ℕ) (text : List ℕ) (ts : List WrittenTerm) (h : AreRead n text ts) where
  pub small-terms : All IsSmallTerm ts
  small-terms k d lt = let w = h.within k d lt in (term-index ts k d h.are_terms lt, h.not_zero k d lt, w.0, w.1)

  pub small-exponents : All (IsSmallExponent n) ts
  small-exponents k d lt = (h.within k d lt).2

  total-fault : ¬ (AreSmall ts) → (p : ℕ) → p ≡ length text → IsRangeFault n text p ⊎ IsTotalFault n text p
  total-fault f p e = inr (record { terms = ts; are_terms = h.are_terms; spells = h.spells }, h.increasing, h.not_zero, h.within, f, e)

  pub denominator-fault : ((d : ℕ) → IsCommonDenominator ts d → DENOMINATOR_LIMIT < d)
      → IsRangeFault n text (length text) ⊎ IsTotalFault n text (length text)
  denominator-fault f = total-fault (λ s. let over = f s.denominator s.common in omega (arith, over, s.denominator_within)) (length text) refl

  pub size-fault : (d : ℕ) → IsCommonDenominator ts d → (written_size d ts ≤ COEFFICIENT_LIMIT → ⊥)
      → IsRangeFault n text (length text) ⊎ IsTotalFault n text (length text)
  size-fault d c f = total-fault (λ s. f (subst (λ e. written_size e ts ≤ COEFFICIENT_LIMIT)
      (Nat.dvd_antisymm (s.common.least d c.common) (c.least s.denominator s.common.common)) s.size_within)) (length text) refl

  pub read-as : (d : ℕ) (x : Number n) (scaled : List (ℕ × ℤ)) → 0 < n → IsCommonDenominator ts d → d ≤ DENOMINATOR_LIMIT
      → written_size d ts ≤ COEFFICIENT_LIMIT → scaled ≡ map (scaled_term d) ts
      → (numbers n).mul (whole (numbers n) d) x ≡ terms_sum n scaled → IsReadAs n text x
  read-as d x scaled p c l s m e = record {
    terms = ts;
    are_terms = h.are_terms;
    spells = h.spells;
    increasing = h.increasing;
    not_zero = h.not_zero;
    within = h.within;
    small = record { denominator = d; common = c; denominator_within = l; size_within = s };
    value = value-of n d ts x p c (λ k t lt. positive-denominator (get_or ts k t) (small-terms k t lt)) (e ∙ ap (terms_sum n) m);
  }

  pub measured-as : (d s : ℕ) → IsCommonDenominator ts d → d ≤ DENOMINATOR_LIMIT → s ≡ written_size d ts → s ≤ COEFFICIENT_LIMIT → IsMeasured text d s
  measured-as d s c l e m = record {
    terms = ts;
    are_terms = h.are_terms;
    spells = h.spells;
    common = c;
    denominator_within = l;
    size_is = e;
    size_within = m;
  }

  pub scaled-exponents : (d : ℕ) (scaled : List (ℕ × ℤ)) → 0 < n → scaled ≡ map (scaled_term d) ts → All (λ t. t.0 < n) scaled
  scaled-exponents d scaled p m = subst (All (λ t. t.0 < n)) (sym m) (exponents-below n d ts p small-exponents)

  pub scaled-size : (d : ℕ) (scaled : List (ℕ × ℤ)) → written_size d ts ≤ COEFFICIENT_LIMIT → scaled ≡ map (scaled_term d) ts
      → sum_by (λ t. unsigned_abs t.1) scaled ≤ 2 ^ 100
  scaled-size d scaled s m = let size : sum_by (λ t. unsigned_abs t.1) scaled ≡ written_size d ts = ap (sum_by (λ t. unsigned_abs t.1)) m
      ∙ size-scaled d ts in omega (arith, size, s)

-- the terms that the program has read, seen as a slice
pub read-of : (n m : ℕ) (text : List ℕ) (ws slice : List Written) → m ≡ n → slice ≡ ws → AreTerms (map written_term ws)
    → spelled (map written_term ws) ≡ text → AreIncreasing (map written_term ws)
    → All (λ t. ¬ (HasZero t)) (map written_term ws) → All (IsWithin m) (map written_term ws) → AreRead n text (map written_term slice)
read-of n m text ws slice e f a s o z w = subst (λ (l : List Written). AreRead n text (map written_term l)) (sym f)
    (record { are_terms = a; spells = s; increasing = o; not_zero = z; within = subst (λ k. All (IsWithin k) (map written_term ws)) e w })
