-- What is answered for a line from what is read of it.
--   alike-denominators, alike-numbers, alike-value     fractions that are alike have the same numbers and values
--   text_of                               the line writes these values
--   zero_fault, beyond_fault, common_fault     or has a fault
use Rattle.std.proofs.Common.{◌≡◌, refl, sym, ◌∙◌, ap, ap₂, subst, ℕ, zero, suc, ◌≤◌, List, [], ◌∷◌, ◌++◌, length, Option, inl, inr, ℤ}
use Rattle.irr_algebra.specs.Fin.{Fin, to_nat}
use Rattle.irr_rational.specs.Rational.{ratio}
use Rattle.irr_rational.specs.Ratio.{AreLowest}
use Rattle.irr_token.specs.Token.{PlacedNumber, value_of}
use Rattle.irr_token.specs.Quotient.{WrittenQuotient, with_sign, denominator_value}
use Rattle.irr_token.specs.Fault.{Limited, AreNotZero, IsFirstZero, AreWithin, IsFirstBeyond, present}
use Rattle.irr_setting_text.specs.declared.read.SettingError.TheVariants.{Zero, Range}
use Rattle.irr_setting_text.specs.WrittenLine.{IsSpelling, IsLine}
use Rattle.irr_setting_text.specs.SettingFault.{line_denominators, present_within, numbers_within, line_numbers, value_at, AreValues, HasCommonDenominator, IsText, IsFault}
use Rattle.irr_setting_text.specs.LineReading.{IsAlike, AreAlike}

pub alike-denominators : (ps qs : List WrittenQuotient) → AreAlike ps qs → line_denominators ps ≡ line_denominators qs
alike-denominators [] [] h = refl
alike-denominators [] (q ∷ qs) h = absurd h
alike-denominators (p ∷ ps) [] h = absurd h
alike-denominators (p ∷ ps) (q ∷ qs) h = ap₂ (λ (d : Option PlacedNumber) (ns : List PlacedNumber). present d ++ ns) h.0.denominator (alike-denominators ps qs h.1)

numbers-same : (m : ℕ) (p q : WrittenQuotient) → IsAlike p q → numbers_within m p ≡ numbers_within m q
numbers-same m p q h = ap₂ (λ (n : PlacedNumber) (d : Option PlacedNumber). record { limit = m; number = n } ∷ present_within m d) h.numerator h.denominator

pub alike-numbers : (m : ℕ) (ps qs : List WrittenQuotient) → AreAlike ps qs → line_numbers m ps ≡ line_numbers m qs
alike-numbers m [] [] h = refl
alike-numbers m [] (q ∷ qs) h = absurd h
alike-numbers m (p ∷ ps) [] h = absurd h
alike-numbers m (p ∷ ps) (q ∷ qs) h = ap₂ (λ (a b : List Limited). a ++ b) (numbers-same m p q h.0) (alike-numbers m ps qs h.1)

pub alike-value : (ps qs : List WrittenQuotient) (i : ℕ) → AreAlike ps qs → value_at ps i ≡ value_at qs i
alike-value [] [] i h = refl
alike-value [] (q ∷ qs) i h = absurd h
alike-value (p ∷ ps) [] i h = absurd h
alike-value (p ∷ ps) (q ∷ qs) zero h = ap₂ ratio (ap₂ with_sign h.0.sign (ap value_of h.0.numerator)) (ap denominator_value h.0.denominator)
alike-value (p ∷ ps) (q ∷ qs) (suc i) h = alike-value ps qs i h.1

alike-common : (m n : ℕ) (ps qs : List WrittenQuotient) → AreAlike ps qs → HasCommonDenominator m n qs → HasCommonDenominator m n ps
alike-common m n ps qs h c = record {
  num = c.num;
  den = c.den;
  lowest = c.lowest;
  values = λ i. c.values i ∙ sym (alike-value ps qs (to_nat i) h);
  within = c.within;
}

module _ (word : List ℕ) (n m : ℕ) (line : List ℕ) (ps : List WrittenQuotient) (is : IsLine word n line)
    (alike : (qs : List WrittenQuotient) → IsSpelling word n qs line → AreAlike ps qs) where
  pub text_of : (num : Fin n → ℤ) (den : ℕ) → AreNotZero (line_denominators ps) → AreWithin (line_numbers m ps) → AreValues ps num den → AreLowest num den → den ≤ m
      → IsText word n m line num den
  text_of num den z w v low le = let h = alike is.quotients is.spells in record {
    quotients = is.quotients;
    spells = is.spells;
    not_zero = subst AreNotZero (alike-denominators ps is.quotients h) z;
    within = subst AreWithin (alike-numbers m ps is.quotients h) w;
    values = λ i. v i ∙ alike-value ps is.quotients (to_nat i) h;
    lowest = low;
    common = le;
  }

  pub zero_fault : (p : ℕ) → IsFirstZero (line_denominators ps) p → IsFault word n m line (Zero p)
  zero_fault p z = (is, λ qs sp. subst (λ ns. IsFirstZero ns p) (alike-denominators ps qs (alike qs sp)) z)

  pub beyond_fault : (p : ℕ) → AreNotZero (line_denominators ps) → IsFirstBeyond (line_numbers m ps) p → IsFault word n m line (Range p)
  beyond_fault p z b = (is, λ qs sp. (subst AreNotZero (alike-denominators ps qs (alike qs sp)) z, inl (subst (λ ls. IsFirstBeyond ls p) (alike-numbers m ps qs (alike qs sp)) b)))

  pub common_fault : AreNotZero (line_denominators ps) → AreWithin (line_numbers m ps) → ¬ (HasCommonDenominator m n ps) → IsFault word n m line (Range (length line))
  common_fault z w f = (
    is,
    λ qs sp. (
      subst AreNotZero (alike-denominators ps qs (alike qs sp)) z,
      inr (subst AreWithin (alike-numbers m ps qs (alike qs sp)) w, (λ c. f (alike-common m n ps qs (alike qs sp) c)), refl),
    ),
  )
