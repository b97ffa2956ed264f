-- The texts of 0, of 1 and of the identity.
--   numerator-zero           the numerator of 0 is 0
--   number_text-one          1 is printed as 1, at each order
--   triplet_text-identity    the identity is printed as x,y,z
use Rattle.std.proofs.Common.{◌≡◌, sym, ◌∙◌, ap, ap₂, refl, ℕ, ℤ, pos, zero, suc, ◌<◌, ◌++◌, ◌∷◌, [], List, arith, append-nil}
use Rattle.std.specs.Prelude.{codes}
use Rattle.std.proofs.lemmas.Fmt.{decimal_digit}
use native.Mathlib.Nat as Nat
use Rattle.irr_algebra.specs.Sum as Sum
use Rattle.irr_algebra.specs.Matrix.{unit, null}
use Rattle.irr_number.specs.Element.{Element, delta}
use Rattle.irr_number.specs.Fraction.{Fraction}
use Rattle.irr_number.specs.Integers.{integers}
use Rattle.irr_number.specs.Number.{number, numbers}
use Rattle.irr_number.specs.Algebra.{at-element}
use Rattle.irr_number.proofs.RootPowers.{root_power-zero}
use Rattle.irr_rational.specs.Rational.{rationals, ratio}
use Rattle.irr_rational.specs.Ratio.{IsLowest}
use Rattle.irr_rational.proofs.Orders.{ratio-zero}
use Rattle.irr_canonical.specs.Coefficient.{canonical, denominator, coefficient, over}
use Rattle.irr_canonical.specs.Reduction.{IsInBasis}
use Rattle.irr_canonical.proofs.Forms.{canonical_of_number}
use Rattle.irr_canonical.proofs.Operations.{IsCanonical-over, over-root}
use Rattle.irr_space.specs.Operation.{identity, component}
use Rattle.irr_text.specs.NumberText.{numerator, number_text, term_text, pieces_below, sum_text, behind, power_text, signed_fraction}
use Rattle.irr_text.specs.TripletText.{triplet_text, component_text, letter_text}
use Rattle.irr_text.proofs.RationalForm.{zero_in_basis, numerator-lowest, denominator-lowest}

lowest_over_one : (a : ℤ) → IsLowest a 1
lowest_over_one a = record { positive = omega arith; lowest = λ d v w. Nat.dvd-one.0 v }

-- 1 at 0, and 0 elsewhere
unit_coefficient : ℕ → ℤ
unit_coefficient zero = pos 1
unit_coefficient (suc j) = pos 0

module _ (n : ℕ) (positive : 0 < n) where
  in_basis : IsInBasis n unit_coefficient
  unfolding unit_coefficient
  in_basis zero lt h = absurd (h (zero_in_basis n))
  in_basis (suc j) lt h = refl

  form : Fraction (Element n)
  form = over n unit_coefficient 1 (omega arith)

  form-one : number n form ≡ (numbers n).one
  unfolding form delta unit_coefficient
  form-one = over-root n unit_coefficient 0 (omega arith) (λ k lt. same k ∙ ap (λ m. delta integers m k) (sym (Nat.zero-mod n))) ∙ root_power-zero n
    where
      same : (k : ℕ) → unit_coefficient k ≡ delta integers 0 k
      same zero = refl
      same (suc k) = refl

  canonical-one : canonical n (numbers n).one ≡ form
  unfolding form
  canonical-one = canonical_of_number n positive form (numbers n).one (IsCanonical-over n unit_coefficient 1 (omega arith) in_basis (λ c v t. Nat.dvd-one.0 v)) form-one

  coefficient-one : (j : ℕ) → j < n → coefficient n (numbers n).one j ≡ ratio (unit_coefficient j) 1
  unfolding coefficient denominator form
  coefficient-one j lt = ap (λ (f : Fraction (Element n)). ratio (f.num.at j) f.den) canonical-one ∙ ap (λ a. ratio a 1) (at-element n unit_coefficient j lt)

term_text-ratio : (a : ℤ) (j : ℕ) → term_text (ratio a 1) j ≡ behind (power_text j) (signed_fraction a 1)
unfolding term_text
term_text-ratio a j = ap₂ (λ p q. behind (power_text j) (signed_fraction p q)) (numerator-lowest a 1 (lowest_over_one a)) (denominator-lowest a 1 (lowest_over_one a))

-- where only the first piece has a text, the pieces are this text
pieces_first : (m : ℕ) (f : ℕ → List ℕ) → ((j : ℕ) → 0 < j → j < suc m → f j ≡ []) → pieces_below (suc m) f ≡ f 0
unfolding pieces_below
pieces_first zero f h = refl
pieces_first (suc m) f h = ap₂ (λ x y. x ++ y) (pieces_first m f (λ j p l. h j p (omega arith))) (h (suc m) (omega arith) (omega arith)) ∙ append-nil (f 0)

pub number_text-one : (n : ℕ) → 0 < n → number_text n (numbers n).one ≡ codes "1"
unfolding number_text behind signed_fraction unit_coefficient power_text sum_text
number_text-one zero p = absurd (omega arith)
number_text-one (suc m) p = ap sum_text (pieces_first m (λ j. term_text (coefficient (suc m) (numbers (suc m)).one j) j) others ∙ ap (λ c. term_text c 0) (coefficient-one (suc m) p 0 p) ∙ term_text-ratio (unit_coefficient 0) 0) ∙ printed
  where
    empty : (j : ℕ) → 0 < j → behind (power_text j) (signed_fraction (unit_coefficient j) 1) ≡ []
    empty zero l = absurd (omega arith)
    empty (suc j) l = refl

    others : (j : ℕ) → 0 < j → j < suc m → term_text (coefficient (suc m) (numbers (suc m)).one j) j ≡ []
    others j l lt = ap (λ c. term_text c j) (coefficient-one (suc m) p j lt) ∙ term_text-ratio (unit_coefficient j) j ∙ empty j l

    printed : sum_text (behind (power_text 0) (signed_fraction (unit_coefficient 0) 1)) ≡ codes "1"
    printed = ap (λ d. sum_text ((43 ∷ d) ++ [])) (decimal_digit 1 (omega arith))

zero-ratio : rationals.zero ≡ ratio (pos 0) 1
zero-ratio = sym (ratio-zero 1 (omega arith))

pub numerator-zero : numerator rationals.zero ≡ pos 0
numerator-zero = ap numerator zero-ratio ∙ numerator-lowest (pos 0) 1 (lowest_over_one (pos 0))

-- a component whose constant is 0
no_constant : (letters : List ℕ) → sum_text (letters ++ signed_fraction (numerator rationals.zero) (denominator 1 rationals.zero)) ≡ sum_text letters
unfolding signed_fraction
no_constant letters = ap (λ a. sum_text (letters ++ signed_fraction a (denominator 1 rationals.zero))) numerator-zero ∙ ap sum_text (append-nil letters)

pub triplet_text-identity : triplet_text identity ≡ codes "x,y,z"
unfolding triplet_text component_text identity component null unit Sum.delta letter_text sum_text
triplet_text-identity = ap₂ (λ t z. t ++ 44 ∷ z) (ap₂ (λ x y. x ++ 44 ∷ y) (no_constant (43 ∷ 120 ∷ [])) (no_constant (43 ∷ 121 ∷ []))) (no_constant (43 ∷ 122 ∷ []))
