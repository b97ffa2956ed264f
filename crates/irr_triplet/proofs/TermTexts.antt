-- The texts of terms, by themselves and behind others.
--   term-zero, term-one, term-minus, term-other     the text of a term by itself, by its coefficient
--   signed_term-above, -below, -neither             the text of a term behind others, by the sign of its coefficient
--   signed_fraction-above, -below, -neither         the same of a constant
--   sum_text-front                                  only the first term loses its plus
--   terms-x, terms-y, terms-z, terms-none           the text of a component, by the first of its coefficients that is not 0
--   terms-component                                 it is the text of the operation's component
use Rattle.std.proofs.Common.{◌≡◌, refl, sym, ◌∙◌, ap, ap₂, subst, ℕ, zero, suc, ℤ, pos, negsuc, List, [], ◌∷◌, ◌++◌, append_assoc, Bool, true, false, arith, slice_index_or, w16, to_z, of_z}
use mir.Val.{SFits}
use Rattle.std.proofs.lemmas.Int.{to_z-of_z}
use lib.Signed.{lt_z}
use Rattle.std.specs.Prelude.{nat_eq, if◌then◌else◌}
use Rattle.std.proofs.lemmas.Bool.Decides.{nat_tests}
use Rattle.std.specs.Fmt.{decimal, signed_decimal}
use Rattle.std.proofs.lemmas.Fmt.{decimal_digit}
use native.Mathlib.Nat as Nat
use Rattle.irr_algebra.specs.Fin.{Fin, to_nat}
use Rattle.irr_algebra.specs.Fin.Fin.{first, next}
use Rattle.irr_rational.specs.Rational.{ratio}
use Rattle.irr_rational.specs.Ratio.{IsLowest, ratios}
use Rattle.irr_canonical.specs.Coefficient.{denominator}
use Rattle.irr_space.specs.Operation.{Operation, component}
use Rattle.irr_text.specs.NumberText.{sum_text, signed_fraction, fraction_text, numerator}
use Rattle.irr_text.specs.TripletText.{letter_text, component_text, triplet_text}
use Rattle.irr_text.proofs.RationalForm.{numerator-lowest, denominator-lowest}
use Rattle.irr_rat.specs.VectorMeaning.{vector_of}
use Rattle.irr_seitz.specs.Rotation.{rotation_of}
use Rattle.irr_triplet.specs.Terms.{terms_text}

not_below : (n : ℕ) → lt_z (pos (suc n)) (pos 0) ≡ true → ⊥
not_below n h = grind (arith, nat_tests)

above : (n : ℕ) → lt_z (pos 0) (pos (suc n)) ≡ false → ⊥
above n h = grind (arith, nat_tests)

pub term-zero : (z : ℤ) (l : ℕ) → z ≡ pos 0 → 48 ∷ [] ≡ sum_text (letter_text z l)
unfolding sum_text letter_text
term-zero z l e = ap (λ a. sum_text (letter_text a l)) (sym e)

pub term-one : (z : ℤ) (l : ℕ) → z ≡ pos 1 → l ∷ [] ≡ sum_text (letter_text z l)
unfolding sum_text letter_text
term-one z l e = ap (λ a. sum_text (letter_text a l)) (sym e)

pub term-minus : (z : ℤ) (l : ℕ) → z ≡ negsuc 0 → 45 ∷ l ∷ [] ≡ sum_text (letter_text z l)
unfolding sum_text letter_text
term-minus z l e = ap (λ a. sum_text (letter_text a l)) (sym e)

pub term-other : (z : ℤ) (l : ℕ) → ¬ (z ≡ pos 0) → ¬ (z ≡ pos 1) → ¬ (z ≡ negsuc 0) → signed_decimal z ++ l ∷ [] ≡ sum_text (letter_text z l)
unfolding sum_text letter_text
term-other (pos zero) l p q r = absurd (p refl)
term-other (pos (suc zero)) l p q r = absurd (q refl)
term-other (pos (suc (suc n))) l p q r = refl
term-other (negsuc zero) l p q r = absurd (r refl)
term-other (negsuc (suc n)) l p q r = refl

pub signed_term-above : (z : ℤ) (l : ℕ) → lt_z (pos 0) z ≡ true → 43 ∷ sum_text (letter_text z l) ≡ letter_text z l
unfolding sum_text letter_text
signed_term-above (pos zero) l h = absurd (cc)
signed_term-above (pos (suc zero)) l h = refl
signed_term-above (pos (suc (suc n))) l h = refl
signed_term-above (negsuc n) l h = absurd (cc)

pub signed_term-below : (z : ℤ) (l : ℕ) → lt_z z (pos 0) ≡ true → sum_text (letter_text z l) ≡ letter_text z l
unfolding sum_text letter_text
signed_term-below (pos zero) l h = absurd (cc)
signed_term-below (pos (suc n)) l h = absurd (not_below n h)
signed_term-below (negsuc zero) l h = refl
signed_term-below (negsuc (suc n)) l h = refl

pub signed_term-neither : (z : ℤ) (l : ℕ) → lt_z (pos 0) z ≡ false → lt_z z (pos 0) ≡ false → [] ≡ letter_text z l
unfolding letter_text
signed_term-neither (pos zero) l h k = refl
signed_term-neither (pos (suc n)) l h k = absurd (above n h)
signed_term-neither (negsuc n) l h k = absurd (cc)

pub signed_fraction-above : (z : ℤ) (b : ℕ) → lt_z (pos 0) z ≡ true → 43 ∷ fraction_text z b ≡ signed_fraction z b
unfolding signed_fraction
signed_fraction-above (pos zero) b h = absurd (cc)
signed_fraction-above (pos (suc n)) b h = refl
signed_fraction-above (negsuc n) b h = absurd (cc)

pub signed_fraction-below : (z : ℤ) (b : ℕ) → lt_z z (pos 0) ≡ true → fraction_text z b ≡ signed_fraction z b
unfolding signed_fraction
signed_fraction-below (pos zero) b h = absurd (cc)
signed_fraction-below (pos (suc n)) b h = absurd (not_below n h)
signed_fraction-below (negsuc n) b h = refl

pub signed_fraction-neither : (z : ℤ) (b : ℕ) → lt_z (pos 0) z ≡ false → lt_z z (pos 0) ≡ false → [] ≡ signed_fraction z b
unfolding signed_fraction
signed_fraction-neither (pos zero) b h k = refl
signed_fraction-neither (pos (suc n)) b h k = absurd (above n h)
signed_fraction-neither (negsuc n) b h k = absurd (cc)

pub sum_text-front : (z : ℤ) (l : ℕ) (rest : List ℕ) → ¬ (z ≡ pos 0) → sum_text (letter_text z l) ++ rest ≡ sum_text (letter_text z l ++ rest)
unfolding sum_text letter_text
sum_text-front (pos zero) l rest h = absurd (h refl)
sum_text-front (pos (suc zero)) l rest h = refl
sum_text-front (pos (suc (suc n))) l rest h = refl
sum_text-front (negsuc zero) l rest h = refl
sum_text-front (negsuc (suc n)) l rest h = refl

-- the rest, grouped as the definition groups it
pub regroup : (x y z q : List ℕ) → x ++ (y ++ (z ++ q)) ≡ x ++ y ++ z ++ q
regroup x y z q = simp append_assoc

regroup_two : (y z q : List ℕ) → y ++ (z ++ q) ≡ y ++ z ++ q
regroup_two y z q = simp append_assoc

pub terms-x : (x y z a : ℤ) (b : ℕ) → ¬ (x ≡ pos 0) → sum_text (letter_text x 120) ++ (letter_text y 121 ++ (letter_text z 122 ++ signed_fraction a b)) ≡ terms_text x y z a b
unfolding terms_text
terms-x x y z a b h = sum_text-front x 120 (letter_text y 121 ++ (letter_text z 122 ++ signed_fraction a b)) h ∙ ap sum_text (regroup (letter_text x 120) (letter_text y 121) (letter_text z 122) (signed_fraction a b))

pub terms-y : (x y z a : ℤ) (b : ℕ) → x ≡ pos 0 → ¬ (y ≡ pos 0) → sum_text (letter_text y 121) ++ (letter_text z 122 ++ signed_fraction a b) ≡ terms_text x y z a b
unfolding terms_text letter_text
terms-y x y z a b e h = sum_text-front y 121 (letter_text z 122 ++ signed_fraction a b) h ∙ ap sum_text (regroup_two (letter_text y 121) (letter_text z 122) (signed_fraction a b)) ∙ ap (λ c. terms_text c y z a b) (sym e)

pub terms-z : (x y z a : ℤ) (b : ℕ) → x ≡ pos 0 → y ≡ pos 0 → ¬ (z ≡ pos 0) → sum_text (letter_text z 122) ++ signed_fraction a b ≡ terms_text x y z a b
unfolding terms_text letter_text
terms-z x y z a b e f h = sum_text-front z 122 (signed_fraction a b) h ∙ ap₂ (λ c d. terms_text c d z a b) (sym e) (sym f)

minus_stays : (t : Bool) (xs ys : List ℕ) → (if t then 45 ∷ xs else (45 ∷ ys)) ≡ sum_text (if t then 45 ∷ xs else (45 ∷ ys))
unfolding sum_text
minus_stays true xs ys = refl
minus_stays false xs ys = refl

-- a constant by itself
alone : (a : ℤ) (b : ℕ) → IsLowest a b → fraction_text a b ≡ sum_text (signed_fraction a b)
unfolding sum_text signed_fraction
alone (pos zero) b low = ap (fraction_text (pos zero)) (low.lowest b (Nat.dvd_refl b) (Nat.dvd-zero b)) ∙ decimal_digit 0 (omega arith)
alone (pos (suc n)) b low = refl
alone (negsuc n) b low = minus_stays (nat_eq b 1) (decimal (suc n)) (decimal (suc n) ++ 47 ∷ decimal b)

terms-none : (x y z a : ℤ) (b : ℕ) → IsLowest a b → x ≡ pos 0 → y ≡ pos 0 → z ≡ pos 0 → fraction_text a b ≡ terms_text x y z a b
unfolding terms_text letter_text
terms-none x y z a b low e f g = alone a b low ∙ ap₂ (λ c d. terms_text c d (pos 0) a b) (sym e) (sym f) ∙ ap (λ c. terms_text x y c a b) (sym g)

pub terms-component : (rot : List (List ℤ)) (num : List ℤ) (den : ℕ) (i : ℕ) (a : ℤ) (b : ℕ) → IsLowest a b → ratio a b ≡ ratio (slice_index_or num i (pos 0)) den → (p : Fin 3) → to_nat p ≡ i
    → terms_text (slice_index_or (slice_index_or rot i []) 0 (pos 0)) (slice_index_or (slice_index_or rot i []) 1 (pos 0)) (slice_index_or (slice_index_or rot i []) 2 (pos 0)) a b
    ≡ component_text (record { rotation = rotation_of rot; vector = vector_of num den }) p
unfolding terms_text component_text rotation_of vector_of component ratios to_nat
terms-component rot num den i a b low same p e = subst (λ j. ratio a b ≡ ratio (slice_index_or num j (pos 0)) den
    → terms_text (slice_index_or (slice_index_or rot j []) 0 (pos 0)) (slice_index_or (slice_index_or rot j []) 1 (pos 0)) (slice_index_or (slice_index_or rot j []) 2 (pos 0)) a b
    ≡ component_text (record { rotation = rotation_of rot; vector = vector_of num den }) p) e at_place same
  where
    at_place : ratio a b ≡ ratio (slice_index_or num (to_nat p) (pos 0)) den
        → terms_text (slice_index_or (slice_index_or rot (to_nat p) []) 0 (pos 0)) (slice_index_or (slice_index_or rot (to_nat p) []) 1 (pos 0)) (slice_index_or (slice_index_or rot (to_nat p) []) 2 (pos 0)) a b
        ≡ component_text (record { rotation = rotation_of rot; vector = vector_of num den }) p
    at_place s = ap₂ (terms_text (slice_index_or (slice_index_or rot (to_nat p) []) 0 (pos 0)) (slice_index_or (slice_index_or rot (to_nat p) []) 1 (pos 0)) (slice_index_or (slice_index_or rot (to_nat p) []) 2 (pos 0)))
        (sym (numerator-lowest a b low) ∙ ap numerator s) (sym (denominator-lowest a b low) ∙ ap (denominator 1) s)

-- what a test on the machine's form of a number says
pub is_tested : (z t : ℤ) (n : ℕ) → SFits w16 z → to_z w16 n ≡ t → of_z w16 z ≡ n → z ≡ t
is_tested z t n fits e h = sym (to_z-of_z w16 z fits) ∙ ap (to_z w16) h ∙ e

pub not_tested : (z t : ℤ) (n : ℕ) → of_z w16 t ≡ n → (of_z w16 z ≡ n → ⊥) → ¬ (z ≡ t)
not_tested z t n e h same = h (ap (of_z w16) same ∙ e)

-- the same of what the machine read
module _ (x y z tx ty tz a : ℤ) (b : ℕ) (ex : tx ≡ x) (ey : ty ≡ y) (ez : tz ≡ z) where
  kept : terms_text tx ty tz a b ≡ terms_text x y z a b
  kept = ap₂ (λ c d. terms_text c d tz a b) ex ey ∙ ap (λ c. terms_text x y c a b) ez

  pub kept-x : (of_z w16 tx ≡ 0 → ⊥) → sum_text (letter_text tx 120) ++ (letter_text ty 121 ++ (letter_text tz 122 ++ signed_fraction a b)) ≡ terms_text x y z a b
  kept-x h = terms-x tx ty tz a b (not_tested tx (pos 0) 0 refl h) ∙ kept

  pub kept-y : SFits w16 x → of_z w16 tx ≡ 0 → (of_z w16 ty ≡ 0 → ⊥) → sum_text (letter_text ty 121) ++ (letter_text tz 122 ++ signed_fraction a b) ≡ terms_text x y z a b
  kept-y fx e h = terms-y tx ty tz a b (is_tested tx (pos 0) 0 (subst (SFits w16) (sym ex) fx) refl e) (not_tested ty (pos 0) 0 refl h) ∙ kept

  pub kept-z : SFits w16 x → SFits w16 y → of_z w16 tx ≡ 0 → of_z w16 ty ≡ 0 → (of_z w16 tz ≡ 0 → ⊥) → sum_text (letter_text tz 122) ++ signed_fraction a b ≡ terms_text x y z a b
  kept-z fx fy e f h = terms-z tx ty tz a b (is_tested tx (pos 0) 0 (subst (SFits w16) (sym ex) fx) refl e) (is_tested ty (pos 0) 0 (subst (SFits w16) (sym ey) fy) refl f) (not_tested tz (pos 0) 0 refl h) ∙ kept

  pub kept-none : SFits w16 x → SFits w16 y → SFits w16 z → IsLowest a b → of_z w16 tx ≡ 0 → of_z w16 ty ≡ 0 → of_z w16 tz ≡ 0 → fraction_text a b ≡ terms_text x y z a b
  kept-none fx fy fz low e f h = terms-none tx ty tz a b low (is_tested tx (pos 0) 0 (subst (SFits w16) (sym ex) fx) refl e) (is_tested ty (pos 0) 0 (subst (SFits w16) (sym ey) fy) refl f)
      (is_tested tz (pos 0) 0 (subst (SFits w16) (sym ez) fz) refl h) ∙ kept

pub triplet_text-components : (g : Operation) (x y z : List ℕ) → x ≡ component_text g first → y ≡ component_text g (next first) → z ≡ component_text g (next (next first))
    → x ++ (44 ∷ (y ++ (44 ∷ z))) ≡ triplet_text g
unfolding triplet_text
triplet_text-components g x y z ex ey ez = sym (append_assoc x (44 ∷ y) (44 ∷ z)) ∙ ap₂ (λ s t. s ++ 44 ∷ t) (ap₂ (λ s t. s ++ 44 ∷ t) ex ey) ez
