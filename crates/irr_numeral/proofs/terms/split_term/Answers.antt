-- The numerator, then a denominator if a slash follows, then an exponent if *z^ follows.
use Rattle.std.proofs.Common.{◌≡◌, ◌≢◌, ◌∙◌, sym, List, [], ℕ, Some, None, Option, ◌++◌, ◌∷◌, IfSome}
use Rattle.std.specs.Option.{option_copied}
use Rattle.std.specs.Str.Parse.{AllDigits}
use Rattle.irr_digits.specs.DigitRun.{BeginsWithDigit}
use Rattle.irr_numeral.specs.Split.{IsBehindTerm}
use Rattle.irr_numeral.specs.WrittenNumber.{IsDenominator, IsWhole, quotient_text, exponent_text}
use Rattle.irr_numeral.proofs.Splits.{digits_of_whole, digits_of_denominator, no_digit-quotient, no_digit-exponent, no_digit-behind, no_slash, no_star, regrouped}
use Rattle.irr_numeral.proofs.terms.split_term.Goals as goal

abbrev IsMarked : List ℕ → List ℕ → Option (List ℕ) → List ℕ → Type 0
IsMarked mark text r b = ((digits rest : List ℕ) → AllDigits 10 digits → ¬ (BeginsWithDigit rest) → text ≡ mark ++ (digits ++ rest) → (r ≡ Some digits) × (b ≡ rest))

abbrev IsUnmarked : List ℕ → List ℕ → Option (List ℕ) → List ℕ → Type 0
IsUnmarked mark text r b = ((rest : List ℕ) → text ≢ mark ++ rest) → (r ≡ None) × (b ≡ text)

denominator_of : (o e : Option (List ℕ)) (ys text b : List ℕ) (r : Option (List ℕ)) → IfSome o IsDenominator → IsBehindTerm ys → IsMarked (47 ∷ []) text r b → IsUnmarked (47 ∷ []) text r b
    → text ≡ quotient_text o ++ (exponent_text e ++ ys) → (r ≡ o) × (b ≡ exponent_text e ++ ys)
denominator_of None e ys text b r is behind m u h = let p = u (λ zs f. no_slash e ys zs behind (sym h ∙ f)) in (p.0, p.1 ∙ h)
denominator_of (Some ds) e ys text b r is behind m u h = m ds (exponent_text e ++ ys) (digits_of_denominator ds is) (no_digit-exponent e ys behind) h

exponent_of : (o : Option (List ℕ)) (ys text b : List ℕ) (r : Option (List ℕ)) → IfSome o IsWhole → IsBehindTerm ys → IsMarked (42 ∷ 122 ∷ 94 ∷ []) text r b → IsUnmarked (42 ∷ 122 ∷ 94 ∷ []) text r b
    → text ≡ exponent_text o ++ ys → (r ≡ o) × (b ≡ ys)
exponent_of None ys text b r is behind m u h = let p = u (λ zs f. no_star ys (122 ∷ 94 ∷ zs) behind (sym h ∙ f)) in (p.0, p.1 ∙ h)
exponent_of (Some ds) ys text b r is behind m u h = m ds ys (digits_of_whole ds is) (no_digit-behind ys behind) h

pub returns : goal.returns
returns c = λ t rest is behind e.
    let num = c.split_digits.ensures t.numerator (quotient_text t.denominator ++ (exponent_text t.exponent ++ rest)) (digits_of_whole t.numerator is.numerator) (no_digit-quotient t.denominator t.exponent rest behind) (e ∙ regrouped t rest) in
    let den = denominator_of t.denominator t.exponent rest c.split_digits.result.1.now c.split_marked.result.1.now (option_copied c.split_marked.result.0) is.denominator behind c.split_marked.ensures.marked c.split_marked.ensures.unmarked num.1 in
    let exp = exponent_of t.exponent rest c.split_marked.result.1.now c.split_marked-2.result.1.now (option_copied c.split_marked-2.result.0) is.exponent behind c.split_marked-2.ensures.marked c.split_marked-2.ensures.unmarked den.1 in
    record { numerator = num.0; denominator = den.0; exponent = exp.0; rest = exp.1 }
