-- The printed form of 0.
--   zero-word     a blank and the digit 0
use Rattle.std.proofs.Common.{◌≡◌, refl, sym, ◌∙◌, ap, ap₂, ℕ, ℤ, zero, suc, pos, ◌<◌, [], ◌++◌, arith}
use native.Mathlib.Nat as Nat
use Rattle.std.specs.Prelude.{codes}
use Rattle.std.specs.List.{flat_map}
use Rattle.irr_number.specs.Algebra.{at-element}
use Rattle.irr_number.specs.Element.{Element}
use Rattle.irr_number.specs.Fraction.{Fraction}
use Rattle.irr_number.specs.Number.{numbers}
use Rattle.irr_canonical.specs.Coefficient.{canonical, denominator, over}
use Rattle.irr_canonical.proofs.Forms.{canonical-number}
use Rattle.irr_canonical.proofs.Operations.{IsCanonical-over, over-zero}
use Rattle.irr_text.specs.NumberText.{number_text, sum_text}
use Rattle.irr_text.specs.ReportText.{next_word}
use Rattle.irr_cyc.specs.Terms.{nonzero_terms, term}
use Rattle.irr_numeral.proofs.PrintedTerms.{written, number_text-terms}

-- the coefficients of 0
none : ℕ → ℤ
none j = pos 0

no_terms : (n : ℕ) (f : ℕ → ℤ) → ((j : ℕ) → j < n → f j ≡ pos 0) → nonzero_terms n f ≡ []
unfolding nonzero_terms term
no_terms zero f h = refl
no_terms (suc n) f h = ap₂ (λ xs c. xs ++ term n c) (no_terms n f (λ j l. h j (omega arith))) (h n (omega arith))

canonical-zero : (n : ℕ) → 0 < n → (j : ℕ) → j < n → (canonical n (numbers n).zero).num.at j ≡ pos 0
unfolding none
canonical-zero n h j l =
    let p : 0 < 1 = omega arith in
    let form = IsCanonical-over n none 1 p (λ j lt out. refl) (λ c v each. Nat.dvd_antisymm v (Nat.one-dvd c)) in
    ap (λ x. (canonical n x).num.at j) (sym (over-zero n none 1 p (λ j lt. refl)))
    ∙ ap (λ (a : Fraction (Element n)). a.num.at j) (canonical-number n h (over n none 1 p) form) ∙ at-element n none j l

pub zero-word : (n : ℕ) → 0 < n → next_word (number_text n (numbers n).zero) ≡ codes " 0"
unfolding sum_text
zero-word n h = ap next_word (number_text-terms n (numbers n).zero
    ∙ ap (λ ts. sum_text (flat_map (written (denominator n (numbers n).zero)) ts)) (no_terms n (canonical n (numbers n).zero).num.at (canonical-zero n h)))
