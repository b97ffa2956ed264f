-- The terms are those of the canonical form.
use Rattle.std.proofs.Common.{◌≡◌, refl, sym, ◌∙◌, ap, ℕ, ℤ, suc, zero, ◌<◌, ◌++◌, List, length, arith}
use Rattle.irr_number.specs.Algebra.{at-element}
use Rattle.irr_number.specs.Element.{Element}
use Rattle.irr_number.specs.Fraction.{Fraction}
use Rattle.irr_canonical.specs.Coefficient.{canonical, number_of}
use Rattle.irr_cyc.specs.Form.{IsForm, at}
use Rattle.irr_cyc.specs.Terms.{nonzero_terms, term}
use Rattle.irr_cyc.proofs.Values.{form-coefficients, form-denominator}
use Rattle.irr_cyc.proofs.coefficients.DenseScalar.canonical.Goals as goal

-- terms of equal coefficients
terms-cong : (n : ℕ) (f g : ℕ → ℤ) → ((j : ℕ) → j < n → f j ≡ g j) → nonzero_terms n f ≡ nonzero_terms n g
unfolding nonzero_terms
terms-cong zero f g h = refl
terms-cong (suc n) f g h = λ i. terms-cong n f g (λ j lt. h j (omega arith)) i ++ term n (h n (omega arith) i)

terms-of : (slice xs : List ℤ) (d : ℕ) → IsForm xs d → slice ≡ xs → nonzero_terms (length slice) (at slice) ≡ nonzero_terms (length xs) (canonical (length xs) (number_of (length xs) xs d)).num.at
terms-of slice xs d f e =
    ap (λ ys. nonzero_terms (length ys) (at ys)) e
    ∙ terms-cong (length xs) (at xs) (canonical (length xs) (number_of (length xs) xs d)).num.at (λ j lt.
    sym (ap (λ (a : Fraction (Element (length xs))). a.num.at j) (form-coefficients xs d f) ∙ at-element (length xs) (at xs) j lt))

pub returns-clause-denominator : goal.returns-clause-denominator
returns-clause-denominator c = sym (form-denominator c.args.self.now.coefficients.items c.args.self.now.den c.args.self.now.form)

pub returns-clause-terms : goal.returns-clause-terms
returns-clause-terms c = c.in_ok-terms.ensures ∙ terms-of c.as_slice.result.now c.args.self.now.coefficients.items c.args.self.now.den c.args.self.now.form c.as_slice.ensures.value
