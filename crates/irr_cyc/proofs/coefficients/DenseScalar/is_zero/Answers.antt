-- A number is 0 exactly where its coefficients are zeros, and else it has an inverse.
use Rattle.std.proofs.Common.{◌≡◌, subst, ℕ, ℤ, pos, ◌<◌, ◌↔◌, Bool, true, false, IsTrue, IsFalse, List, length, rules}
use Rattle.irr_algebra.specs.Ring.{IsInvertible}
use Rattle.irr_algebra.proofs.Fields.{invertible_of_ne-zero}
use Rattle.irr_algebra.proofs.Rings.{invertible-ne-zero}
use Rattle.irr_number.specs.Number.{numbers}
use Rattle.irr_number.proofs.NumberField.{number_field}
use Rattle.irr_number.proofs.Numbers.{one-ne-zero}
use Rattle.irr_canonical.specs.Coefficient.{number_of}
use Rattle.irr_cyc.specs.Form.{IsForm, at}
use Rattle.irr_cyc.proofs.Values.{zero-coefficients, zeros-value}
use Rattle.irr_cyc.proofs.coefficients.DenseScalar.is_zero.Goals as goal

zero-test : (slice xs : List ℤ) (d : ℕ) (b : Bool) → IsForm xs d → slice ≡ xs → IsTrue b ↔ ((j : ℕ) → j < length slice → at slice j ≡ pos 0) → IsTrue b ↔ (number_of (length xs) xs d ≡ (numbers (length xs)).zero)
zero-test slice xs d b f e t =
    let s : IsTrue b ↔ ((j : ℕ) → j < length xs → at xs j ≡ pos 0) = subst (λ (ys : List ℤ). IsTrue b ↔ ((j : ℕ) → j < length ys → at ys j ≡ pos 0)) e t in
    (λ h. zeros-value (length xs) xs d f.positive (s.0 h), λ h. s.1 (zero-coefficients xs d f h))

is-false : (b : Bool) → (IsTrue b → ⊥) → IsFalse b
is-false true h = absurd (h (search rules))
is-false false h = search rules

not-true : (b : Bool) → IsFalse b → IsTrue b → ⊥
not-true true f t = search rules
not-true false f t = search rules

inverse-test : (xs : List ℤ) (d : ℕ) (b : Bool) → IsForm xs d → IsTrue b ↔ (number_of (length xs) xs d ≡ (numbers (length xs)).zero) → IsFalse b ↔ IsInvertible (numbers (length xs)) (number_of (length xs) xs d)
inverse-test xs d b f t = (
  λ h. invertible_of_ne-zero (number_field (length xs) f.some) (number_of (length xs) xs d) (λ z. not-true b h (t.1 z)),
  λ h. is-false b (λ s. invertible-ne-zero (numbers (length xs)) (one-ne-zero (length xs) f.some) h (t.0 s)),
)

pub returns-clause-zero : goal.returns-clause-zero
returns-clause-zero c = zero-test c.as_slice.result.now c.args.self.now.coefficients.items c.args.self.now.den c.are_zeros.result c.args.self.now.form c.as_slice.ensures.value c.are_zeros.ensures

pub returns-clause-inverse : goal.returns-clause-inverse
returns-clause-inverse c = inverse-test c.args.self.now.coefficients.items c.args.self.now.den c.are_zeros.result c.args.self.now.form
    (zero-test c.as_slice.result.now c.args.self.now.coefficients.items c.args.self.now.den c.are_zeros.result c.args.self.now.form c.as_slice.ensures.value c.are_zeros.ensures)
