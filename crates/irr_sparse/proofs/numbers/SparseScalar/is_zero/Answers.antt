-- A number is 0 exactly where it has no terms, and else it has an inverse.
use Rattle.std.proofs.Common.{◌≡◌, ◌∙◌, ap, rules, ℕ, ℤ, ◌↔◌, Bool, true, false, ◌==◌, IsTrue, IsFalse, List, length, arith}
use Rattle.std.proofs.lemmas.Grind.{common_steps}
use Rattle.std.proofs.lemmas.List.{nil_from_length}
use Rattle.irr_algebra.specs.Ring.{IsInvertible}
use Rattle.irr_algebra.proofs.Fields.{invertible_of_ne-zero}
use Rattle.irr_algebra.proofs.Rings.{invertible-ne-zero}
use Rattle.irr_number.specs.Number.{numbers}
use Rattle.irr_number.proofs.NumberField.{number_field}
use Rattle.irr_number.proofs.Numbers.{one-ne-zero}
use Rattle.irr_sparse.specs.Value.{value_of}
use Rattle.irr_sparse.proofs.Arithmetic.{IsForm}
use Rattle.irr_sparse.proofs.Forms.{zero-terms}
use Rattle.irr_sparse.proofs.FormsOf.{form_of}
use Rattle.irr_sparse.proofs.Values.{value-none}
use Rattle.irr_sparse.proofs.numbers.SparseScalar.is_zero.Goals as goal

is-false : (b : Bool) → (IsTrue b → ⊥) → IsFalse b
is-false true h = absurd (h (search rules))
is-false false h = search rules

not-true : (b : Bool) → IsFalse b → IsTrue b → ⊥
not-true true f t = search rules
not-true false f t = search rules

no-items : (n : ℕ) (b : Bool) → b ≡ (n == 0) → IsTrue b → n ≡ 0
no-items n b e t = grind (arith, common_steps)

is-empty : (n : ℕ) (b : Bool) → b ≡ (n == 0) → n ≡ 0 → IsTrue b
is-empty n b e z = grind (arith, common_steps)

zero-test : (n : ℕ) (ts : List (ℕ × ℤ)) (d : ℕ) (b : Bool) → IsForm n ts d → b ≡ (length ts == 0) → IsTrue b ↔ (value_of n ts d ≡ (numbers n).zero)
zero-test n ts d b f e = (
  λ t. ap (λ (us : List (ℕ × ℤ)). value_of n us d) (nil_from_length ts (no-items (length ts) b e t)) ∙ value-none n d f.positive,
  λ z. is-empty (length ts) b e (ap length (zero-terms n f.some ts d f.positive f.terms f.lowest z)),
)

inverse-test : (n : ℕ) (ts : List (ℕ × ℤ)) (d : ℕ) (b : Bool) → IsForm n ts d → b ≡ (length ts == 0) → IsFalse b ↔ IsInvertible (numbers n) (value_of n ts d)
inverse-test n ts d b f e = (
  λ h. invertible_of_ne-zero (number_field n f.some) (value_of n ts d) (λ z. not-true b h ((zero-test n ts d b f e).1 z)),
  λ h. is-false b (λ s. invertible-ne-zero (numbers n) (one-ne-zero n f.some) h ((zero-test n ts d b f e).0 s)),
)

pub returns-clause-zero : goal.returns-clause-zero
returns-clause-zero c = let e : c.is_empty.result ≡ (length c.args.self.now.terms.items == 0) = (let l = c.is_empty.ensures in search rules) in
    zero-test c.args.self.now.n c.args.self.now.terms.items c.args.self.now.den c.is_empty.result (form_of c.args.self.now) e

pub returns-clause-inverse : goal.returns-clause-inverse
returns-clause-inverse c = let e : c.is_empty.result ≡ (length c.args.self.now.terms.items == 0) = (let l = c.is_empty.ensures in search rules) in
    inverse-test c.args.self.now.n c.args.self.now.terms.items c.args.self.now.den c.is_empty.result (form_of c.args.self.now) e
