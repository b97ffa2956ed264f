-- The forms of kept numbers.
--   form_of, form_at     what a number keeps is a form, also at an order that is equal
use Rattle.std.proofs.Common.{◌≡◌, subst, ℕ}
use Rattle.irr_sparse.specs.declared.numbers.Sparse.{Sparse}
use Rattle.irr_sparse.proofs.Arithmetic.{IsForm}

pub form_of : (x : Sparse) → IsForm x.n x.terms.items x.den
form_of x = record { some = x.some; positive = x.positive; terms = x.canonical; lowest = x.lowest }

pub form_at : (x : Sparse) (n : ℕ) → x.n ≡ n → IsForm n x.terms.items x.den
form_at x n e = subst (λ m. IsForm m x.terms.items x.den) e (form_of x)
