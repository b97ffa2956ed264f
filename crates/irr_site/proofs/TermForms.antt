-- The term of a site, by whether something is left there.
--   fits_some, term_some, term_none
use Rattle.std.proofs.Common.{◌≡◌, sym, ◌∙◌, ap, subst, refl, ℕ, List}
use Rattle.std.specs.Prelude.{Option, Some, None}
use Rattle.irr_number.specs.Number.{Number, numbers, root_power}
use Rattle.irr_site.specs.Traces.{FitsIn, FitsRow, number_at, rest_term}
use Rattle.irr_site.specs.declared.rest.Rest.{Rest}

pub fits_some : (n h : ℕ) (r : Option Rest) (q : Rest) → r ≡ Some q → FitsIn n h r → FitsRow n h q
unfolding FitsIn
fits_some n h r q e f = subst (FitsIn n h) e f

pub term_some : (n : ℕ) (xs : List (Number n)) (r : Option Rest) (q : Rest) → r ≡ Some q
    → rest_term n xs r ≡ (numbers n).mul (root_power n q.exponent) (number_at n xs q.place)
unfolding rest_term
term_some n xs r q e = ap (rest_term n xs) e

pub term_none : (n : ℕ) (xs : List (Number n)) (r : Option Rest) → r ≡ None → rest_term n xs r ≡ (numbers n).zero
unfolding rest_term
term_none n xs r e = ap (rest_term n xs) e
