-- The sum of the terms of the sites, from rows that are one at the places of the site group.
--   same_term, same_sum
use Rattle.std.proofs.Common.{◌≡◌, sym, ◌∙◌, ap, ap₂, refl, ℕ, zero, suc, ◌<◌, List, length, get_or, arith}
use Rattle.std.specs.Prelude.{Option, Some, None}
use Rattle.irr_algebra.specs.Listed.{sum_below}
use Rattle.irr_algebra.specs.Ring.{Ring}
use Rattle.irr_number.specs.Number.{Number, numbers, root_power}
use Rattle.irr_site.specs.Traces.{AreRestsWithin, FitsIn, IsSumOf, number_at, rest_term}
use Rattle.irr_site.specs.declared.rest.Rest.{Rest}

below_same : (R : Ring) (n : ℕ) (f g : ℕ → R.Carrier) → ((a : ℕ) → a < n → f a ≡ g a) → sum_below R n f ≡ sum_below R n g
unfolding sum_below
below_same R zero f g e = refl
below_same R (suc n) f g e = ap₂ R.add (below_same R n f g (λ a l. e a (omega (arith, l)))) (e n (omega arith))

module _ (n : ℕ) (xs ys : List (Number n)) (h : ℕ) (agree : (p : ℕ) → p < h → number_at n xs p ≡ number_at n ys p) where
  same_term : (r : Option Rest) → FitsIn n h r → rest_term n xs r ≡ rest_term n ys r
  unfolding FitsIn rest_term
  same_term (Some q) fits = ap ((numbers n).mul (root_power n q.exponent)) (agree q.place fits.1)
  same_term None fits = refl

  pub same_sum : (rs : List (Option Rest)) → AreRestsWithin n h rs → (c : Number n) → IsSumOf n xs rs c → IsSumOf n ys rs c
  same_sum rs fit c is = is ∙ below_same (numbers n) (length rs) (λ a. rest_term n xs (get_or rs a None)) (λ a. rest_term n ys (get_or rs a None))
      (λ a l. same_term (get_or rs a None) (fit a None l))
