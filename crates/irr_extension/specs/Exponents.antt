-- Roots of eigenvalues that are powers of z, by their exponents.
--   times_in: how often a number stands in a list
--   AddsUpRoots: a sum of one p-th root of z^e for each exponent e of a list
use Rattle.std.specs.Prelude.{ℕ, ◌≡◌, ◌+◌, ◌*◌, ◌/◌, List, [], ◌∷◌, count_by, nat_eq}
use Rattle.irr_algebra.specs.Ring.{Ring}
use Rattle.irr_algebra.specs.Fin.{Fin, to_nat}
use Rattle.irr_eigen.specs.Power.{power}

-- how often e stands in the list
abbrev pub times_in : ℕ → List ℕ → ℕ
times_in e es = count_by (λ f. nat_eq f e) es

-- each e of the list is a multiple of p, and s adds up for each e one number z^(e / p + j m), with j below p
unfoldable pub AddsUpRoots : (R : Ring) → R.Carrier → ℕ → ℕ → List ℕ → R.Carrier → Type 0
AddsUpRoots R z p m [] s = s ≡ R.zero
AddsUpRoots R z p m (e ∷ es) s =
    (e / p * p ≡ e) × (j : Fin p) × (rest : R.Carrier) × (s ≡ R.add (power R z (e / p + to_nat j * m)) rest) × AddsUpRoots R z p m es rest
