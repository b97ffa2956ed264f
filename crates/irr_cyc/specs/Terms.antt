-- Numbers from lists of terms, and the terms of a number.
--   terms_sum N ts         the sum of c z^j for each (j, c) of the list
--   terms_at ts k          the sum of the coefficients of the terms of z^k
--   nonzero_terms n f      (j, f j) for each j below n at which f is not 0, in increasing order of j
use Rattle.std.specs.Prelude.{ℕ, ℤ, zero, suc, pos, negsuc, List, [], ◌∷◌, ◌++◌, ◌+ℤ◌, ◌*ℤ◌}
use Rattle.irr_number.specs.Element.{delta}
use Rattle.irr_number.specs.Integers.{integers}
use Rattle.irr_number.specs.Number.{Number, numbers, root_power}
use Rattle.irr_rational.specs.Integer.{integer}

-- each coefficient times its power of z, added up
unfoldable pub terms_sum : (N : ℕ) → List (ℕ × ℤ) → Number N
terms_sum N [] = (numbers N).zero
terms_sum N (t ∷ ts) = (numbers N).add ((numbers N).mul (integer (numbers N) t.1) (root_power N t.0)) (terms_sum N ts)

-- the term of z^j with the coefficient c, left out where c is 0
unfoldable pub term : ℕ → ℤ → List (ℕ × ℤ)
term j (pos zero) = []
term j (pos (suc c)) = (j, pos (suc c)) ∷ []
term j (negsuc c) = (j, negsuc c) ∷ []

-- the terms with exponents below n
unfoldable pub nonzero_terms : ℕ → (ℕ → ℤ) → List (ℕ × ℤ)
nonzero_terms zero f = []
nonzero_terms (suc n) f = nonzero_terms n f ++ term n (f n)

-- the coefficients of z^k, added up
unfoldable pub terms_at : List (ℕ × ℤ) → ℕ → ℤ
terms_at [] k = pos 0
terms_at (t ∷ ts) k = (t.1 *ℤ delta integers t.0 k) +ℤ terms_at ts k
