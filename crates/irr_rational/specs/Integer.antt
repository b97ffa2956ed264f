-- Whole numbers in a ring.
--   integer R k   the whole number k of the ring R
--   whole_matrix  a matrix of whole numbers, seen over R
use Rattle.std.specs.Prelude.{ℕ, ℤ, suc, pos, negsuc}
use Rattle.irr_algebra.specs.Ring.{Ring, whole}
use Rattle.irr_algebra.specs.Matrix.{Matrix}
use Rattle.irr_number.specs.Integers.{integers}

-- k ones added up, or the negative of -k ones
unfoldable pub integer : (R : Ring) → ℤ → R.Carrier
integer R (pos n) = whole R n
integer R (negsuc n) = R.neg (whole R (suc n))

-- the whole number at each entry
unfoldable pub whole_matrix : (R : Ring) {m n : ℕ} → Matrix integers m n → Matrix R m n
whole_matrix R a = record { at = λ i j. integer R (a.at i j) }
