-- Sums of roots of eigenvalues in the program.
--   IsSmall order value n s x        a number of order n, and a sum of at most s powers of z with signs
--   AreSmall order value n s xs      such numbers
--   HasRootSums R z p m es xs        each sum of one p-th root of z^e for each e of es is among the numbers; m is the order of z divided by p
use Rattle.std.specs.Prelude.{ℕ, ◌≡◌, List, All, Contains}
use Rattle.irr_algebra.specs.Ring.{Ring}
use Rattle.irr_number.specs.Number.{Number}
use Rattle.irr_canonical.specs.RootSum.{IsRootSum}
use Rattle.irr_extension.specs.Exponents.{AddsUpRoots}

-- few powers of z
pub record IsSmall {S : Type 0} (order : S → ℕ) (value : (n : ℕ) → S → Number n) (n s : ℕ) (x : S) : Type 0 where
  pub has_order : order x ≡ n
  pub few : IsRootSum n s 1 (value n x)

-- each of them
abbrev pub AreSmall : {S : Type 0} (order : S → ℕ) (value : (n : ℕ) → S → Number n) (n s : ℕ) → List S → Type 0
AreSmall order value n s xs = All (IsSmall order value n s) xs

-- all sums are there
abbrev pub HasRootSums : (R : Ring) (z : R.Carrier) (p m : ℕ) → List ℕ → List R.Carrier → Type 0
HasRootSums R z p m es xs = (s : R.Carrier) → AddsUpRoots R z p m es s → Contains xs s
