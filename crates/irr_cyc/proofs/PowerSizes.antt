-- The size and denominator of a power of z.
--   power-size, power-denominator
use Rattle.std.proofs.Common.{◌≡◌, sym, subst, ℕ, ℤ, ◌<◌, ◌≤◌, List, arith}
use Rattle.irr_number.specs.Number.{root_power}
use Rattle.irr_canonical.specs.Coefficient.{denominator, number_of, size}
use Rattle.irr_canonical.specs.RootSum.{IsRootSum}
use Rattle.irr_canonical.proofs.RootSizes.{denominator_of_IsRootSum, size_of_IsRootSum}
use Rattle.irr_canonical.proofs.RootSums.{IsRootSum-root}
use Rattle.irr_cyc.proofs.Divisors.{one_of_dvd}

module _ (n m j : ℕ) (xs : List ℤ) (d : ℕ) (e : n ≡ m) (p : 0 < m) (is : number_of m xs d ≡ root_power m j) where
  sum : IsRootSum m 1 1 (number_of m xs d)
  sum = subst (IsRootSum m 1 1) (sym is) (IsRootSum-root m j)

  pub power-size : size n (number_of n xs d) ≤ m
  power-size = subst (λ k. size k (number_of k xs d) ≤ m) (sym e) (omega (arith, size_of_IsRootSum m p 1 1 (number_of m xs d) sum))

  pub power-denominator : denominator n (number_of n xs d) ≡ 1
  power-denominator = subst (λ k. denominator k (number_of k xs d) ≡ 1) (sym e) (one_of_dvd (denominator m (number_of m xs d)) (denominator_of_IsRootSum m p 1 1 (number_of m xs d) sum))
