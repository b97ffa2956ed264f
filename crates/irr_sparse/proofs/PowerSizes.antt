-- The size and denominator of a power of z.
--   power-size, power-denominator
use Rattle.std.proofs.Common.{◌≡◌, sym, subst, ℕ, ℤ, ◌<◌, ◌≤◌, List, arith}
use Rattle.irr_number.specs.Number.{root_power}
use Rattle.irr_canonical.specs.Coefficient.{denominator, size}
use Rattle.irr_canonical.specs.RootSum.{IsRootSum}
use Rattle.irr_canonical.proofs.RootSizes.{denominator_of_IsRootSum, size_of_IsRootSum}
use Rattle.irr_canonical.proofs.RootSums.{IsRootSum-root}
use Rattle.irr_cyc.proofs.Divisors.{one_of_dvd}
use Rattle.irr_sparse.specs.Value.{value_of}

module _ (n m j : ℕ) (ts : List (ℕ × ℤ)) (d : ℕ) (e : n ≡ m) (p : 0 < m) (is : value_of m ts d ≡ root_power m j) where
  sum : IsRootSum m 1 1 (value_of m ts d)
  sum = subst (IsRootSum m 1 1) (sym is) (IsRootSum-root m j)

  pub power-size : size n (value_of n ts d) ≤ m
  power-size = subst (λ k. size k (value_of k ts d) ≤ m) (sym e) (omega (arith, size_of_IsRootSum m p 1 1 (value_of m ts d) sum))

  pub power-denominator : denominator n (value_of n ts d) ≡ 1
  power-denominator = subst (λ k. denominator k (value_of k ts d) ≡ 1) (sym e) (one_of_dvd (denominator m (value_of m ts d)) (denominator_of_IsRootSum m p 1 1 (value_of m ts d) sum))
