-- Sizes of entries that are compared with powers of z.
--   root_denominators, root_sizes     a power of z and a number of one order
--   fit_denominator, fit_size         an entry of a matrix whose entries can be compared with powers of z
use Rattle.std.proofs.Common.{◌≡◌, sym, subst, ℕ, ◌+◌, ◌*◌, ◌^◌, ◌<◌, ◌≤◌, arith}
use native.Mathlib.Nat as Nat
use Rattle.irr_algebra.specs.Matrix.{Matrix}
use Rattle.irr_algebra.proofs.Indices.{from_nat, to_nat-from_nat}
use Rattle.irr_number.specs.Number.{Number, numbers, root_power}
use Rattle.irr_canonical.specs.Coefficient.{denominator, size}
use Rattle.irr_canonical.specs.RootSum.{IsRootSum}
use Rattle.irr_canonical.proofs.RootSizes.{denominator_of_IsRootSum, size_of_IsRootSum}
use Rattle.irr_canonical.proofs.RootSums.{IsRootSum-root}
use Rattle.irr_cyc.proofs.Divisors.{one_of_dvd}
use Rattle.irr_mat.specs.Entries.{IsEntry}
use Rattle.irr_mono.specs.Monomial.{PowersFit}

module _ (m N : ℕ) (is : m ≡ N) (pos : 0 < N) {S : Type 0} (value : (n : ℕ) → S → Number n) (x y : S) (j : ℕ) (v : value N x ≡ root_power N j) where
  sum : IsRootSum N 1 1 (value N x)
  sum = subst (IsRootSum N 1 1) (sym v) (IsRootSum-root N j)

  one : denominator N (value N x) ≡ 1
  one = one_of_dvd (denominator N (value N x)) (denominator_of_IsRootSum N pos 1 1 (value N x) sum)

  small : size N (value N x) ≤ N
  small = let h : size N (value N x) ≤ 1 * N = size_of_IsRootSum N pos 1 1 (value N x) sum in omega arith

  pub root_denominators : denominator N (value N y) ≤ 2 ^ 60 → denominator m (value m x) * denominator m (value m y) ≤ 2 ^ 60
  root_denominators h = subst (λ n. denominator n (value n x) * denominator n (value n y) ≤ 2 ^ 60) (sym is)
      (subst (λ u. u * denominator N (value N y) ≤ 2 ^ 60) (sym one) (omega (arith, h)))

  pub root_sizes : size N (value N y) + N * denominator N (value N y) < 2 ^ 110
      → size m (value m x) * denominator m (value m y) + size m (value m y) * denominator m (value m x) < 2 ^ 110
  root_sizes h = subst (λ n. size n (value n x) * denominator n (value n y) + size n (value n y) * denominator n (value n x) < 2 ^ 110) (sym is)
      (subst (λ u. size N (value N x) * denominator N (value N y) + size N (value N y) * u < 2 ^ 110) (sym one)
      (let g : size N (value N x) * denominator N (value N y) ≤ N * denominator N (value N y) = Nat.mul-le-mul_right (denominator N (value N y)) small in omega (arith, h)))

-- an entry of a matrix
module _ (N : ℕ) (pos : 0 < N) {r c : ℕ} (a : Matrix (numbers N) r c) (fit : PowersFit N a) (i j : ℕ) (x : Number N) (p : i < r) (q : j < c) (is : IsEntry a i j x) where
  entry-sum : IsRootSum N fit.s fit.d x
  entry-sum = subst (IsRootSum N fit.s fit.d) (sym (is.is_entry (from_nat r i p) (from_nat c j q) (to_nat-from_nat r i p) (to_nat-from_nat c j q))) (fit.within.entry (from_nat r i p) (from_nat c j q))

  entry-denominator : denominator N x ≤ fit.d
  entry-denominator = Nat.le_of_dvd fit.within.positive (denominator_of_IsRootSum N pos fit.s fit.d x entry-sum)

  pub fit_denominator : denominator N x ≤ 2 ^ 60
  fit_denominator = Nat.le_trans entry-denominator fit.denominators

  pub fit_size : size N x + N * denominator N x < 2 ^ 110
  fit_size =
      let u : size N x ≤ fit.s * N = size_of_IsRootSum N pos fit.s fit.d x entry-sum in
      let v : N * denominator N x ≤ N * fit.d = Nat.mul-le-mul_left N entry-denominator in
      let w : fit.s * N + N * fit.d < 2 ^ 110 = fit.sizes in
      omega arith
