-- Whole numbers in the program.
--   whole-small              k is a sum of k powers of z
--   one-denominator, one-size        what the product of 1 and k asks
--   whole_of_scaled          1 times k
--   whole_power              k^q
use Rattle.std.proofs.Common.{◌≡◌, sym, ◌∙◌, ap, ap₂, subst, ℕ, zero, suc, ◌+◌, ◌*◌, ◌<◌, ◌≤◌, ◌^◌, ℤ, pos, arith}
use native.Mathlib.Nat as Nat
use Rattle.irr_algebra.specs.Ring.{Ring, whole}
use Rattle.irr_algebra.proofs.Rings.{one-mul}
use Rattle.irr_algebra.proofs.Whole.{whole-mul, whole-one, whole-suc, whole-zero}
use Rattle.irr_number.specs.Number.{Number, numbers}
use Rattle.irr_rational.specs.Integer.{integer}
use Rattle.irr_rational.proofs.Integers.{integer-pos}
use Rattle.irr_canonical.specs.Coefficient.{denominator, size}
use Rattle.irr_canonical.specs.RootSum.{IsRootSum}
use Rattle.irr_canonical.proofs.RootSizes.{denominator_of_IsRootSum, size_of_IsRootSum}
use Rattle.irr_canonical.proofs.RootSums.{IsRootSum-add_same, IsRootSum-one, IsRootSum-zero}
use Rattle.irr_clifford.specs.Roots.{number_power}

pub whole-small : (n k : ℕ) → IsRootSum n k 1 (whole (numbers n) k)
whole-small n zero = subst (IsRootSum n 0 1) (sym (whole-zero (numbers n))) (IsRootSum-zero n 1 (omega arith))
whole-small n (suc k) = subst (IsRootSum n (suc k) 1) (sym (whole-suc (numbers n) k))
    (let l : 1 + k ≡ suc k = omega arith in subst (λ s. IsRootSum n s 1 ((numbers n).add (numbers n).one (whole (numbers n) k))) l
    (IsRootSum-add_same n (IsRootSum-one n) (whole-small n k)))

module _ (m : ℕ) (positive : 0 < m) (x : Number m) (is : x ≡ (numbers m).one) where
  one : IsRootSum m 1 1 x
  one = subst (IsRootSum m 1 1) (sym is) (IsRootSum-one m)

  pub one-denominator : denominator m x * 1 ≤ 2 ^ 60
  one-denominator =
      let l : denominator m x ≤ 1 = Nat.le_of_dvd (omega arith) (denominator_of_IsRootSum m positive 1 1 x one) in
      omega (arith, l)

  pub one-size : m ≤ 12000 → (k : ℕ) → k ≤ 2304 → size m x * k ≤ 2 ^ 100
  one-size limited k few =
      let l : size m x ≤ 1 * m = size_of_IsRootSum m positive 1 1 x one in
      let p : size m x * k ≤ 1 * 12000 * 2304 = Nat.mul-le-mul (Nat.le_trans l (Nat.mul-le-mul (let q : 1 ≤ 1 = omega arith in q) limited)) few in
      let b : 1 * 12000 * 2304 ≤ 2 ^ 100 = omega arith in
      Nat.le_trans p b

pub whole_of_scaled : {S : Type 0} (value : (n : ℕ) → S → Number n) (m n k : ℕ) (j : ℤ) (x y : S) → m ≡ n → value n x ≡ (numbers n).one → j ≡ pos k
    → (numbers m).mul (whole (numbers m) 1) (value m y) ≡ (numbers m).mul (integer (numbers m) j) (value m x) → value n y ≡ whole (numbers n) k
whole_of_scaled value m n k j x y e one is s =
    let at : (numbers n).mul (whole (numbers n) 1) (value n y) ≡ (numbers n).mul (integer (numbers n) j) (value n x)
    = subst (λ u. (numbers u).mul (whole (numbers u) 1) (value u y) ≡ (numbers u).mul (integer (numbers u) j) (value u x)) e s in
    sym (ap (λ a. (numbers n).mul a (value n y)) (whole-one (numbers n)) ∙ one-mul (numbers n) (value n y)) ∙ at
    ∙ ap₂ (numbers n).mul (ap (integer (numbers n)) is ∙ integer-pos (numbers n) k) one ∙ (numbers n).mul-one (whole (numbers n) k)

pub whole_power : (R : Ring) (k q : ℕ) → whole R (k ^ q) ≡ number_power R (whole R k) q
unfolding number_power
whole_power R k zero = let none : k ^ 0 ≡ 1 = Nat.pow-zero k in ap (whole R) none ∙ whole-one R
whole_power R k (suc q) = ap (whole R) (Nat.pow-suc k q ∙ Nat.mul_comm (k ^ q) k) ∙ whole-mul R k (k ^ q) ∙ ap (R.mul (whole R k)) (whole_power R k q)
