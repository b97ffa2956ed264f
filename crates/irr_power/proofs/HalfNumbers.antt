-- Halves of sums of few powers of z.
--   twice_of                   twice a number
--   half_of                    the number that the program makes is the half
--   few_sum, few_difference    sums and differences are sums of few powers
--   sum_room, denominator_room, size_room     sizes
--   few_first, few_second      the numbers of pairs
--   made_at                    the half at a place of two rows
use Rattle.std.proofs.Common.{◌≡◌, sym, ◌∙◌, ap, subst, ℕ, ◌+◌, ◌*◌, ◌<◌, ◌≤◌, ◌^◌, arith, pos, List, length, get_or, subst₂}
use Rattle.std.proofs.lemmas.List.{get_or_default}
use Rattle.std.specs.Prelude.{unsigned_abs}
use native.Mathlib.Nat as Nat
use Rattle.irr_algebra.specs.Ring.{Ring, whole}
use Rattle.irr_algebra.proofs.Rings.{ring_laws}
use Rattle.irr_algebra.proofs.Whole.{whole-one, whole-suc}
use Rattle.irr_number.specs.Number.{Number, numbers}
use Rattle.irr_rational.specs.Integer.{integer}
use Rattle.irr_rational.proofs.Integers.{integer-pos}
use Rattle.irr_canonical.specs.Coefficient.{denominator, size}
use Rattle.irr_canonical.specs.RootSum.{IsRootSum}
use Rattle.irr_canonical.proofs.RootSums.{IsRootSum-add_same, IsRootSum-neg}
use Rattle.irr_canonical.proofs.RootSizes.{denominator_of_IsRootSum, size_of_IsRootSum}
use Rattle.irr_power.specs.Halves.{ArePairs, IsHalf}

pub twice_of : (R : Ring) (z : R.Carrier) → R.mul (whole R 2) z ≡ R.add z z
twice_of R z = ap (λ x. R.mul x z) (whole-suc R 1 ∙ ap (R.add R.one) (whole-one R)) ∙ twice z
  where
    twice : (z : R.Carrier) → R.mul (R.add R.one R.one) z ≡ R.add z z
    twice z = simp (ring_laws, R)

once_of : (R : Ring) (x : R.Carrier) → R.mul (integer R (pos 1)) x ≡ x
once_of R x = ap (λ y. R.mul y x) (integer-pos R 1 ∙ whole-one R) ∙ once x
  where
    once : (x : R.Carrier) → R.mul R.one x ≡ x
    once x = simp (ring_laws, R)

pub half_of : (n m : ℕ) → m ≡ n → {S : Type 0} (value : (k : ℕ) → S → Number k) (s z : S) (x : Number n) → value n s ≡ x
    → (numbers m).mul (whole (numbers m) 2) (value m z) ≡ (numbers m).mul (integer (numbers m) (pos 1)) (value m s)
    → IsHalf n x (value n z)
half_of n m e value s z x is h = subst (λ k. (numbers k).mul (whole (numbers k) 2) (value k z) ≡ (numbers k).mul (integer (numbers k) (pos 1)) (value k s)
    → IsHalf n x (value n z)) (sym e)
    (λ g. record { twice = sym (twice_of (numbers n) (value n z)) ∙ g ∙ once_of (numbers n) (value n s) ∙ is }) h

pub few_sum : (n : ℕ) (x y : Number n) → IsRootSum n 5308416 1 x → IsRootSum n 110592 1 y → IsRootSum n 5419008 1 ((numbers n).add x y)
few_sum n x y h k = IsRootSum-add_same n h k

pub few_difference : (n : ℕ) (x y : Number n) → IsRootSum n 5308416 1 x → IsRootSum n 110592 1 y
    → IsRootSum n 5419008 1 ((numbers n).add x ((numbers n).neg y))
few_difference n x y h k = IsRootSum-add_same n h (IsRootSum-neg n k)

pub sum_room : (n : ℕ) → n ≤ 12000 → 5308416 * n * 1 + 110592 * n * 1 < 2 ^ 110
sum_room n l = omega (arith, l)

module _ (n m : ℕ) (e : m ≡ n) (positive : 0 < n) (l : n ≤ 12000) {S : Type 0} (value : (k : ℕ) → S → Number k) (s : S)
    (few : IsRootSum n 5419008 1 (value n s)) where
  pub denominator_room : denominator m (value m s) * 2 ≤ 2 ^ 60
  denominator_room = subst (λ k. denominator k (value k s) * 2 ≤ 2 ^ 60) (sym e)
      (let d : denominator n (value n s) ≤ 1 = Nat.le_of_dvd (let one : 0 < 1 = omega arith in one) (denominator_of_IsRootSum n positive 5419008 1 (value n s) few) in
      omega (arith, d))

  pub size_room : size m (value m s) * unsigned_abs (pos 1) ≤ 2 ^ 100
  size_room = subst (λ k. size k (value k s) * unsigned_abs (pos 1) ≤ 2 ^ 100) (sym e) at_order
    where
      at_order : size n (value n s) * 1 ≤ 2 ^ 100
      at_order =
          let f : size n (value n s) ≤ 5419008 * n = size_of_IsRootSum n positive 5419008 1 (value n s) few in
          omega (arith, l, f)

module _ {S : Type 0} (order : S → ℕ) (value : (n : ℕ) → S → Number n) (n : ℕ) (xs ys : List S) (pairs : ArePairs order value n xs ys) where
  first_at : (i : ℕ) → i < length xs → (x : S) → x ≡ get_or xs i x → order x ≡ n
  first_at i l x is = subst (λ z. order z ≡ n) (sym is) (pairs.first_order i x l)

  pub few_first : (i : ℕ) → i < length xs → (x : S) → x ≡ get_or xs i x → IsRootSum (order x) 5308416 1 (value (order x) x)
  few_first i l x is = subst (λ k. IsRootSum k 5308416 1 (value k x)) (sym (first_at i l x is))
      (subst (λ z. IsRootSum n 5308416 1 (value n z)) (sym is) (pairs.first_few i x l))

  pub few_second : (i : ℕ) → i < length xs → (x : S) → x ≡ get_or xs i x → (y : S) → y ≡ get_or ys i y
      → IsRootSum (order x) 110592 1 (value (order x) y)
  few_second i l x is y is_y = subst (λ k. IsRootSum k 110592 1 (value k y)) (sym (first_at i l x is))
      (subst (λ z. IsRootSum n 110592 1 (value n z)) (sym is_y) (pairs.second_few i y l))

  pub made_at : (f : (n : ℕ) → Number n → Number n → Number n) (i : ℕ) → i < length xs → (x : S) → x ≡ get_or xs i x → (y : S) → y ≡ get_or ys i y
      → (z : S) → order z ≡ order x → IsHalf (order x) (f (order x) (value (order x) x) (value (order x) y)) (value (order x) z)
      → (a b : S) → (order z ≡ n) × IsHalf n (f n (value n (get_or xs i a)) (value n (get_or ys i b))) (value n z)
  made_at f i l x is y is_y z same half a b = (
    same ∙ first_at i l x is,
    subst₂ (λ (u : S) (v : S). IsHalf n (f n (value n u) (value n v)) (value n z)) (is ∙ get_or_default xs i x a l)
        (is_y ∙ get_or_default ys i y b (subst (λ m. i < m) (sym pairs.same_length) l))
        (subst (λ k. IsHalf k (f k (value k x) (value k y)) (value k z)) (first_at i l x is) half),
  )
