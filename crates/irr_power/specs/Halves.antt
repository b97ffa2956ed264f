-- Half the sums and half the differences of numbers.
--   sum_of, difference_of     the sum, and the difference, of two numbers
--   IsHalf n x z              twice z is x
--   ArePairs .. n xs ys       two rows of as many numbers of order n, sums of few powers of z
--   AreHalves .. n f xs ys zs     zs are half the values of f at the numbers of xs and ys
use Rattle.std.specs.Prelude.{ℕ, ◌≡◌, ◌<◌, List, length, slice_index_or}
use Rattle.irr_number.specs.Number.{Number, numbers}
use Rattle.irr_canonical.specs.RootSum.{IsRootSum}
use Rattle.irr_side.specs.ArmTraces.{AreEach}

abbrev pub sum_of : (n : ℕ) → Number n → Number n → Number n
sum_of n x y = (numbers n).add x y

abbrev pub difference_of : (n : ℕ) → Number n → Number n → Number n
difference_of n x y = (numbers n).add x ((numbers n).neg y)

pub record IsHalf (n : ℕ) (x z : Number n) : Type 0 where
  pub twice : (numbers n).add z z ≡ x

pub record ArePairs {S : Type 0} (order : S → ℕ) (value : (n : ℕ) → S → Number n) (n : ℕ) (xs ys : List S) : Type 0 where
  pub same_length : length ys ≡ length xs
  pub first_order : (k : ℕ) (x : S) → k < length xs → order (slice_index_or xs k x) ≡ n
  pub second_order : (k : ℕ) (y : S) → k < length xs → order (slice_index_or ys k y) ≡ n
  pub first_few : (k : ℕ) (x : S) → k < length xs → IsRootSum n 5308416 1 (value n (slice_index_or xs k x))
  pub second_few : (k : ℕ) (y : S) → k < length xs → IsRootSum n 110592 1 (value n (slice_index_or ys k y))

-- x and y stand past the ends of the rows
abbrev pub AreHalves : {S : Type 0} (order : S → ℕ) (value : (n : ℕ) → S → Number n) (n : ℕ)
    → (Number n → Number n → Number n) → List S → List S → List S → Type 0
AreHalves {S} order value n f xs ys zs = AreEach (λ k (z : S). (x y : S) → (order z ≡ n)
    × IsHalf n (f (value n (slice_index_or xs k x)) (value n (slice_index_or ys k y))) (value n z)) (length xs) zs
