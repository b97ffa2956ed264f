-- Rules that a test goes through column by column, and sizes of small matrices.
--   HoldRules N n place exp   the rules for the first n columns
--   rules-nil, rules-more, rules-all      no column, one more, and all of them
--   minus_one                 the number -1 is a power with a sign
--   within-read, fits-read    a matrix of powers at its own order and size
--   within-numbers            the numbers of a monomial matrix
--   product_fits, sums_fit, within-product    products of two of them
use Rattle.std.proofs.Common.{◌≡◌, sym, ◌∙◌, ap, subst, ℕ, negsuc, ◌+◌, ◌*◌, ◌^◌, ◌<◌, ◌≤◌, ◌⊎◌, inl, inr, true, List, [], ◌∷◌, length, slice_index, arith}
use Rattle.std.proofs.lemmas.Bool.{cases_lt}
use native.Mathlib.Nat as Nat
use Rattle.irr_algebra.specs.Matrix.{Matrix, ◌·◌}
use Rattle.irr_algebra.specs.Ring.{whole}
use Rattle.irr_algebra.proofs.Rings.{neg-mul, one-mul}
use Rattle.irr_number.specs.Number.{Number, numbers, root_power}
use Rattle.irr_rational.specs.Integer.{integer}
use Rattle.irr_rational.proofs.Integers.{integer-one}
use Rattle.irr_canonical.specs.RootSum.{IsRootSum, signed_sum, with_sign}
use Rattle.irr_cyc.specs.Terms.{terms_sum}
use Rattle.irr_mat.specs.Entries.{matrix_of}
use Rattle.irr_mat.specs.Size.{IsWithin, ProductFits, SumsFit}
use Rattle.irr_mat.proofs.Bounds.{within-mul}
use Rattle.irr_mono.specs.Monomial.{AreRules, PowersFit, monomial}
use Rattle.irr_mono.proofs.MonomialSizes.{powers_fit, within-monomial}
use Rattle.irr_mono.proofs.Tables.{Differ, differ-more, differ-nil}

-- the first n columns keep the rules
pub record HoldRules (N n : ℕ) (place exp : List ℕ) : Type 0 where
  pub inside : (k : ℕ) → k < n → slice_index place k < length place
  pub below : (k : ℕ) → k < n → slice_index exp k < N
  pub differ : Differ n place

pub rules-nil : (N : ℕ) (place exp : List ℕ) → HoldRules N 0 place exp
rules-nil N place exp = record { inside = λ k l. absurd (omega arith); below = λ k l. absurd (omega arith); differ = differ-nil place }

-- one more number below n
more : (P : ℕ → Type 0) (n : ℕ) → ((k : ℕ) → k < n → P k) → P n → (k : ℕ) → k < n + 1 → P k
more P n h last k l = at (cases_lt k n)
  where
    at : (k < n) ⊎ (n ≤ k) → P k
    at (inl less) = h k less
    at (inr past) = subst P (let s : n ≡ k = omega arith in s) last

pub rules-more : (N n : ℕ) (place exp : List ℕ) → HoldRules N n place exp → slice_index place n < length place → slice_index exp n < N → ((j : ℕ) → j < n → slice_index place j ≡ slice_index place n → ⊥)
    → HoldRules N (n + 1) place exp
rules-more N n place exp h inside below new = record {
  inside = more (λ k. slice_index place k < length place) n h.inside inside;
  below = more (λ k. slice_index exp k < N) n h.below below;
  differ = differ-more n place new h.differ;
}

pub rules-all : (N n : ℕ) (place exp : List ℕ) → HoldRules N n place exp → length place ≤ n → 0 < length place → length place < 2 ^ 32 → length exp ≡ length place → AreRules N place exp
rules-all N n place exp h all some few same = record {
  some = some;
  few = few;
  same = same;
  inside = λ j l. h.inside j (omega arith);
  distinct = λ j k l m e. h.differ.differ j k (omega arith) (omega arith) e;
  below = λ j l. h.below j (omega arith);
}

-- -1 is the negative of the power z^0
pub minus_one : (N : ℕ) (x : Number N) → (numbers N).mul (whole (numbers N) 1) x ≡ terms_sum N ((0, negsuc 0) ∷ []) → IsRootSum N 1 1 x
unfolding terms_sum signed_sum with_sign integer
minus_one N x v = record {
  positive = omega arith;
  powers = record { negative = true; exponent = 0 } ∷ [];
  few = omega arith;
  multiple = v ∙ ap (λ y. (numbers N).add y (numbers N).zero) (neg-mul (numbers N) (whole (numbers N) 1) (root_power N 0)
      ∙ ap (λ y. (numbers N).neg ((numbers N).mul y (root_power N 0))) (integer-one (numbers N)) ∙ ap (numbers N).neg (one-mul (numbers N) (root_power N 0)));
}

-- a matrix read at numbers that are equal to its own
pub within-read : {S : Type 0} (value : (n : ℕ) → S → Number n) (n N r p c q s : ℕ) (xs : List S) → n ≡ N → r ≡ p → c ≡ q → IsWithin N s 1 (matrix_of value N p q xs) → IsWithin n s 1 (matrix_of value n r c xs)
within-read value n N r p c q s xs e f g h =
    subst (λ k. IsWithin k s 1 (matrix_of value k r c xs)) (sym e) (subst (λ k. IsWithin N s 1 (matrix_of value N k c xs)) (sym f)
    (subst (λ k. IsWithin N s 1 (matrix_of value N p k xs)) (sym g) h))

pub fits-read : {S : Type 0} (value : (n : ℕ) → S → Number n) (n N r p c q : ℕ) (xs : List S) → n ≡ N → r ≡ p → c ≡ q → N ≤ 12000 → IsWithin N 1 1 (matrix_of value N p q xs) → PowersFit n (matrix_of value n r c xs)
fits-read value n N r p c q xs e f g le h = powers_fit n r c (matrix_of value n r c xs) (subst (λ k. k ≤ 12000) (sym e) le) (within-read value n N r p c q 1 xs e f g h)

-- the numbers of a monomial matrix
pub within-numbers : {S : Type 0} (value : (n : ℕ) → S → Number n) (n N r c d : ℕ) (xs : List S) (place exp : List ℕ) → n ≡ N → r ≡ d → c ≡ d → matrix_of value N d d xs ≡ monomial N d place exp
    → IsWithin n 1 1 (matrix_of value n r c xs)
within-numbers value n N r c d xs place exp e f g v = within-read value n N r d c d 1 xs e f g (subst (IsWithin N 1 1) (sym v) (within-monomial N d place exp))

-- the product of two of them
module _ (N m : ℕ) (le : N ≤ 12000) (few : m < 2 ^ 32) where
  square : N * N ≤ 12000 * 12000
  square = Nat.mul-le-mul le le

  times : m * N ≤ 4294967296 * 12000
  times = let l : m ≤ 4294967296 = omega (arith, few) in Nat.mul-le-mul l le

  pub product_fits : {r c : ℕ} (a : Matrix (numbers N) r m) (b : Matrix (numbers N) m c) → IsWithin N 1 1 a → IsWithin N 1 1 b → ProductFits N a b
  product_fits a b h k = record {
    s = 1;
    d = 1;
    t = 1;
    e = 1;
    left = h;
    right = k;
    denominators = omega arith;
    products = let l : N * N ≤ 12000 * 12000 = square in omega arith;
    sums = let l : m * N ≤ 4294967296 * 12000 = times in let same : m * (1 * 1) * N * (1 * 1) ≡ m * N = omega arith in omega arith;
  }

  pub sums_fit : {r c p q : ℕ} (a : Matrix (numbers N) r c) (b : Matrix (numbers N) p q) → IsWithin N m 1 a → IsWithin N 1 1 b → SumsFit N a b
  sums_fit a b h k = record {
    s = m;
    d = 1;
    t = 1;
    e = 1;
    left = h;
    right = k;
    denominators = omega arith;
    sizes = let l : m * N ≤ 4294967296 * 12000 = times in omega arith;
  }

pub within-product : (N r m c : ℕ) (a : Matrix (numbers N) r m) (b : Matrix (numbers N) m c) → IsWithin N 1 1 a → IsWithin N 1 1 b → IsWithin N m 1 (a · b)
within-product N r m c a b h k = subst (λ s. IsWithin N s 1 (a · b)) (let e : m * (1 * 1) ≡ m = omega arith in e) (within-mul N r m c 1 1 1 1 a b h k)
