-- Absolute values, and sums of them.
--   unsigned_abs-add, unsigned_abs-neg, unsigned_abs-sub    of sums, negatives, differences
--   total_below_le            a sum of terms that are at most c is at most n times c
--   total_below_mono          a sum of smaller terms is smaller
--   term-le                   a term is at most the sum
use mathlib.Core.Path.{◌≡◌, refl, ap}
use mathlib.Core.Logic.{inl, inr}
use Prim.Native.Nat.{ℕ, zero, suc, ◌+◌, ◌*◌, ◌<◌, ◌≤◌}
use native.Mathlib.Omega.{arith}
use lib.IntN.{ℤ, pos, negsuc, ◌+ℤ◌, ◌-ℤ◌, neg_ℤ}
use Rattle.std.proofs.lemmas.Bool.{cases_lt}
use Rattle.std.proofs.lemmas.Int.{ints}
use Rattle.std.specs.Int.RustNames.{unsigned_abs}
use Rattle.irr_canonical.specs.Coefficient.{total_below}

pub unsigned_abs-neg : (a : ℤ) → unsigned_abs (neg_ℤ a) ≡ unsigned_abs a
unsigned_abs-neg (pos zero) = refl
unsigned_abs-neg (pos (suc n)) = refl
unsigned_abs-neg (negsuc n) = refl

pub unsigned_abs-add : (a b : ℤ) → unsigned_abs (a +ℤ b) ≤ unsigned_abs a + unsigned_abs b
unsigned_abs-add (pos a) (pos b) = omega arith
unsigned_abs-add (pos a) (negsuc b) = grind (arith, ints)
unsigned_abs-add (negsuc a) (pos b) = grind (arith, ints)
unsigned_abs-add (negsuc a) (negsuc b) = omega arith

pub unsigned_abs-sub : (a b : ℤ) → unsigned_abs (a -ℤ b) ≤ unsigned_abs a + unsigned_abs b
unsigned_abs-sub a b = let h : unsigned_abs (neg_ℤ b) ≡ unsigned_abs b = unsigned_abs-neg b in omega (arith, unsigned_abs-add a (neg_ℤ b))

pub total_below_le : (n c : ℕ) (f : ℕ → ℕ) → ((i : ℕ) → i < n → f i ≤ c) → total_below n f ≤ n * c
unfolding total_below
total_below_le zero c f h = omega arith
total_below_le (suc n) c f h = omega (arith, total_below_le n c f (λ i lt. h i (omega arith)), h n (omega arith))

pub total_below_mono : (n : ℕ) (f g : ℕ → ℕ) → ((i : ℕ) → i < n → f i ≤ g i) → total_below n f ≤ total_below n g
unfolding total_below
total_below_mono zero f g h = omega arith
total_below_mono (suc n) f g h = omega (arith, total_below_mono n f g (λ i lt. h i (omega arith)), h n (omega arith))

pub term-le : (n i : ℕ) (f : ℕ → ℕ) → i < n → f i ≤ total_below n f
unfolding total_below
term-le zero i f lt = absurd (omega arith)
term-le (suc n) i f lt = elim (cases_lt i n) [
  | inl l ↦ omega (arith, term-le n i f l)
  | inr g ↦ (let e : i ≡ n = omega arith in let h : f i ≡ f n = ap f e in omega arith)
]
