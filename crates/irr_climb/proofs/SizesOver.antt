-- Sizes over a common denominator.
--   size_over_root_sum       a sum of at most s powers of z over d has a size over d of at most s N
--   small_over_divisor       a number that is small over e is small over a divisor of e, as the least common denominator
--   small_numbers, all_small    the numbers of a family with sharp sizes, of an order up to 12,000
use Rattle.std.proofs.Common.{◌≡◌, refl, sym, ◌∙◌, ap, subst, ℕ, zero, suc, ◌+◌, ◌*◌, ◌/◌, ◌<◌, ◌≤◌, ℤ, pos, List, All, arith}
use Rattle.std.specs.Int.{◌∣◌}
use Rattle.std.specs.Int.RustNames.{unsigned_abs}
use Rattle.std.proofs.lemmas.Int.{unsigned_abs-mul}
use Rattle.std.proofs.lemmas.Nat.{le-div}
use native.Mathlib.Nat as Nat
use lib.IntN.{◌*ℤ◌}
use Rattle.irr_algebra.specs.Matrix.{trace}
use Rattle.irr_algebra.specs.Ring.{whole}
use Rattle.irr_algebra.proofs.Indices.{from_nat}
use Rattle.irr_algebra.proofs.Rings.{mul-zero, one-mul}
use Rattle.irr_algebra.proofs.Whole.{whole-one}
use Rattle.irr_number.specs.Algebra.{algebra, at-element}
use Rattle.irr_number.specs.Basis.{IsCanonical}
use Rattle.irr_number.specs.Element.{element}
use Rattle.irr_number.specs.Fraction.{over_one}
use Rattle.irr_number.specs.Integers.{integers}
use Rattle.irr_number.specs.Number.{Number, number, numbers}
use Rattle.irr_canonical.specs.Coefficient.{canonical, denominator, over, size, total_below}
use Rattle.irr_canonical.specs.RootSum.{IsRootSum}
use Rattle.irr_canonical.proofs.Forms.{IsCanonical-canonical, number-canonical}
use Rattle.irr_canonical.proofs.Operations.{IsCanonical-over, number-over, over-by, over-same, size-over, total_below_cong}
use Rattle.irr_canonical.proofs.RootSizes.{denominator_of_IsRootSum, size_of_IsRootSum}
use Rattle.irr_canonical.proofs.Sums.{mul-number}
use Rattle.irr_cyc.specs.declared.scalars.Scalar.{Ghosts}
use Rattle.irr_rep.specs.declared.family.Family.{Family}
use Rattle.irr_rep.specs.Family.{matrix_at}
use Rattle.irr_climb.specs.Sizes.{HasSharpSizes, HasSmallNumbers, IsSmallNumber}

-- a factor of each term
total_below-times : (n c : ℕ) (f : ℕ → ℕ) → total_below n (λ j. c * f j) ≡ c * total_below n f
unfolding total_below
total_below-times zero c f = sym (Nat.mul-zero c)
total_below-times (suc n) c f = ap (λ k. k + c * f n) (total_below-times n c f) ∙ sym (Nat.mul-add c (total_below n f) (f n))

one : 0 < 1
one = omega arith

module _ (N : ℕ) (some : 0 < N) (s d : ℕ) (x : Number N) (h : IsRootSum N s d x) where
  -- what is left of d beside the denominator
  rest : ℕ
  rest = d / denominator N x

  whole_is : denominator N x * rest ≡ d
  unfolding rest
  whole_is = Nat.mul-div_cancel' (denominator N x) (denominator_of_IsRootSum N some s d x h)

  -- the numerators of x over d
  numerator : ℕ → ℤ
  numerator j = pos rest *ℤ (canonical N x).num.at j

  numbers_same : number N (over N numerator d h.positive) ≡ x
  unfolding numerator denominator
  numbers_same = over-same N numerator (canonical N x).num.at d (canonical N x).den h.positive (canonical N x).den_pos
      (λ j lt. three (canonical N x).den rest ((canonical N x).num.at j) ∙ ap (λ k. pos k *ℤ (canonical N x).num.at j) whole_is)
      ∙ sym (number-over N (canonical N x)) ∙ number-canonical N some x
    where
      three : (a b : ℕ) (c : ℤ) → pos a *ℤ (pos b *ℤ c) ≡ pos (a * b) *ℤ c
      three a b c = sym (integers.mul_assoc (pos a) (pos b) c) ∙ refl

  -- d times x
  multiple : Number N
  multiple = number N (over N numerator 1 one)

  multiple_is : multiple ≡ (numbers N).mul (whole (numbers N) d) x
  unfolding multiple over_one
  multiple_is =
      over-by N (over_one (algebra N) (element N numerator)) numerator 1 one refl (λ j lt. sym (at-element N numerator j lt))
      ∙ sym (mul-number N (over N numerator d h.positive)) ∙ ap ((numbers N).mul (whole (numbers N) d)) numbers_same

  multiple_sum : IsRootSum N s 1 multiple
  multiple_sum = record {
    positive = one;
    powers = h.powers;
    few = h.few;
    multiple = ap (λ k. (numbers N).mul k multiple) (whole-one (numbers N)) ∙ one-mul (numbers N) multiple ∙ multiple_is ∙ h.multiple;
  }

  canonical_multiple : IsCanonical N (over N numerator 1 one)
  unfolding numerator
  canonical_multiple = IsCanonical-over N numerator 1 one
      (λ j lt n. ap (λ k. pos rest *ℤ k) ((IsCanonical-canonical N some x).in_basis j lt n) ∙ mul-zero integers (pos rest))
      (λ c v t. Nat.dvd_antisymm v (Nat.one-dvd c))

  size_is : size N multiple ≡ rest * size N x
  unfolding multiple numerator size
  size_is = size-over N some numerator 1 one canonical_multiple
      ∙ total_below_cong N (λ j. unsigned_abs (numerator j)) (λ j. rest * unsigned_abs ((canonical N x).num.at j))
      (λ j lt. unsigned_abs-mul (pos rest) ((canonical N x).num.at j))
      ∙ total_below-times N rest (λ j. unsigned_abs ((canonical N x).num.at j))

  pub size_over_root_sum : size N x * (d / denominator N x) ≤ s * N
  unfolding rest
  size_over_root_sum = subst (λ k. k ≤ s * N) (size_is ∙ Nat.mul_comm rest (size N x)) (size_of_IsRootSum N some s 1 multiple multiple_sum)

small_number : (M e : ℕ) (x : Number M) → 0 < M → M ≤ 12000 → IsRootSum M 13824 e x → IsSmallNumber M e x
small_number M e x some limit h = record {
  divides = denominator_of_IsRootSum M some 13824 e x h;
  size_over = (let l = size_over_root_sum M some 13824 e x h in omega (arith, l, limit));
}

-- over a divisor of e it is no greater
pub small_over_divisor : (M e l : ℕ) (x : Number M) → 0 < e → l ∣ e → denominator M x ∣ l → IsSmallNumber M e x → IsSmallNumber M l x
small_over_divisor M e l x some v w h =
    let some_l : 0 < l = Nat.pos_of_dvd_of_pos v some in
    let some_d : 0 < denominator M x = Nat.pos_of_dvd_of_pos w some_l in
    let less : l / denominator M x ≤ e / denominator M x =
    le-div (l / denominator M x) e (denominator M x) some_d (Nat.le_trans (Nat.div-mul-le_self l (denominator M x)) (Nat.le_of_dvd some v)) in
    record {
      divides = w;
      size_over = Nat.le_trans (Nat.mul-le-mul_left (size M x) less) h.size_over;
    }

pub small_numbers : {S : Type 0} {G : Ghosts S} (M n : ℕ) (f : Family S G) → 0 < M → M ≤ 12000 → 0 < n → HasSharpSizes M n f → HasSmallNumbers M n f
small_numbers M n f some limit places sharp = record {
  common = sharp.denominator;
  positive = (sharp.entries (from_nat n 0 places)).positive;
  small = sharp.small;
  entries = λ i j k. small_number M sharp.denominator ((matrix_at M f.dim f.mats.items i).at j k) some limit ((sharp.entries i).entry j k);
  traces = λ i. small_number M sharp.denominator (trace (matrix_at M f.dim f.mats.items i)) some limit (sharp.traces i);
}

pub all_small : {S : Type 0} {G : Ghosts S} (M n : ℕ) (fs : List (Family S G)) → 0 < M → M ≤ 12000 → 0 < n
    → All (λ f. HasSharpSizes M n f) fs → All (λ f. HasSmallNumbers M n f) fs
all_small M n fs some limit places sharp = λ a e l. small_numbers M n _ some limit places (sharp a e l)
