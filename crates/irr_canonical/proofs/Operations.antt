-- Operations on whole coefficients over denominators.
--   over-same                 coefficients with equal cross products are one number
--   over-add, over-sub, over-mul, over-scale, over-lift    sums, differences, products, multiples by fractions, lifts
--   over-root, over-zero      powers of z, and 0
--   zero_of_over              coefficients in the basis that are 0 are zeros
--   IsCanonical-over          coefficients in the basis and in lowest terms are the canonical form
--   denominator-over, size-over   denominator and size, where they are
use mathlib.Core.Path.{◌≡◌, refl, sym, ◌∙◌, ap, subst}
use Prim.Native.Nat.{ℕ, zero, suc, ◌+◌, ◌*◌, ◌/◌, ◌<◌, ◌%◌, ◌∣◌}
use native.Mathlib.Nat as Nat
use native.Mathlib.Omega.{arith}
use lib.IntN.{ℤ, pos, ◌+ℤ◌, ◌*ℤ◌, neg_ℤ}
use Rattle.std.specs.Int.RustNames.{unsigned_abs}
use Rattle.irr_algebra.specs.Ring.{Ring, whole}
use Rattle.irr_algebra.proofs.Rings.{mul-zero, mul_left_comm, ring_laws}
use Rattle.irr_algebra.proofs.Whole.{whole-mul}
use Rattle.irr_number.specs.Algebra.{Element-path, algebra, at-add, at-element, at-mul, at-neg, at-power, at-zero, weighted_sum_cong, weighted_sum_cong_left}
use Rattle.irr_number.specs.Basis.{IsCanonical}
use Rattle.irr_number.specs.Element.{Element, delta, element, mul_elements, multiple, power, weighted_sum, zero_element}
use Rattle.irr_number.specs.Fraction.{Fraction, add_fractions, mul_fractions, neg_fraction, over_one}
use Rattle.irr_number.specs.FractionLaws.{same_by}
use Rattle.irr_number.specs.Integers.{integers}
use Rattle.irr_number.specs.Lift.{lift}
use Rattle.irr_number.specs.MultipleLaws.{at-multiple}
use Rattle.irr_number.specs.Number.{number, numbers, root_power}
use Rattle.irr_number.specs.NumberLaws.{number-add, number-mul, number-neg, number-same, number-zero}
use Rattle.irr_number.specs.Relation.{IsZero}
use Rattle.irr_number.specs.RelationLaws.{IsZero_notion}
use Rattle.irr_number.specs.Substitution.{at-substitution, substitution}
use Rattle.irr_number.proofs.FixedElements.{at-whole_mul}
use Rattle.irr_number.proofs.Lifts.{lift-number}
use Rattle.irr_rational.specs.Integer.{integer}
use Rattle.irr_canonical.specs.Coefficient.{denominator, over, size, total_below}
use Rattle.irr_canonical.specs.Reduction.{IsInBasis}
use Rattle.irr_canonical.proofs.Forms.{canonical-number}
use Rattle.irr_canonical.proofs.Reductions.{coefficients_unique}
use Rattle.irr_canonical.proofs.Sums.{eq_of_mul, mul-number, number-multiple}

-- sums of equal terms
pub total_below_cong : (n : ℕ) (f g : ℕ → ℕ) → ((i : ℕ) → i < n → f i ≡ g i) → total_below n f ≡ total_below n g
unfolding total_below
total_below_cong zero f g h = refl
total_below_cong (suc n) f g h = λ i. total_below_cong n f g (λ k lt. h k (omega arith)) i + h n (omega arith) i

module _ (N : ℕ) where
  -- coefficients with equal cross products are one number
  pub over-same : (f g : ℕ → ℤ) (d e : ℕ) (p : 0 < d) (q : 0 < e) → ((j : ℕ) → j < N → pos e *ℤ f j ≡ pos d *ℤ g j) → number N (over N f d p) ≡ number N (over N g e q)
  over-same f g d e p q h = number-same N (over N f d p) (over N g e q) (same_by (algebra N) (IsZero N) (IsZero_notion N) (over N f d p) (over N g e q)
      (Element-path N (mul_elements N (whole (algebra N) e) (element N f)) (mul_elements N (whole (algebra N) d) (element N g)) (λ j lt.
      at-whole_mul N e (element N f) j lt ∙ ap (λ x. pos e *ℤ x) (at-element N f j lt) ∙ h j lt ∙ ap (λ x. pos d *ℤ x) (sym (at-element N g j lt)) ∙ sym (at-whole_mul N d (element N g) j lt))))

  -- and so are equal fractions
  pub number-over : (a : Fraction (Element N)) → number N a ≡ number N (over N a.num.at a.den a.den_pos)
  number-over a = ap (number N) (λ i. record { num = Element-path N a.num (element N a.num.at) (λ j lt. sym (at-element N a.num.at j lt)) i; den = a.den; den_pos = a.den_pos })

  -- a fraction with the coefficients h
  pub over-by : (a : Fraction (Element N)) (h : ℕ → ℤ) (d : ℕ) (p : 0 < d) → a.den ≡ d → ((j : ℕ) → j < N → h j ≡ a.num.at j) → number N (over N h d p) ≡ number N a
  over-by a h d p e k = over-same h a.num.at d a.den p a.den_pos (λ j lt i. pos (e i) *ℤ k j lt i) ∙ sym (number-over a)

  -- cross products over the product of the denominators are the sum
  pub over-add : (f g h : ℕ → ℤ) (d e : ℕ) (p : 0 < d) (q : 0 < e) (r : 0 < d * e) → ((j : ℕ) → j < N → h j ≡ (pos e *ℤ f j) +ℤ (pos d *ℤ g j))
      → number N (over N h (d * e) r) ≡ (numbers N).add (number N (over N f d p)) (number N (over N g e q))
  unfolding add_fractions
  over-add f g h d e p q r k = over-by (add_fractions (algebra N) (over N f d p) (over N g e q)) h (d * e) r refl (λ j lt.
      k j lt
      ∙ (λ i. (ap (λ x. pos e *ℤ x) (sym (at-element N f j lt)) ∙ sym (at-whole_mul N e (element N f) j lt)) i +ℤ (ap (λ x. pos d *ℤ x) (sym (at-element N g j lt)) ∙ sym (at-whole_mul N d (element N g) j lt)) i)
      ∙ sym (at-add N (mul_elements N (whole (algebra N) e) (element N f)) (mul_elements N (whole (algebra N) d) (element N g)) j lt))
      ∙ number-add N (over N f d p) (over N g e q)

  -- sums over one denominator
  pub over-add_same : (f g h : ℕ → ℤ) (d : ℕ) (p : 0 < d) → ((j : ℕ) → j < N → h j ≡ f j +ℤ g j) → number N (over N h d p) ≡ (numbers N).add (number N (over N f d p)) (number N (over N g d p))
  over-add_same f g h d p k = over-same h (λ j. (pos d *ℤ f j) +ℤ (pos d *ℤ g j)) d (d * d) p (Nat.mul-pos p p) (λ j lt.
      ap (λ x. pos (d * d) *ℤ x) (k j lt) ∙ spread integers (pos d) (f j) (g j))
      ∙ over-add f g (λ j. (pos d *ℤ f j) +ℤ (pos d *ℤ g j)) d d p p (Nat.mul-pos p p) (λ j lt. refl)
    where
      spread : (R : Ring) (d x y : R.Carrier) → R.mul (R.mul d d) (R.add x y) ≡ R.mul d (R.add (R.mul d x) (R.mul d y))
      spread R d x y = simp (ring_laws, R)

  -- the negative
  pub over-neg : (f h : ℕ → ℤ) (d : ℕ) (p : 0 < d) → ((j : ℕ) → j < N → h j ≡ neg_ℤ (f j)) → number N (over N h d p) ≡ (numbers N).neg (number N (over N f d p))
  unfolding neg_fraction
  over-neg f h d p k = over-by (neg_fraction (algebra N) (over N f d p)) h d p refl (λ j lt. k j lt ∙ ap neg_ℤ (sym (at-element N f j lt)) ∙ sym (at-neg N (element N f) j lt)) ∙ number-neg N (over N f d p)

  -- products of polynomials with z^N = 1
  pub over-mul : (f g h : ℕ → ℤ) (d e : ℕ) (p : 0 < d) (q : 0 < e) (r : 0 < d * e)
      → ((k : ℕ) → k < N → h k ≡ weighted_sum N f (λ i. weighted_sum N g (λ j. delta integers ((i + j) % N) k)))
      → number N (over N h (d * e) r) ≡ (numbers N).mul (number N (over N f d p)) (number N (over N g e q))
  unfolding mul_fractions
  over-mul f g h d e p q r s = over-by (mul_fractions (algebra N) (over N f d p) (over N g e q)) h (d * e) r refl (λ k lt.
      s k lt
      ∙ weighted_sum_cong_left N f (element N f).at (λ i. weighted_sum N g (λ j. delta integers ((i + j) % N) k)) (λ i li. sym (at-element N f i li))
      ∙ weighted_sum_cong N (element N f).at (λ i. weighted_sum N g (λ j. delta integers ((i + j) % N) k)) (λ i. weighted_sum N (element N g).at (λ j. delta integers ((i + j) % N) k)) (λ i _.
      weighted_sum_cong_left N g (element N g).at (λ j. delta integers ((i + j) % N) k) (λ j lj. sym (at-element N g j lj)))
      ∙ sym (at-mul N (element N f) (element N g) k lt))
      ∙ number-mul N (over N f d p) (over N g e q)

  -- k times the coefficients, over c times the denominator
  pub over-scale : 0 < N → (f h : ℕ → ℤ) (k : ℤ) (c d : ℕ) (p : 0 < d) (r : 0 < d * c) → ((j : ℕ) → j < N → h j ≡ f j *ℤ k)
      → (numbers N).mul (whole (numbers N) c) (number N (over N h (d * c) r)) ≡ (numbers N).mul (integer (numbers N) k) (number N (over N f d p))
  over-scale hN f h k c d p r s = eq_of_mul N hN d p ((numbers N).mul (whole (numbers N) c) (number N (over N h (d * c) r))) ((numbers N).mul (integer (numbers N) k) (number N (over N f d p)))
      (sym ((numbers N).mul_assoc (whole (numbers N) d) (whole (numbers N) c) (number N (over N h (d * c) r)))
      ∙ ap (λ x. (numbers N).mul x (number N (over N h (d * c) r))) (sym (whole-mul (numbers N) d c))
      ∙ mul-number N (over N h (d * c) r)
      ∙ ap (λ x. number N (over_one (algebra N) x)) (Element-path N (element N h) (multiple N k (element N f)) (λ j lt.
      at-element N h j lt ∙ s j lt ∙ integers.mul_comm (f j) k ∙ ap (λ x. k *ℤ x) (sym (at-element N f j lt)) ∙ sym (at-multiple N k (element N f) j lt)))
      ∙ number-multiple N k (element N f)
      ∙ ap ((numbers N).mul (integer (numbers N) k)) (sym (mul-number N (over N f d p)))
      ∙ swap (numbers N) (integer (numbers N) k) (whole (numbers N) d) (number N (over N f d p)))
    where
      swap : (R : Ring) (k d y : R.Carrier) → R.mul k (R.mul d y) ≡ R.mul d (R.mul k y)
      swap R k d y = mul_left_comm R k d y

  -- z^j
  pub over-root : (h : ℕ → ℤ) (j : ℕ) (p : 0 < 1) → ((k : ℕ) → k < N → h k ≡ delta integers (j % N) k) → number N (over N h 1 p) ≡ root_power N j
  unfolding root_power over_one
  over-root h j p s = over-by (over_one (algebra N) (power N j)) h 1 p refl (λ k lt. s k lt ∙ sym (at-power N j k lt))

  -- zeros are 0
  pub over-zero : (f : ℕ → ℤ) (d : ℕ) (p : 0 < d) → ((j : ℕ) → j < N → f j ≡ pos 0) → number N (over N f d p) ≡ (numbers N).zero
  unfolding over_one
  over-zero f d p z = over-same f (zero_element N).at d 1 p (over_one (algebra N) (zero_element N)).den_pos (λ j lt. ap (λ x. pos 1 *ℤ x) (z j lt) ∙ mul-zero integers (pos 1) ∙ sym (mul-zero integers (pos d)) ∙ ap (λ x. pos d *ℤ x) (sym (at-zero N j lt)))
      ∙ sym (number-over (over_one (algebra N) (zero_element N))) ∙ number-zero N

  -- coefficients in the basis that are 0 are zeros
  pub zero_of_over : 0 < N → (f : ℕ → ℤ) (d : ℕ) (p : 0 < d) → IsInBasis N f → number N (over N f d p) ≡ (numbers N).zero → (j : ℕ) → j < N → f j ≡ pos 0
  zero_of_over hN f d p b e = coefficients_unique N hN f (λ _. pos 0) b (λ _ _ _. refl) d p (e ∙ sym (over-zero (λ _. pos 0) d p (λ _ _. refl)))

  -- coefficients in the basis and in lowest terms are the canonical form
  pub IsCanonical-over : (f : ℕ → ℤ) (d : ℕ) (p : 0 < d) → IsInBasis N f → ((c : ℕ) → c ∣ d → ((j : ℕ) → j < N → c ∣ unsigned_abs (f j)) → c ≡ 1) → IsCanonical N (over N f d p)
  IsCanonical-over f d p b l = record {
    in_basis = λ j lt n. at-element N f j lt ∙ b j lt n;
    lowest_terms = λ c v t. l c v (λ j lt. subst (λ x. c ∣ unsigned_abs x) (at-element N f j lt) (t j lt));
  }

  module _ (hN : 0 < N) (f : ℕ → ℤ) (d : ℕ) (p : 0 < d) (c : IsCanonical N (over N f d p)) where
    pub denominator-over : denominator N (number N (over N f d p)) ≡ d
    unfolding denominator
    denominator-over = ap (λ (a : Fraction (Element N)). a.den) (canonical-number N hN (over N f d p) c)

    pub size-over : size N (number N (over N f d p)) ≡ total_below N (λ j. unsigned_abs (f j))
    unfolding size
    size-over = ap (λ (a : Fraction (Element N)). total_below N (λ j. unsigned_abs (a.num.at j))) (canonical-number N hN (over N f d p) c)
        ∙ total_below_cong N (λ j. unsigned_abs ((element N f).at j)) (λ j. unsigned_abs (f j)) (λ j lt. ap unsigned_abs (at-element N f j lt))

-- a lift moves the coefficient at z^i to z^(M/N i)
pub over-lift : (N M : ℕ) (hN : 0 < N) (v : N ∣ M) (f h : ℕ → ℤ) (d : ℕ) (p : 0 < d) → ((k : ℕ) → k < M → h k ≡ weighted_sum N f (λ i. delta integers ((M / N * i) % M) k))
    → number M (over M h d p) ≡ (lift N M hN v).map (number N (over N f d p))
over-lift N M hN v f h d p s = over-by M (record { num = substitution N M (M / N) (element N f); den = d; den_pos = p }) h d p refl (λ k lt.
    s k lt ∙ weighted_sum_cong_left N f (element N f).at (λ i. delta integers ((M / N * i) % M) k) (λ i li. sym (at-element N f i li)) ∙ sym (at-substitution N M (M / N) (element N f) k lt))
    ∙ sym (lift-number N M hN v (over N f d p))
