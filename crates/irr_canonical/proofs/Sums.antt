-- A number is the sum of its coefficients times powers of z, over its denominator.
--   number-element        the number of whole coefficients over 1 is their sum of powers
--   mul-number            a fraction's denominator times its number is its numerator over 1
--   mul-number_of         d times the number of coefficients over d is their sum of powers
--   mul-denominator       the denominator times the number is the sum of powers of its numerators
--   number_of-zero        over the denominator 0 it is 0
--   number_of-same        coefficients over a positive denominator as a fraction
--   eq_of_mul             two numbers with equal products with a positive whole number are equal
use mathlib.Core.Path.{◌≡◌, refl, sym, ◌∙◌, ap}
use mathlib.Core.HLevel.{is_prop→PathP}
use Prim.Native.Nat.{ℕ, zero, suc, ◌*◌, ◌<◌}
use native.Mathlib.Bridge.{le_prop}
use native.Mathlib.Nat as Nat
use native.Mathlib.Omega.{arith}
use lib.IntN.{ℤ, pos, negsuc, ◌*ℤ◌}
use Rattle.std.specs.Prelude.{List, slice_index_or}
use Rattle.irr_algebra.specs.Listed.{sum_below}
use Rattle.irr_algebra.specs.Ring.{Ring, whole}
use Rattle.irr_algebra.proofs.Fields.{mul_cancel, whole-ne-zero}
use Rattle.irr_algebra.proofs.Homomorphisms.{map-neg, map-whole}
use Rattle.irr_algebra.proofs.Rings.{neg-mul, ring_laws}
use Rattle.irr_algebra.proofs.Whole.{whole-mul, whole-one}
use Rattle.irr_number.specs.Algebra.{Element-path, algebra, at-element, at-power}
use Rattle.irr_number.specs.Element.{Element, delta, element, multiple, power}
use Rattle.irr_number.specs.Fraction.{Fraction, mul_fractions, over_one}
use Rattle.irr_number.specs.FractionLaws.{same_by}
use Rattle.irr_number.specs.Integers.{integers}
use Rattle.irr_number.specs.MultipleLaws.{at-multiple, at-sum, multiple-nat, multiple-neg}
use Rattle.irr_number.specs.Number.{Number, number, numbers, root_power}
use Rattle.irr_number.specs.NumberLaws.{number-mul, number-same}
use Rattle.irr_number.specs.Relation.{IsZero}
use Rattle.irr_number.specs.RelationLaws.{IsZero_notion}
use Rattle.irr_number.specs.SumLaws.{delta_comm, map-sum_below, sum_below-delta, sum_below_cong}
use Rattle.irr_number.proofs.NumberField.{number_field}
use Rattle.irr_number.proofs.Numbers.{of_element}
use Rattle.irr_rational.specs.Integer.{integer}
use Rattle.irr_canonical.specs.Coefficient.{canonical, denominator, number_of, over}
use Rattle.irr_canonical.specs.PowerSum.{power_sum}
use Rattle.irr_canonical.proofs.Forms.{number-canonical}

-- fractions with the same parts are equal
pub fraction-path : {A : Type 0} (a b : Fraction A) → a.num ≡ b.num → a.den ≡ b.den → a ≡ b
fraction-path a b p q = λ i. record { num = p i; den = q i; den_pos = is_prop→PathP (λ j. 0 < q j) (λ j. le_prop) a.den_pos b.den_pos i }

-- a whole number of the numbers that is not 0
pub positive-ne-zero : (N : ℕ) → 0 < N → (d : ℕ) → 0 < d → whole (numbers N) d ≡ (numbers N).zero → ⊥
positive-ne-zero N hN d = whole-ne-zero (number_field N hN) d

-- a positive whole factor cancels
pub eq_of_mul : (N : ℕ) → 0 < N → (d : ℕ) → 0 < d → (x y : Number N) → (numbers N).mul (whole (numbers N) d) x ≡ (numbers N).mul (whole (numbers N) d) y → x ≡ y
eq_of_mul N hN d p x y e = mul_cancel (number_field N hN) (whole (numbers N) d) x y (positive-ne-zero N hN d p) e

module _ (N : ℕ) where
  -- a whole multiple is a product with a whole number
  pub number-multiple : (k : ℤ) (x : Element N) → number N (over_one (algebra N) (multiple N k x)) ≡ (numbers N).mul (integer (numbers N) k) (number N (over_one (algebra N) x))
  unfolding integer
  number-multiple (pos n) x = natural n
    where
      natural : (n : ℕ) → number N (over_one (algebra N) (multiple N (pos n) x)) ≡ (numbers N).mul (whole (numbers N) n) (number N (over_one (algebra N) x))
      natural n = ap (of_element N).map (multiple-nat N n x) ∙ (of_element N).map-mul (whole (algebra N) n) x ∙ ap (λ y. (numbers N).mul y (number N (over_one (algebra N) x))) (map-whole (of_element N) n)
  number-multiple (negsuc n) x = ap (of_element N).map (multiple-neg N (pos (suc n)) x) ∙ map-neg (of_element N) (multiple N (pos (suc n)) x)
      ∙ ap (numbers N).neg (natural (suc n)) ∙ sym (neg-mul (numbers N) (whole (numbers N) (suc n)) (number N (over_one (algebra N) x)))
    where
      natural : (n : ℕ) → number N (over_one (algebra N) (multiple N (pos n) x)) ≡ (numbers N).mul (whole (numbers N) n) (number N (over_one (algebra N) x))
      natural n = ap (of_element N).map (multiple-nat N n x) ∙ (of_element N).map-mul (whole (algebra N) n) x ∙ ap (λ y. (numbers N).mul y (number N (over_one (algebra N) x))) (map-whole (of_element N) n)

  -- an element is the sum of its coefficients times powers
  pub element-powers : (x : Element N) → sum_below (algebra N) N (λ i. multiple N (x.at i) (power N i)) ≡ x
  element-powers x = Element-path N (sum_below (algebra N) N (λ i. multiple N (x.at i) (power N i))) x (λ k lt.
      at-sum N N (λ i. multiple N (x.at i) (power N i)) k lt
      ∙ sum_below_cong integers N (λ i. (multiple N (x.at i) (power N i)).at k) (λ i. delta integers k i *ℤ x.at i) (λ i lti.
      at-multiple N (x.at i) (power N i) k lt
      ∙ ap (λ y. x.at i *ℤ y) (at-power N i k lt ∙ ap (λ y. delta integers y k) (Nat.mod-eq_of_lt lti) ∙ delta_comm integers i k)
      ∙ integers.mul_comm (x.at i) (delta integers k i))
      ∙ sum_below-delta integers N k x.at lt)

  -- coefficients over 1 stand for their sum of powers
  pub number-element : (x : Element N) → number N (over_one (algebra N) x) ≡ power_sum N x.at
  unfolding power_sum root_power
  number-element x =
      ap (of_element N).map (sym (element-powers x))
      ∙ map-sum_below (of_element N) N (λ i. multiple N (x.at i) (power N i))
      ∙ sum_below_cong (numbers N) N (λ i. number N (over_one (algebra N) (multiple N (x.at i) (power N i)))) (λ i. (numbers N).mul (integer (numbers N) (x.at i)) (number N (over_one (algebra N) (power N i))))
      (λ i _. number-multiple (x.at i) (power N i))

  -- sums of equal coefficients
  pub power_sum_cong : (f g : ℕ → ℤ) → ((i : ℕ) → i < N → f i ≡ g i) → power_sum N f ≡ power_sum N g
  unfolding power_sum
  power_sum_cong f g h = sum_below_cong (numbers N) N (λ j. (numbers N).mul (integer (numbers N) (f j)) (root_power N j)) (λ j. (numbers N).mul (integer (numbers N) (g j)) (root_power N j))
      (λ i lt. ap (λ k. (numbers N).mul (integer (numbers N) k) (root_power N i)) (h i lt))

  -- the denominator times the number is the numerator
  pub mul-number : (a : Fraction (Element N)) → (numbers N).mul (whole (numbers N) a.den) (number N a) ≡ number N (over_one (algebra N) a.num)
  unfolding mul_fractions over_one
  mul-number a =
      ap (λ y. (numbers N).mul y (number N a)) (sym (map-whole (of_element N) a.den))
      ∙ sym (number-mul N (over_one (algebra N) (whole (algebra N) a.den)) a)
      ∙ number-same N (mul_fractions (algebra N) (over_one (algebra N) (whole (algebra N) a.den)) a) (over_one (algebra N) a.num)
      (same_by (algebra N) (IsZero N) (IsZero_notion N) (mul_fractions (algebra N) (over_one (algebra N) (whole (algebra N) a.den)) a) (over_one (algebra N) a.num) (cross (algebra N) a.den a.num))
    where
      cross : (R : Ring) (d : ℕ) (x : R.Carrier) → R.mul (whole R 1) (R.mul (whole R d) x) ≡ R.mul (whole R (1 * d)) x
      cross R d x = simp (whole-mul, whole-one R, ring_laws, R)

  -- whole coefficients over a positive denominator
  pub mul-number-element : (a : Fraction (Element N)) → (numbers N).mul (whole (numbers N) a.den) (number N a) ≡ power_sum N a.num.at
  mul-number-element a = mul-number a ∙ number-element a.num

  -- a list of coefficients over a positive denominator, as a fraction
  abbrev pub listed : (xs : List ℤ) (d : ℕ) → 0 < d → Fraction (Element N)
  listed xs d p = over N (λ j. slice_index_or xs j (pos 0)) d p

  pub number_of-same : (xs : List ℤ) (d : ℕ) (p : 0 < d) → number_of N xs d ≡ number N (listed xs d p)
  unfolding number_of
  number_of-same xs zero p = absurd (omega arith)
  number_of-same xs (suc d) p = λ i. number N (listed xs (suc d) (le_prop (Nat.zero-lt-suc d) p i))

  -- over the denominator 0 the number is 0
  pub number_of-zero : (xs : List ℤ) → number_of N xs 0 ≡ (numbers N).zero
  unfolding number_of
  number_of-zero xs = refl

  -- d times the number of coefficients over d
  pub mul-number_of : (xs : List ℤ) (d : ℕ) → 0 < d → (numbers N).mul (whole (numbers N) d) (number_of N xs d) ≡ power_sum N (λ j. slice_index_or xs j (pos 0))
  mul-number_of xs d p = ap ((numbers N).mul (whole (numbers N) d)) (number_of-same xs d p) ∙ mul-number-element (listed xs d p)
      ∙ power_sum_cong (element N (λ j. slice_index_or xs j (pos 0))).at (λ j. slice_index_or xs j (pos 0)) (at-element N (λ j. slice_index_or xs j (pos 0)))

  -- the denominator times the number
  pub mul-denominator : 0 < N → (x : Number N) → (numbers N).mul (whole (numbers N) (denominator N x)) x ≡ power_sum N (canonical N x).num.at
  unfolding denominator
  mul-denominator hN x = ap ((numbers N).mul (whole (numbers N) (canonical N x).den)) (sym (number-canonical N hN x)) ∙ mul-number-element (canonical N x)

  -- a number by its product with a positive whole number
  pub number_of_product : 0 < N → (a : Fraction (Element N)) (x : Number N) → (numbers N).mul (whole (numbers N) a.den) x ≡ number N (over_one (algebra N) a.num) → x ≡ number N a
  number_of_product hN a x e = eq_of_mul N hN a.den a.den_pos x (number N a) (e ∙ sym (mul-number a))
