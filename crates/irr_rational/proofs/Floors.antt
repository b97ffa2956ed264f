-- Floors of rational numbers.
--   floor_of_ratio, bounds_of_floor       k is the floor of a/b exactly where k*b ≤ a < (k+1)*b
--   floor-quotient                        the quotient whose remainder is not negative is such a k
--   floor_of x                            each rational has a floor
--   floor_unique                          and only one
--   fraction-nonneg, fraction-lt          x less its floor is at least 0 and below 1
--   floor-add                             the floor of x and a whole number
--   floor_of_integer                      a whole number is its own floor
use Rattle.std.proofs.Common.{◌≡◌, sym, ◌∙◌, ap, subst, ℕ, suc, ◌<◌, ◌≤◌, ◌/◌, ◌%◌, ◌+◌ as ◌+ℕ◌, ◌*◌ as ◌*ℕ◌, ℤ, pos, negsuc, ◌+ℤ◌, ◌*ℤ◌, neg_ℤ, ◌≤ℤ◌, ◌<ℤ◌, lit<, arith, mod-lt, mul_comm, suc-mul}
use Rattle.std.proofs.lemmas.Int.{ints}
use Rattle.std.specs.Int.{int_div_euclid}
use Rattle.irr_algebra.specs.Ring.{Ring}
use Rattle.irr_algebra.proofs.Rings.{neg-mul, ring_laws}
use Rattle.irr_number.specs.Integers.{integers, *ℤ-one}
use Rattle.irr_rational.specs.Integer.{integer}
use Rattle.irr_rational.specs.Rational.{Rational, rationals, ratio}
use Rattle.irr_rational.specs.Order.{IsFloor, ◌≤ℚ◌, ◌<ℚ◌}
use Rattle.irr_rational.proofs.Integers.{integer-one, integer-add}
use Rattle.irr_rational.proofs.Ratios.{ratio_of, integer-ratio}
use Rattle.irr_rational.proofs.Orders.{ratio-le, le_of_ratio, ratio-lt, lt_of_ratio, le_refl, le-add, lt-add, lt_of_le_of_lt, lt_of_integer, integer-lt}

-- k + 1 as a number
integer-succ : (k : ℤ) → rationals.add (integer rationals k) rationals.one ≡ integer rationals (k +ℤ pos 1)
integer-succ k = ap (rationals.add (integer rationals k)) (sym (integer-one rationals)) ∙ sym (integer-add rationals k (pos 1))

-- k is the floor of a/b where k*b ≤ a < (k+1)*b
pub floor_of_ratio : (a : ℤ) (b : ℕ) (k : ℤ) → 0 < b → (k *ℤ pos b) ≤ℤ a → a <ℤ ((k +ℤ pos 1) *ℤ pos b) → IsFloor (ratio a b) k
floor_of_ratio a b k h l u = record {
  at_most = subst (λ z. z ≤ℚ ratio a b) (sym (integer-ratio k)) (ratio-le k a 1 b (lit< tt) h (subst (λ z. (k *ℤ pos b) ≤ℤ z) (sym (*ℤ-one a)) l));
  below = subst (λ z. ratio a b <ℚ z) (sym (integer-succ k ∙ integer-ratio (k +ℤ pos 1)))
      (ratio-lt a (k +ℤ pos 1) b 1 h (lit< tt) (subst (λ z. z <ℤ ((k +ℤ pos 1) *ℤ pos b)) (sym (*ℤ-one a)) u));
}

-- and only there
pub bounds_of_floor : (a : ℤ) (b : ℕ) (k : ℤ) → 0 < b → IsFloor (ratio a b) k → ((k *ℤ pos b) ≤ℤ a) × (a <ℤ ((k +ℤ pos 1) *ℤ pos b))
bounds_of_floor a b k h f = (
  subst (λ z. (k *ℤ pos b) ≤ℤ z) (*ℤ-one a) (le_of_ratio k a 1 b (lit< tt) h (subst (λ z. z ≤ℚ ratio a b) (integer-ratio k) f.at_most)),
  subst (λ z. z <ℤ ((k +ℤ pos 1) *ℤ pos b)) (*ℤ-one a)
      (lt_of_ratio a (k +ℤ pos 1) b 1 h (lit< tt) (subst (λ z. ratio a b <ℚ z) (integer-succ k ∙ integer-ratio (k +ℤ pos 1)) f.below)),
)

quotient-bounds : (n b : ℕ) → 0 < b → ((n / b) *ℕ b ≤ n) × (n < suc (n / b) *ℕ b)
quotient-bounds n b h =
    let m : n % b < b = mod-lt n h in
    let c : (n / b) *ℕ b ≡ b *ℕ (n / b) = mul_comm (n / b) b in
    let s : suc (n / b) *ℕ b ≡ (n / b) *ℕ b +ℕ b = suc-mul (n / b) b in
    (omega arith, omega arith)

-- the quotient whose remainder is not negative
pub floor-quotient : (a : ℤ) (b : ℕ) → 0 < b → IsFloor (ratio a b) (int_div_euclid a (pos b))
floor-quotient (pos n) b h =
    let t : ((n / b) *ℕ b ≤ n) × (n < suc (n / b) *ℕ b) = quotient-bounds n b h in
    let s : pos (n / b) +ℤ pos 1 ≡ pos (suc (n / b)) = omega (arith, ints) in
    floor_of_ratio (pos n) b (pos (n / b)) h (let l : (n / b) *ℕ b ≤ n = t.0 in omega (arith, ints))
    (subst (λ k. pos n <ℤ (k *ℤ pos b)) (sym s) (let l : n < suc (n / b) *ℕ b = t.1 in omega (arith, ints)))
floor-quotient (negsuc n) b h =
    let t : ((n / b) *ℕ b ≤ n) × (n < suc (n / b) *ℕ b) = quotient-bounds n b h in
    let s : negsuc (n / b) +ℤ pos 1 ≡ neg_ℤ (pos (n / b)) = omega (arith, ints) in
    let e : negsuc (n / b) *ℤ pos b ≡ neg_ℤ (pos (suc (n / b) *ℕ b)) = neg-mul integers (pos (suc (n / b))) (pos b) in
    let f : neg_ℤ (pos (n / b)) *ℤ pos b ≡ neg_ℤ (pos ((n / b) *ℕ b)) = neg-mul integers (pos (n / b)) (pos b) in
    floor_of_ratio (negsuc n) b (negsuc (n / b)) h
    (subst (λ k. k ≤ℤ negsuc n) (sym e) (let l : n < suc (n / b) *ℕ b = t.1 in omega (arith, ints)))
    (subst (λ k. negsuc n <ℤ k) (sym (ap (λ k. k *ℤ pos b) s ∙ f)) (let l : (n / b) *ℕ b ≤ n = t.0 in omega (arith, ints)))

-- each rational has a floor
pub floor_of : (x : Rational) → (k : ℤ) × IsFloor x k
floor_of x = at_ratio (ratio_of x)
  where
    at_ratio : (a : ℤ) × (b : ℕ) × (0 < b) × (ratio a b ≡ x) → (k : ℤ) × IsFloor x k
    at_ratio t = (int_div_euclid t.0 (pos t.1), subst (λ z. IsFloor z (int_div_euclid t.0 (pos t.1))) t.3 (floor-quotient t.0 t.1 t.2))

-- one floor is below each other plus one
floor-bound : (x : Rational) (k l : ℤ) → IsFloor x k → IsFloor x l → k <ℤ (l +ℤ pos 1)
floor-bound x k l f g = lt_of_integer k (l +ℤ pos 1) (subst (λ z. integer rationals k <ℚ z) (integer-succ l)
    (lt_of_le_of_lt (integer rationals k) x (rationals.add (integer rationals l) rationals.one) f.at_most g.below))

-- and only one
pub floor_unique : (x : Rational) (k l : ℤ) → IsFloor x k → IsFloor x l → k ≡ l
floor_unique x k l f g =
    let a : k <ℤ (l +ℤ pos 1) = floor-bound x k l f g in
    let b : l <ℤ (k +ℤ pos 1) = floor-bound x l k g f in
    omega (arith, ints)

-- what is left of x over its floor is not negative
pub fraction-nonneg : (x : Rational) (k : ℤ) → IsFloor x k → rationals.zero ≤ℚ rationals.add x (rationals.neg (integer rationals k))
fraction-nonneg x k f = subst (λ z. z ≤ℚ rationals.add x (rationals.neg (integer rationals k))) (rationals.add-neg (integer rationals k))
    (le-add (integer rationals k) x (rationals.neg (integer rationals k)) f.at_most)

-- and below 1
pub fraction-lt : (x : Rational) (k : ℤ) → IsFloor x k → rationals.add x (rationals.neg (integer rationals k)) <ℚ rationals.one
fraction-lt x k f = subst (λ z. rationals.add x (rationals.neg (integer rationals k)) <ℚ z) (left rationals (integer rationals k) rationals.one)
    (lt-add x (rationals.add (integer rationals k) rationals.one) (rationals.neg (integer rationals k)) f.below)
  where
    left : (R : Ring) (y z : R.Carrier) → R.add (R.add y z) (R.neg y) ≡ z
    left R y z = simp (ring_laws, R)

-- the floor of x and a whole number
pub floor-add : (x : Rational) (k l : ℤ) → IsFloor x k → IsFloor (rationals.add x (integer rationals l)) (k +ℤ l)
floor-add x k l f = record {
  at_most = subst (λ z. z ≤ℚ rationals.add x (integer rationals l)) (sym (integer-add rationals k l)) (le-add (integer rationals k) x (integer rationals l) f.at_most);
  below = subst (λ z. rationals.add x (integer rationals l) <ℚ z) (moved rationals (integer rationals k) (integer rationals l) ∙ ap (λ z. rationals.add z rationals.one) (sym (integer-add rationals k l)))
      (lt-add x (rationals.add (integer rationals k) rationals.one) (integer rationals l) f.below);
}
  where
    moved : (R : Ring) (y z : R.Carrier) → R.add (R.add y R.one) z ≡ R.add (R.add y z) R.one
    moved R y z = simp (ring_laws, R)

pub floor_of_integer : (k : ℤ) → IsFloor (integer rationals k) k
floor_of_integer k = record {
  at_most = le_refl (integer rationals k);
  below = subst (λ z. integer rationals k <ℚ z) (sym (integer-succ k)) (integer-lt k (k +ℤ pos 1) (omega (arith, ints)));
}
