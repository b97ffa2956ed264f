-- The order of the rational numbers.
--   nonneg_ratio, nonneg_of_ratio         a/b is not negative exactly where a is not
--   nonneg-add, nonneg-mul                sums and products
--   nonneg_of_le, le_of_nonneg            what is not negative is at least 0
--   ratio-le, le_of_ratio, ratio-lt, lt_of_ratio      a/b ≤ c/d exactly where a*d ≤ c*b, and the same for <
--   integer-le, le_of_integer, integer-lt, lt_of_integer    the order of whole numbers is theirs
--   le_refl, le_antisymm, le_trans, le_or_lt          a total order, decided
--   lt_irrefl, not_le_of_lt, lt_of_lt_of_le, lt_of_le_of_lt, lt_trans
--   le-add, lt-add, le-mul                a number added to both sides, a factor that is not negative
use Rattle.std.proofs.Common.{◌≡◌, sym, refl, ◌∙◌, ap, subst, subst₂, ℕ, suc, ◌<◌, ◌*◌ as ◌*ℕ◌, ◌⊎◌, inl, inr, ℤ, pos, negsuc, ◌+ℤ◌, ◌*ℤ◌, neg_ℤ, ◌≤ℤ◌, ◌<ℤ◌, lit<, arith, mul-pos}
use Rattle.std.proofs.lemmas.Int.{ints, by_lt_z}
use Rattle.irr_algebra.specs.Ring.{Ring, whole}
use Rattle.irr_algebra.proofs.Rings.{mul-zero, neg-mul, neg-zero, ring_laws}
use Rattle.irr_number.specs.FractionLaws.{sub-trans}
use Rattle.irr_number.specs.Integers.{integers, *ℤ-one}
use Rattle.irr_rational.specs.Integer.{integer}
use Rattle.irr_rational.specs.Rational.{Rational, rationals, rational_field, ratio}
use Rattle.irr_rational.specs.Order.{IsNonNegative, ◌≤ℚ◌, ◌<ℚ◌}
use Rattle.irr_rational.proofs.Integers.{integer-pos, integer-zero}
use Rattle.irr_rational.proofs.Ratios.{IsOver, over-add, over-mul, over_cross, ratio-over, ratio_is, ratio_of, ratio-add, ratio-neg, ratio_same, cross_of_ratio, integer-ratio}

-- signs of products of whole numbers

sign-mul : (a : ℤ) (t : ℕ) → pos 0 ≤ℤ a → pos 0 ≤ℤ (a *ℤ pos t)
sign-mul (pos n) t h = omega (arith, ints)
sign-mul (negsuc n) t h = absurd (omega (arith, ints))

sign_of_mul : (a : ℤ) (t : ℕ) → 0 < t → pos 0 ≤ℤ (a *ℤ pos t) → pos 0 ≤ℤ a
sign_of_mul (pos n) t h l = omega (arith, ints)
sign_of_mul (negsuc n) t h l =
    let e : negsuc n *ℤ pos t ≡ neg_ℤ (pos (suc n *ℕ t)) = neg-mul integers (pos (suc n)) (pos t) in
    let p : 0 < suc n *ℕ t = mul-pos (omega arith) h in
    absurd (omega (arith, ints))

-- a number is over a positive denominator what its multiple says

over_of_nonneg : (x : Rational) (h : IsNonNegative x) → IsOver rationals x (pos h.number) h.times
over_of_nonneg x h = h.multiple ∙ sym (integer-pos rationals h.number)

nonneg_of_over : (x : Rational) (n b : ℕ) → 0 < b → IsOver rationals x (pos n) b → IsNonNegative x
nonneg_of_over x n b h e = record { times = b; positive = h; number = n; multiple = e ∙ integer-pos rationals n }

pub nonneg_ratio : (a : ℤ) (b : ℕ) → 0 < b → pos 0 ≤ℤ a → IsNonNegative (ratio a b)
nonneg_ratio (pos n) b h l = nonneg_of_over (ratio (pos n) b) n b h (ratio-over (pos n) b h)
nonneg_ratio (negsuc n) b h l = absurd (omega (arith, ints))

pub nonneg_of_ratio : (a : ℤ) (b : ℕ) → 0 < b → IsNonNegative (ratio a b) → pos 0 ≤ℤ a
nonneg_of_ratio a b h l = sign_of_mul a l.times l.positive
    (subst (λ k. pos 0 ≤ℤ k) (sym (over_cross rational_field (ratio a b) a (pos l.number) b l.times (ratio-over a b h) (over_of_nonneg (ratio a b) l)))
    (sign-mul (pos l.number) b (omega (arith, ints))))

pub nonneg-add : (x y : Rational) → IsNonNegative x → IsNonNegative y → IsNonNegative (rationals.add x y)
nonneg-add x y h k = nonneg_of_over (rationals.add x y) _ (h.times *ℕ k.times) (mul-pos h.positive k.positive)
    (over-add rationals x y (pos h.number) (pos k.number) h.times k.times (over_of_nonneg x h) (over_of_nonneg y k))

pub nonneg-mul : (x y : Rational) → IsNonNegative x → IsNonNegative y → IsNonNegative (rationals.mul x y)
nonneg-mul x y h k = nonneg_of_over (rationals.mul x y) _ (h.times *ℕ k.times) (mul-pos h.positive k.positive)
    (over-mul rationals x y (pos h.number) (pos k.number) h.times k.times (over_of_nonneg x h) (over_of_nonneg y k))

pub ratio-zero : (b : ℕ) → 0 < b → ratio (pos 0) b ≡ rationals.zero
ratio-zero b h = ratio_is rationals.zero (pos 0) b h (mul-zero rationals (whole rationals b) ∙ sym (integer-zero rationals))

sub-zero : (R : Ring) (x : R.Carrier) → R.add x (R.neg R.zero) ≡ x
sub-zero R x = ap (R.add x) (neg-zero R) ∙ R.add-zero x

pub nonneg_of_le : (x : Rational) → rationals.zero ≤ℚ x → IsNonNegative x
nonneg_of_le x = subst IsNonNegative (sub-zero rationals x)

pub le_of_nonneg : (x : Rational) → IsNonNegative x → rationals.zero ≤ℚ x
le_of_nonneg x = subst IsNonNegative (sym (sub-zero rationals x))

-- ratios

ratio-sub : (a c : ℤ) (b d : ℕ) → 0 < b → 0 < d → ratio ((c *ℤ pos b) +ℤ (neg_ℤ a *ℤ pos d)) (d *ℕ b) ≡ rationals.add (ratio c d) (rationals.neg (ratio a b))
ratio-sub a c b d hb hd = ratio-add c (neg_ℤ a) d b hd hb ∙ ap (rationals.add (ratio c d)) (ratio-neg a b hb)

pub ratio-le : (a c : ℤ) (b d : ℕ) → 0 < b → 0 < d → (a *ℤ pos d) ≤ℤ (c *ℤ pos b) → ratio a b ≤ℚ ratio c d
ratio-le a c b d hb hd l = subst IsNonNegative (ratio-sub a c b d hb hd) (nonneg_ratio ((c *ℤ pos b) +ℤ (neg_ℤ a *ℤ pos d)) (d *ℕ b) (mul-pos hd hb)
    (subst (λ k. pos 0 ≤ℤ ((c *ℤ pos b) +ℤ k)) (sym (neg-mul integers a (pos d))) (omega (arith, ints))))

pub le_of_ratio : (a c : ℤ) (b d : ℕ) → 0 < b → 0 < d → ratio a b ≤ℚ ratio c d → (a *ℤ pos d) ≤ℤ (c *ℤ pos b)
le_of_ratio a c b d hb hd l =
    let k : pos 0 ≤ℤ ((c *ℤ pos b) +ℤ (neg_ℤ a *ℤ pos d)) = nonneg_of_ratio ((c *ℤ pos b) +ℤ (neg_ℤ a *ℤ pos d)) (d *ℕ b) (mul-pos hd hb) (subst IsNonNegative (sym (ratio-sub a c b d hb hd)) l) in
    let e : neg_ℤ a *ℤ pos d ≡ neg_ℤ (a *ℤ pos d) = neg-mul integers a (pos d) in
    omega (arith, ints)

pub ratio-lt : (a c : ℤ) (b d : ℕ) → 0 < b → 0 < d → (a *ℤ pos d) <ℤ (c *ℤ pos b) → ratio a b <ℚ ratio c d
ratio-lt a c b d hb hd l = (ratio-le a c b d hb hd (omega (arith, ints)), λ e. absurd (let k : a *ℤ pos d ≡ c *ℤ pos b = cross_of_ratio a c b d hb hd e in omega (arith, ints)))

pub lt_of_ratio : (a c : ℤ) (b d : ℕ) → 0 < b → 0 < d → ratio a b <ℚ ratio c d → (a *ℤ pos d) <ℤ (c *ℤ pos b)
lt_of_ratio a c b d hb hd l = by_lt_z (a *ℤ pos d) (c *ℤ pos b) (λ h. h) (λ h. absurd (l.1 (ratio_same a c b d hb hd
    (let k : (a *ℤ pos d) ≤ℤ (c *ℤ pos b) = le_of_ratio a c b d hb hd l.0 in omega (arith, ints)))))

-- the order is total and decided
pub le_or_lt : (x y : Rational) → (x ≤ℚ y) ⊎ (y <ℚ x)
le_or_lt x y = at_ratios (ratio_of x) (ratio_of y)
  where
    at_ratios : (a : ℤ) × (b : ℕ) × (0 < b) × (ratio a b ≡ x) → (a : ℤ) × (b : ℕ) × (0 < b) × (ratio a b ≡ y) → (x ≤ℚ y) ⊎ (y <ℚ x)
    at_ratios s t = by_lt_z (t.0 *ℤ pos s.1) (s.0 *ℤ pos t.1)
        (λ l. inr (subst₂ (λ x y. y <ℚ x) s.3 t.3 (ratio-lt t.0 s.0 t.1 s.1 t.2 s.2 l)))
        (λ l. inl (subst₂ (λ x y. x ≤ℚ y) s.3 t.3 (ratio-le s.0 t.0 s.1 t.1 s.2 t.2 l)))

pub le_refl : (x : Rational) → x ≤ℚ x
le_refl x = subst IsNonNegative (ratio-zero 1 (lit< tt) ∙ sym (rationals.add-neg x)) (nonneg_ratio (pos 0) 1 (lit< tt) (omega (arith, ints)))

pub le_of_eq : (x y : Rational) → x ≡ y → x ≤ℚ y
le_of_eq x y e = subst (λ z. x ≤ℚ z) e (le_refl x)

pub le_antisymm : (x y : Rational) → x ≤ℚ y → y ≤ℚ x → x ≡ y
le_antisymm x y h k = at_ratios (ratio_of x) (ratio_of y)
  where
    at_ratios : (a : ℤ) × (b : ℕ) × (0 < b) × (ratio a b ≡ x) → (a : ℤ) × (b : ℕ) × (0 < b) × (ratio a b ≡ y) → x ≡ y
    at_ratios s t =
        let l : (s.0 *ℤ pos t.1) ≤ℤ (t.0 *ℤ pos s.1) = le_of_ratio s.0 t.0 s.1 t.1 s.2 t.2 (subst₂ ◌≤ℚ◌ (sym s.3) (sym t.3) h) in
        let m : (t.0 *ℤ pos s.1) ≤ℤ (s.0 *ℤ pos t.1) = le_of_ratio t.0 s.0 t.1 s.1 t.2 s.2 (subst₂ ◌≤ℚ◌ (sym t.3) (sym s.3) k) in
        sym s.3 ∙ ratio_same s.0 t.0 s.1 t.1 s.2 t.2 (omega (arith, ints)) ∙ t.3

pub le_trans : (x y z : Rational) → x ≤ℚ y → y ≤ℚ z → x ≤ℚ z
le_trans x y z h k = subst IsNonNegative (sub-trans rationals z y x) (nonneg-add (rationals.add z (rationals.neg y)) (rationals.add y (rationals.neg x)) k h)

pub lt_irrefl : (x : Rational) → x <ℚ x → ⊥
lt_irrefl x l = l.1 refl

pub not_le_of_lt : (x y : Rational) → x <ℚ y → y ≤ℚ x → ⊥
not_le_of_lt x y l k = l.1 (le_antisymm x y l.0 k)

pub lt_of_not_le : (x y : Rational) → (y ≤ℚ x → ⊥) → x <ℚ y
lt_of_not_le x y n = elim (le_or_lt y x) [ inl l ↦ absurd (n l) | inr l ↦ l ]

pub lt_of_lt_of_le : (x y z : Rational) → x <ℚ y → y ≤ℚ z → x <ℚ z
lt_of_lt_of_le x y z l k = (le_trans x y z l.0 k, λ e. not_le_of_lt x y l (subst (λ w. y ≤ℚ w) (sym e) k))

pub lt_of_le_of_lt : (x y z : Rational) → x ≤ℚ y → y <ℚ z → x <ℚ z
lt_of_le_of_lt x y z k l = (le_trans x y z k l.0, λ e. not_le_of_lt y z l (subst (λ w. w ≤ℚ y) e k))

pub lt_trans : (x y z : Rational) → x <ℚ y → y <ℚ z → x <ℚ z
lt_trans x y z l k = lt_of_lt_of_le x y z l k.0

-- a number is added to both sides
pub le-add : (x y z : Rational) → x ≤ℚ y → rationals.add x z ≤ℚ rationals.add y z
le-add x y z h = subst IsNonNegative (moved rationals x y z) h
  where
    moved : (R : Ring) (x y z : R.Carrier) → R.add y (R.neg x) ≡ R.add (R.add y z) (R.neg (R.add x z))
    moved R x y z = simp (ring_laws, R)

pub add_cancel_right : (x y z : Rational) → rationals.add x z ≡ rationals.add y z → x ≡ y
add_cancel_right x y z e = sym (back rationals x z) ∙ ap (λ u. rationals.add u (rationals.neg z)) e ∙ back rationals y z
  where
    back : (R : Ring) (x z : R.Carrier) → R.add (R.add x z) (R.neg z) ≡ x
    back R x z = R.add_assoc x z (R.neg z) ∙ ap (R.add x) (R.add-neg z) ∙ R.add-zero x

pub lt-add : (x y z : Rational) → x <ℚ y → rationals.add x z <ℚ rationals.add y z
lt-add x y z l = (le-add x y z l.0, λ e. l.1 (add_cancel_right x y z e))

-- both sides are multiplied by what is not negative
pub le-mul : (x y z : Rational) → rationals.zero ≤ℚ z → x ≤ℚ y → rationals.mul z x ≤ℚ rationals.mul z y
le-mul x y z h k = subst IsNonNegative (spread rationals x y z) (nonneg-mul z (rationals.add y (rationals.neg x)) (nonneg_of_le z h) k)
  where
    spread : (R : Ring) (x y z : R.Carrier) → R.mul z (R.add y (R.neg x)) ≡ R.add (R.mul z y) (R.neg (R.mul z x))
    spread R x y z = simp (ring_laws, R)

-- whole numbers have the order of whole numbers

pub integer-le : (k l : ℤ) → k ≤ℤ l → integer rationals k ≤ℚ integer rationals l
integer-le k l h = subst₂ ◌≤ℚ◌ (sym (integer-ratio k)) (sym (integer-ratio l)) (ratio-le k l 1 1 (lit< tt) (lit< tt) (subst₂ ◌≤ℤ◌ (sym (*ℤ-one k)) (sym (*ℤ-one l)) h))

pub le_of_integer : (k l : ℤ) → integer rationals k ≤ℚ integer rationals l → k ≤ℤ l
le_of_integer k l h = subst₂ ◌≤ℤ◌ (*ℤ-one k) (*ℤ-one l) (le_of_ratio k l 1 1 (lit< tt) (lit< tt) (subst₂ ◌≤ℚ◌ (integer-ratio k) (integer-ratio l) h))

pub integer-lt : (k l : ℤ) → k <ℤ l → integer rationals k <ℚ integer rationals l
integer-lt k l h = subst₂ ◌<ℚ◌ (sym (integer-ratio k)) (sym (integer-ratio l)) (ratio-lt k l 1 1 (lit< tt) (lit< tt) (subst₂ ◌<ℤ◌ (sym (*ℤ-one k)) (sym (*ℤ-one l)) h))

pub lt_of_integer : (k l : ℤ) → integer rationals k <ℚ integer rationals l → k <ℤ l
lt_of_integer k l h = subst₂ ◌<ℤ◌ (*ℤ-one k) (*ℤ-one l) (lt_of_ratio k l 1 1 (lit< tt) (lit< tt) (subst₂ ◌<ℚ◌ (integer-ratio k) (integer-ratio l) h))
