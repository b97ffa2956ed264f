-- Rational numbers as ratios of whole numbers.
--   IsOver R x a b                      b times x is a
--   ratio-over                          a over b is such a number, where b is positive
--   ratio_is, over_of_ratio             it is the only one
--   ratio-none                          and over 0 it is 0
--   ratio_of x                          each rational is a ratio with a positive denominator
--   ratio_same, cross_of_ratio          two ratios are equal exactly where their cross products are
--   ratio-add, ratio-mul, ratio-neg     sums, products and negatives of ratios
--   integer-ratio                       the whole number k is k over 1
--   ratio-scale                         a common factor cancels
use Rattle.std.proofs.Common.{◌≡◌, sym, refl, ◌∙◌, ap, ap₂, ℕ, zero, suc, ◌<◌, ◌*◌ as ◌*ℕ◌, ℤ, pos, negsuc, ◌+ℤ◌, ◌*ℤ◌, neg_ℤ, lit<, arith, mul-pos}
use Rattle.irr_algebra.specs.Ring.{Ring, whole}
use Rattle.irr_algebra.specs.Field.{Field}
use Rattle.irr_algebra.proofs.Rings.{mul-zero, one-mul, mul_left_comm, ring_laws}
use Rattle.irr_algebra.proofs.Whole.{whole-one, whole-mul}
use Rattle.irr_algebra.proofs.Fields.{whole-ne-zero, mul_cancel}
use Rattle.irr_algebra.proofs.Homomorphisms.{map-whole}
use Rattle.irr_number.specs.Algebra.{Element-path, algebra, at-neg, at-power}
use Rattle.irr_number.specs.Element.{Element, delta, power}
use Rattle.irr_number.specs.Fraction.{Fraction, mul_fractions, over_one}
use Rattle.irr_number.specs.FractionLaws.{same_by}
use Rattle.irr_number.specs.Integers.{*ℤ-one}
use Rattle.irr_number.specs.Number.{number}
use Rattle.irr_number.specs.NumberLaws.{number-mul, number-same}
use Rattle.irr_number.specs.Relation.{IsZero}
use Rattle.irr_number.specs.RelationLaws.{IsZero_notion}
use Rattle.irr_number.proofs.Canonical.{canonical_form}
use Rattle.irr_number.proofs.FixedElements.{at-whole_mul}
use Rattle.irr_number.proofs.NumberField.{inverse-zero}
use Rattle.irr_number.proofs.Numbers.{of_element}
use Rattle.irr_rational.specs.Integer.{integer}
use Rattle.irr_rational.specs.Rational.{Rational, rationals, rational_field, ratio}
use Rattle.irr_rational.proofs.Integers.{integer-pos, integer-zero, integer-add, integer-mul, integer-neg, map-integer, integer_inj}

-- b times x is a
abbrev pub IsOver : (R : Ring) → R.Carrier → ℤ → ℕ → Type 0
IsOver R x a b = R.mul (whole R b) x ≡ integer R a

module _ (R : Ring) where
  open R use {Carrier, add as ◌+◌, mul as ◌*◌, neg}

  infixl 65 ◌+◌
  infixl 70 ◌*◌
  integer-times : (a : ℤ) (d : ℕ) → integer R (a *ℤ pos d) ≡ integer R a * whole R d
  integer-times a d = integer-mul R a (pos d) ∙ ap (λ w. integer R a * w) (integer-pos R d)

  pub over-integer : (k : ℤ) → IsOver R (integer R k) k 1
  over-integer k = ap (λ w. w * integer R k) (whole-one R) ∙ one-mul R (integer R k)

  pub over-add : (x y : Carrier) (a c : ℤ) (b d : ℕ) → IsOver R x a b → IsOver R y c d → IsOver R (x + y) ((a *ℤ pos d) +ℤ (c *ℤ pos b)) (b *ℕ d)
  over-add x y a c b d e f =
      ap (λ w. w * (x + y)) (whole-mul R b d) ∙ sorted (whole R b) (whole R d) x y ∙ ap₂ R.add (ap (λ u. u * whole R d) e) (ap (λ u. u * whole R b) f)
      ∙ ap₂ R.add (sym (integer-times a d)) (sym (integer-times c b)) ∙ sym (integer-add R (a *ℤ pos d) (c *ℤ pos b))
    where
      sorted : (v w x y : Carrier) → v * w * (x + y) ≡ v * x * w + w * y * v
      sorted v w x y = simp (ring_laws, R)

  pub over-mul : (x y : Carrier) (a c : ℤ) (b d : ℕ) → IsOver R x a b → IsOver R y c d → IsOver R (x * y) (a *ℤ c) (b *ℕ d)
  over-mul x y a c b d e f =
      ap (λ w. w * (x * y)) (whole-mul R b d) ∙ sorted (whole R b) (whole R d) x y ∙ ap₂ R.mul e f ∙ sym (integer-mul R a c)
    where
      sorted : (v w x y : Carrier) → v * w * (x * y) ≡ v * x * (w * y)
      sorted v w x y = simp (ring_laws, R)

  pub over-neg : (x : Carrier) (a : ℤ) (b : ℕ) → IsOver R x a b → IsOver R (neg x) (neg_ℤ a) b
  over-neg x a b e = moved (whole R b) x ∙ ap neg e ∙ sym (integer-neg R a)
    where
      moved : (v x : Carrier) → v * neg x ≡ neg (v * x)
      moved v x = simp (ring_laws, R)

  pub over-scale : (x : Carrier) (a : ℤ) (b k : ℕ) → IsOver R x a b → IsOver R x (pos k *ℤ a) (k *ℕ b)
  over-scale x a b k e = ap (λ w. w * x) (whole-mul R k b) ∙ R.mul_assoc (whole R k) (whole R b) x ∙ ap₂ R.mul (sym (integer-pos R k)) e ∙ sym (integer-mul R (pos k) a)

module _ (F : Field) where
  open F use {ring as R, Carrier, mul as ◌*◌}

  infixl 70 ◌*◌
  pub over_same : (x y : Carrier) (a c : ℤ) (b d : ℕ) → 0 < b → 0 < d → IsOver R x a b → IsOver R y c d → a *ℤ pos d ≡ c *ℤ pos b → x ≡ y
  over_same x y a c b d hb hd e f h = mul_cancel F (whole R (b *ℕ d)) x y (whole-ne-zero F (b *ℕ d) (mul-pos hb hd))
      (left x b d ∙ ap (λ u. u * whole R d) e ∙ sym (integer-times R a d) ∙ ap (integer R) h ∙ integer-times R c b
      ∙ ap (λ u. u * whole R b) (sym f) ∙ sym (right y b d))
    where
      left : (x : Carrier) (b d : ℕ) → whole R (b *ℕ d) * x ≡ whole R b * x * whole R d
      left x b d = ap (λ w. w * x) (whole-mul R b d) ∙ simp (ring_laws, R)

      right : (x : Carrier) (b d : ℕ) → whole R (b *ℕ d) * x ≡ whole R d * x * whole R b
      right x b d = ap (λ w. w * x) (whole-mul R b d) ∙ simp (ring_laws, R)

  pub over_cross : (x : Carrier) (a c : ℤ) (b d : ℕ) → IsOver R x a b → IsOver R x c d → a *ℤ pos d ≡ c *ℤ pos b
  over_cross x a c b d e f = integer_inj F (a *ℤ pos d) (c *ℤ pos b)
      (integer-times R a d ∙ ap (λ u. u * whole R d) (sym e) ∙ swapped (whole R b) (whole R d) x ∙ ap (λ u. u * whole R b) f ∙ sym (integer-times R c b))
    where
      swapped : (v w x : Carrier) → v * x * w ≡ w * x * v
      swapped v w x = simp (ring_laws, R)

pub ratio-over : (a : ℤ) (b : ℕ) → 0 < b → IsOver rationals (ratio a b) a b
unfolding ratio
ratio-over a b h =
    mul_left_comm rationals (whole rationals b) (integer rationals a) (rational_field.inverse (integer rationals (pos b)))
    ∙ ap (λ w. rationals.mul (integer rationals a) (rationals.mul w (rational_field.inverse (integer rationals (pos b))))) (sym (integer-pos rationals b))
    ∙ ap (rationals.mul (integer rationals a)) (rational_field.mul-inverse (integer rationals (pos b)) (λ e. whole-ne-zero rational_field b h (sym (integer-pos rationals b) ∙ e)))
    ∙ rationals.mul-one (integer rationals a)

-- over 0 it is 0
pub ratio-none : (a : ℤ) → ratio a 0 ≡ rationals.zero
unfolding ratio
ratio-none a = ap (rationals.mul (integer rationals a)) (ap rational_field.inverse (integer-zero rationals) ∙ inverse-zero 1 (lit< tt)) ∙ mul-zero rationals (integer rationals a)

-- the ratio is the only number that b times makes a
pub ratio_is : (x : Rational) (a : ℤ) (b : ℕ) → 0 < b → IsOver rationals x a b → ratio a b ≡ x
ratio_is x a b h e = over_same rational_field (ratio a b) x a a b b h h (ratio-over a b h) e refl

pub over_of_ratio : (x : Rational) (a : ℤ) (b : ℕ) → 0 < b → ratio a b ≡ x → IsOver rationals x a b
over_of_ratio x a b h e = ap (rationals.mul (whole rationals b)) (sym e) ∙ ratio-over a b h

-- coefficients of order 1

one-at : (i : ℕ) → i < 1 → (power 1 0).at i ≡ pos 1
unfolding delta
one-at zero lt = at-power 1 0 0 lt
one-at (suc i) lt = absurd (omega arith)

natural-at : (n i : ℕ) → i < 1 → (whole (algebra 1) n).at i ≡ pos n
natural-at n i lt = ap (λ (x : Element 1). x.at i) (sym ((algebra 1).mul-one (whole (algebra 1) n))) ∙ at-whole_mul 1 n (power 1 0) i lt
    ∙ ap (λ k. pos n *ℤ k) (one-at i lt) ∙ *ℤ-one (pos n)

integer-at : (k : ℤ) (i : ℕ) → i < 1 → (integer (algebra 1) k).at i ≡ k
unfolding integer
integer-at (pos n) i lt = natural-at n i lt
integer-at (negsuc n) i lt = at-neg 1 (whole (algebra 1) (suc n)) i lt ∙ ap neg_ℤ (natural-at (suc n) i lt)

-- an element of order 1 is the whole number of its coefficient
element_is : (x : Element 1) → x ≡ integer (algebra 1) (x.at 0)
element_is x = Element-path 1 x (integer (algebra 1) (x.at 0)) (λ i lt. only i lt ∙ sym (integer-at (x.at 0) i lt))
  where
    only : (i : ℕ) → i < 1 → x.at i ≡ x.at 0
    only zero lt = refl
    only (suc i) lt = absurd (omega arith)

-- its denominator times the number of a fraction is its coefficient
number-over : (f : Fraction (Element 1)) → IsOver rationals (number 1 f) (f.num.at 0) f.den
unfolding over_one mul_fractions
number-over f =
    ap (λ w. rationals.mul w (number 1 f)) (sym (map-whole (of_element 1) f.den))
    ∙ sym (number-mul 1 (over_one (algebra 1) (whole (algebra 1) f.den)) f)
    ∙ number-same 1 (mul_fractions (algebra 1) (over_one (algebra 1) (whole (algebra 1) f.den)) f) (over_one (algebra 1) f.num)
    (same_by (algebra 1) (IsZero 1) (IsZero_notion 1) (mul_fractions (algebra 1) (over_one (algebra 1) (whole (algebra 1) f.den)) f) (over_one (algebra 1) f.num)
    (same (algebra 1) f.den f.num))
    ∙ ap (of_element 1).map (element_is f.num) ∙ map-integer (of_element 1) (f.num.at 0)
  where
    same : (R : Ring) (d : ℕ) (x : R.Carrier) → R.mul (whole R 1) (R.mul (whole R d) x) ≡ R.mul (whole R (1 *ℕ d)) x
    same R d x = simp (whole-mul, whole-one R, ring_laws, R)

-- each rational is a ratio
pub ratio_of : (x : Rational) → (a : ℤ) × (b : ℕ) × (0 < b) × (ratio a b ≡ x)
ratio_of x = at_form (canonical_form 1 (lit< tt) x).0 (canonical_form 1 (lit< tt) x).1.1
  where
    at_form : (f : Fraction (Element 1)) → number 1 f ≡ x → (a : ℤ) × (b : ℕ) × (0 < b) × (ratio a b ≡ x)
    at_form f e = (f.num.at 0, f.den, f.den_pos, ratio_is (number 1 f) (f.num.at 0) f.den f.den_pos (number-over f) ∙ e)

-- equal cross products
pub ratio_same : (a c : ℤ) (b d : ℕ) → 0 < b → 0 < d → a *ℤ pos d ≡ c *ℤ pos b → ratio a b ≡ ratio c d
ratio_same a c b d hb hd e = over_same rational_field (ratio a b) (ratio c d) a c b d hb hd (ratio-over a b hb) (ratio-over c d hd) e

pub cross_of_ratio : (a c : ℤ) (b d : ℕ) → 0 < b → 0 < d → ratio a b ≡ ratio c d → a *ℤ pos d ≡ c *ℤ pos b
cross_of_ratio a c b d hb hd e = over_cross rational_field (ratio c d) a c b d (over_of_ratio (ratio c d) a b hb e) (ratio-over c d hd)

pub ratio-add : (a c : ℤ) (b d : ℕ) → 0 < b → 0 < d → ratio ((a *ℤ pos d) +ℤ (c *ℤ pos b)) (b *ℕ d) ≡ rationals.add (ratio a b) (ratio c d)
ratio-add a c b d hb hd = ratio_is (rationals.add (ratio a b) (ratio c d)) ((a *ℤ pos d) +ℤ (c *ℤ pos b)) (b *ℕ d) (mul-pos hb hd)
    (over-add rationals (ratio a b) (ratio c d) a c b d (ratio-over a b hb) (ratio-over c d hd))

pub ratio-mul : (a c : ℤ) (b d : ℕ) → 0 < b → 0 < d → ratio (a *ℤ c) (b *ℕ d) ≡ rationals.mul (ratio a b) (ratio c d)
ratio-mul a c b d hb hd = ratio_is (rationals.mul (ratio a b) (ratio c d)) (a *ℤ c) (b *ℕ d) (mul-pos hb hd)
    (over-mul rationals (ratio a b) (ratio c d) a c b d (ratio-over a b hb) (ratio-over c d hd))

pub ratio-neg : (a : ℤ) (b : ℕ) → 0 < b → ratio (neg_ℤ a) b ≡ rationals.neg (ratio a b)
ratio-neg a b h = ratio_is (rationals.neg (ratio a b)) (neg_ℤ a) b h (over-neg rationals (ratio a b) a b (ratio-over a b h))

-- the whole number k is k over 1
pub integer-ratio : (k : ℤ) → integer rationals k ≡ ratio k 1
integer-ratio k = sym (ratio_is (integer rationals k) k 1 (lit< tt) (over-integer rationals k))

-- a common factor cancels
pub ratio-scale : (a : ℤ) (b k : ℕ) → 0 < b → 0 < k → ratio (pos k *ℤ a) (k *ℕ b) ≡ ratio a b
ratio-scale a b k hb hk = ratio_is (ratio a b) (pos k *ℤ a) (k *ℕ b) (mul-pos hk hb) (over-scale rationals (ratio a b) a b k (ratio-over a b hb))
