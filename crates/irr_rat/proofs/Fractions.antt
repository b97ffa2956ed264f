-- Fractions of whole numbers over positive ones.
--   fraction-add, fraction-sub, fraction-mul     sums, differences and products
--   match_of_fractions                           two fractions compare as their cross products
--   floor_of_fraction                            the quotient whose remainder is not negative
--   reduced_quotients                            both numbers over their greatest common divisor
--   product_positive, divisor_positive           signs
use Rattle.std.proofs.Common.{◌≡◌, ◌∙◌, ap, ℕ, ◌<◌, ℤ, pos, negsuc, ◌+ℤ◌, ◌-ℤ◌, ◌*ℤ◌, ◌<ℤ◌, ◌≤ℤ◌, neg_ℤ, unsigned_abs, arith, mul-pos}
use Rattle.std.proofs.lemmas.Int.{ints}
use Rattle.std.specs.Int.{IsGcd, int_div_euclid}
use Rattle.std.specs.Int.RustNames.{int_div}
use Rattle.std.specs.Ordering.{MatchOrdering}
use Rattle.std.specs.declared.cmp.Ordering.{Ordering}
use Rattle.irr_number.proofs.Primes.{divisor_pos}
use Rattle.irr_rational.specs.Rational.{rationals, ratio}
use Rattle.irr_rational.specs.Order.{◌<ℚ◌, IsFloor}
use Rattle.irr_rational.proofs.Ratios.{ratio-add, ratio-mul, ratio-neg}
use Rattle.irr_rational.proofs.Floors.{floor-quotient}
use Rattle.irr_rational.proofs.LowestTerms.{lowest_quotients}
use Rattle.irr_rat.specs.RatioMeaning.{fraction, IsReduced}
use Rattle.irr_rat.proofs.Lexicographic.{match_of_ratio}
use Rattle.irr_rat.proofs.Vectors.{difference}

natural_pos : (n : ℕ) → pos 0 <ℤ pos n → 0 < n
natural_pos n h = omega (arith, ints)

pub product_positive : (b d : ℤ) → pos 0 <ℤ b → pos 0 <ℤ d → pos 0 <ℤ (b *ℤ d)
product_positive (pos m) (pos n) h k = let p = mul-pos (natural_pos m h) (natural_pos n k) in omega (arith, ints, p)
product_positive (pos m) (negsuc n) h k = absurd (omega (arith, ints))
product_positive (negsuc m) d h k = absurd (omega (arith, ints))

pub fraction-add : (a b c d : ℤ) → pos 0 <ℤ b → pos 0 <ℤ d → fraction ((a *ℤ d) +ℤ (c *ℤ b)) (b *ℤ d) ≡ rationals.add (fraction a b) (fraction c d)
fraction-add a (pos m) c (pos n) h k = ratio-add a c m n (natural_pos m h) (natural_pos n k)
fraction-add a (pos m) c (negsuc n) h k = absurd (omega (arith, ints))
fraction-add a (negsuc m) c d h k = absurd (omega (arith, ints))

pub fraction-sub : (a b c d : ℤ) → pos 0 <ℤ b → pos 0 <ℤ d → fraction ((a *ℤ d) -ℤ (c *ℤ b)) (b *ℤ d) ≡ rationals.add (fraction a b) (rationals.neg (fraction c d))
fraction-sub a (pos m) c (pos n) h k = ap (λ x. fraction x (pos m *ℤ pos n)) (difference a c m n) ∙ ratio-add a (neg_ℤ c) m n (natural_pos m h) (natural_pos n k)
    ∙ ap (rationals.add (ratio a m)) (ratio-neg c n (natural_pos n k))
fraction-sub a (pos m) c (negsuc n) h k = absurd (omega (arith, ints))
fraction-sub a (negsuc m) c d h k = absurd (omega (arith, ints))

pub fraction-mul : (a b c d : ℤ) → pos 0 <ℤ b → pos 0 <ℤ d → fraction (a *ℤ c) (b *ℤ d) ≡ rationals.mul (fraction a b) (fraction c d)
fraction-mul a (pos m) c (pos n) h k = ratio-mul a c m n (natural_pos m h) (natural_pos n k)
fraction-mul a (pos m) c (negsuc n) h k = absurd (omega (arith, ints))
fraction-mul a (negsuc m) c d h k = absurd (omega (arith, ints))

pub match_of_fractions : (o : Ordering) (a b c d : ℤ) → pos 0 <ℤ b → pos 0 <ℤ d → MatchOrdering o ((a *ℤ d) <ℤ (c *ℤ b)) ((a *ℤ d) ≡ (c *ℤ b)) ((c *ℤ b) <ℤ (a *ℤ d))
    → MatchOrdering o (fraction a b <ℚ fraction c d) (fraction a b ≡ fraction c d) (fraction c d <ℚ fraction a b)
match_of_fractions o a (pos m) c (pos n) h k l = match_of_ratio o a c m n (natural_pos m h) (natural_pos n k) l
match_of_fractions o a (pos m) c (negsuc n) h k l = absurd (omega (arith, ints))
match_of_fractions o a (negsuc m) c d h k l = absurd (omega (arith, ints))

pub floor_of_fraction : (a b : ℤ) → pos 0 <ℤ b → IsFloor (fraction a b) (int_div_euclid a b)
floor_of_fraction a (pos m) h = floor-quotient a m (natural_pos m h)
floor_of_fraction a (negsuc m) h = absurd (omega (arith, ints))

pub divisor_positive : (a b g : ℤ) → pos 0 <ℤ b → pos 0 ≤ℤ g → IsGcd (unsigned_abs a) (unsigned_abs b) (unsigned_abs g) → pos 0 <ℤ g
divisor_positive a (pos n) (pos m) h k e = let p = divisor_pos m n (natural_pos n h) e.1 in omega (arith, ints, p)
divisor_positive a (pos n) (negsuc m) h k e = absurd (omega (arith, ints))
divisor_positive a (negsuc n) g h k e = absurd (omega (arith, ints))

pub reduced_quotients : (a b g : ℤ) → pos 0 <ℤ b → pos 0 ≤ℤ g → IsGcd (unsigned_abs a) (unsigned_abs b) (unsigned_abs g)
    → IsReduced (int_div a g) (int_div b g) × (fraction (int_div a g) (int_div b g) ≡ fraction a b)
reduced_quotients a (pos n) (pos m) h k e = let q = lowest_quotients a n m (natural_pos n h) e in let p = q.0.positive in (record { positive = omega (arith, ints, p); lowest = q.0 }, q.1)
reduced_quotients a (pos n) (negsuc m) h k e = absurd (omega (arith, ints))
reduced_quotients a (negsuc n) g h k e = absurd (omega (arith, ints))
