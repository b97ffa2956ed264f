-- Vectors in quarters.
--   in_cell_of_numbers        numerators from 0 on, and below the denominator
--   quarters_of               a vector in quarters in lowest terms
--   few_quarters              a least common multiple of such denominators is small
--   small_numbers             numerators in the unit cell
--   quarters-product          the denominator of a product
use Rattle.std.proofs.Common.{◌≡◌, sym, ◌∙◌, subst, lit<, ℕ, ◌<◌, ◌≤◌, ◌^◌, List, get_or, ℤ, pos, negsuc, ◌*ℤ◌, ◌≤ℤ◌, ◌<ℤ◌, arith}
use Rattle.std.proofs.lemmas.Int.{ints}
use Rattle.std.specs.Int.{◌∣◌}
use native.Mathlib.Nat as Nat
use Rattle.irr_algebra.specs.Fin.{Fin, to_nat}
use Rattle.irr_algebra.specs.Matrix.{◌⊖◌}
use Rattle.irr_rational.specs.Rational.{rationals, ratio}
use Rattle.irr_rational.specs.Ratio.{entry}
use Rattle.irr_rational.specs.Order.{◌≤ℚ◌, ◌<ℚ◌}
use Rattle.irr_rational.proofs.Integers.{integer-one}
use Rattle.irr_rational.proofs.Orders.{nonneg_ratio, le_of_nonneg, ratio-lt}
use Rattle.irr_rational.proofs.Ratios.{integer-ratio}
use Rattle.irr_space.specs.Operation.{Operation, ◌⊙◌}
use Rattle.irr_space.specs.CanonicalOperation.{IsInCell}
use Rattle.irr_rat.specs.Lcm.{IsLcm}
use Rattle.irr_rat.specs.Lowest.{AreThreeLowest}
use Rattle.irr_rat.specs.VectorMeaning.{vector_of}
use Rattle.irr_rat.proofs.Vectors.{component-vector_of, each_of_three}
use Rattle.irr_seitz.specs.OperationMeaning.{operation, AreWithin}
use Rattle.irr_seitz.specs.declared.op.Op.{Op}
use Rattle.irr_close.specs.Whole.{IsWholeVector}
use Rattle.irr_close.proofs.Denominators.{IsOver, over_of_divides, divides_of_over, over_product, over_modulo, small_numerators}
use Rattle.irr_gen.specs.Signed.{IsSigned}

-- x is at least 0 and below d
abbrev pub IsBelow : ℕ → ℤ → Type 0
IsBelow d x = (pos 0 ≤ℤ x) × (x <ℤ pos d)

in_cell_at : (x : ℤ) (d : ℕ) → 0 < d → IsBelow d x → (rationals.zero ≤ℚ ratio x d) × (ratio x d <ℚ rationals.one)
in_cell_at x d h k = (
  le_of_nonneg (ratio x d) (nonneg_ratio x d h k.0),
  subst (λ y. ratio x d <ℚ y) (sym (sym (integer-one rationals) ∙ integer-ratio (pos 1))) (ratio-lt x (pos 1) d 1 h (lit< tt) (scaled x k)),
)
  where
    scaled : (x : ℤ) → IsBelow d x → (x *ℤ pos 1) <ℤ (pos 1 *ℤ pos d)
    scaled (pos n) k = let l : pos n <ℤ pos d = k.1 in omega (arith, ints)
    scaled (negsuc n) k = let l : pos 0 ≤ℤ negsuc n = k.0 in absurd (omega (arith, ints))

pub in_cell_of_numbers : (num : List ℤ) (d : ℕ) → 0 < d → IsBelow d (get_or num 0 (pos 0)) → IsBelow d (get_or num 1 (pos 0)) → IsBelow d (get_or num 2 (pos 0))
    → IsInCell (vector_of num d)
unfolding to_nat
in_cell_of_numbers num d h x y z i = subst (λ u. (rationals.zero ≤ℚ u) × (u <ℚ rationals.one)) (sym (component-vector_of num d i))
    (in_cell_at (entry num i) d h (each i))
  where
    each : (i : Fin 3) → IsBelow d (entry num i)
    each = each_of_three (λ i. IsBelow d (entry num i)) x y z

pub quarters_of : (num low : List ℤ) (d : ℕ) → AreThreeLowest low d → vector_of low d ≡ vector_of num 4 → d ∣ 4
quarters_of num low d l e = divides_of_over low d 4 l (subst (IsOver 4) (sym e) (over_of_divides num 4 4 (lit< tt) (Nat.dvd_refl 4)))

pub few_quarters : (a b m : ℕ) → a ∣ 4 → b ∣ 4 → IsLcm a b m → m ≤ 100000
few_quarters a b m h k l = let s : m ≤ 4 = Nat.le_of_dvd (lit< tt) (l.2 4 h k) in omega arith

pub small_numbers : (g : Op) → IsSigned g → AreWithin (10 ^ 12) g.num
small_numbers g s i = let h = small_numerators g.num g.den g.lowest.positive s.in_cell i in
    let d : g.den ≤ 4 = Nat.le_of_dvd (lit< tt) s.quarters in omega arith

pub quarters-product : (g h m f : Op) → IsSigned g → IsSigned h → operation m ≡ operation g ⊙ operation h
    → IsWholeVector ((operation m).vector ⊖ (operation f).vector) → f.den ∣ 4
quarters-product g h m f s t e w = divides_of_over f.num f.den 4 f.lowest
    (over_modulo 4 (operation m).vector (operation f).vector
    (subst (λ (x : Operation). IsOver 4 x.vector) (sym e) (over_product 4 (operation g) (operation h)
    (over_of_divides g.num g.den 4 g.lowest.positive s.quarters) (over_of_divides h.num h.den 4 h.lowest.positive t.quarters))) w)
