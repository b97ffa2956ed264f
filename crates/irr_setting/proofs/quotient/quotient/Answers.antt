use Rattle.std.proofs.Common.{◌≡◌, sym, refl, ◌∙◌, ap, ap₂, subst, rules, ℕ, ◌<◌, ◌≤◌, ◌^◌, ◌*◌, ◌+◌, ◌+ℤ◌, ◌*ℤ◌, ◌-ℤ◌, pos, [], ◌∷◌, List, ℤ, unsigned_abs, get_or, FitsSigned, to_z, of_z, arith, lit<}
use Rattle.std.specs.Int.{w16, w64, w128}
use Rattle.std.specs.Int.RustNames.{int_div, int_rem}
use Rattle.std.proofs.lemmas.Int.{ints, to_z-of_z, fits_signed_from_abs}
use Rattle.irr_algebra.specs.Fin.{Fin, to_nat}
use Rattle.irr_algebra.specs.Fin.Fin.{first, next}
use Rattle.irr_algebra.proofs.Indices.{to_nat-lt}
use Rattle.irr_number.specs.Integers.{integers}
use Rattle.irr_rational.specs.Ratio.{entry}
use Rattle.irr_rat.proofs.Vectors.{each_of_three}
use Rattle.irr_seitz.specs.Rotation.{rotation_of, IsWithin}
use Rattle.irr_seitz.proofs.Rotations.{within_at}
use Rattle.irr_seitz.proofs.Sizes.{abs-add, abs-sub, abs-mul, weighted_sum}
use Rattle.irr_kvec.proofs.Products.{at_first, at_second, at_third}
use Rattle.irr_setting.specs.Determinant.{row_dot, cross_at, column_dot, determinant_in, cofactor, after}
use Rattle.irr_setting.proofs.Numbers.{small128, at_place, product_small, product_read, sum_small, row_within, rotation_row, cross_cofactors, cofactor_within, determinant_of_row, determinant_small, quotient_only, quotient_read, read_equation, equation_read, turned_row}
use Rattle.irr_setting.proofs.quotient.quotient.Goals as goal

pub returns-then-unsigned_abs-gt9-clause-none : goal.returns-then-unsigned_abs-gt9-clause-none
returns-then-unsigned_abs-gt9-clause-none c = λ _ q s e.
    let r : c.unsigned_abs.result ≡ unsigned_abs q = c.unsigned_abs.ensures.value ∙ ap unsigned_abs (quotient_read c.args.number c.args.divisor q c.ranges.number c.ranges.divisor c.requires.nonzero s e) in
    let t : 9 < c.unsigned_abs.result = c.if-unsigned_abs-gt9.true in
    omega (arith, r, t, s)

pub returns-then-product-number-clause-none : goal.returns-then-product-number-clause-none
returns-then-product-number-clause-none c = λ _ q s e. c.if-product-number.true (ap (of_z w128) (c.product.ensures.value
    ∙ ap₂ ◌*ℤ◌ (to_z-of_z w128 c.args.divisor c.ranges.divisor) (quotient_read c.args.number c.args.divisor q c.ranges.number c.ranges.divisor c.requires.nonzero s e) ∙ e))
