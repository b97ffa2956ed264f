use Rattle.std.proofs.Common.{◌≡◌, sym, refl, ◌∙◌, ap, ap₂, subst, rules, ℕ, ◌<◌, ◌≤◌, ◌^◌, ◌+ℤ◌, ◌*ℤ◌, ◌-ℤ◌, pos, [], ◌∷◌, List, ℤ, unsigned_abs, get_or, FitsSigned, to_z, of_z, arith, lit<}
use Rattle.std.specs.Int.{w16, w64, w128}
use Rattle.std.proofs.lemmas.Int.{to_z-of_z, fits_signed_from_abs}
use Rattle.irr_algebra.specs.Fin.{Fin, to_nat}
use Rattle.irr_algebra.specs.Fin.Fin.{first, next}
use Rattle.irr_rational.specs.Ratio.{entry}
use Rattle.irr_rat.proofs.Vectors.{each_of_three}
use Rattle.irr_seitz.specs.Rotation.{rotation_of, IsWithin}
use Rattle.irr_seitz.proofs.Sizes.{abs-add, abs-sub, abs-mul}
use Rattle.irr_kvec.proofs.Products.{at_first, at_second, at_third}
use Rattle.irr_setting.specs.Determinant.{row_dot, cross_at, column_dot, determinant_in, cofactor, after}
use Rattle.irr_setting.proofs.Numbers.{small128, at_place, product_small, product_read, sum_small, row_within, rotation_row, cross_cofactors, cofactor_within, determinant_of_row}
use Rattle.irr_setting.proofs.matrix.product.Goals as goal

pub returns-clause-value : goal.returns-clause-value
returns-clause-value c = product_read c.args.x c.args.y c.ranges.x c.ranges.y c.requires.left c.requires.right

pub returns-clause-small : goal.returns-clause-small
returns-clause-small c = subst (λ a. unsigned_abs a ≤ 2 ^ 120) (sym (product_read c.args.x c.args.y c.ranges.x c.ranges.y c.requires.left c.requires.right))
    (product_small c.args.x c.args.y c.ranges.x c.ranges.y c.requires.left c.requires.right)
