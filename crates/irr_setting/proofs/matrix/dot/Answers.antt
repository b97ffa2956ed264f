use Rattle.std.proofs.Common.{◌≡◌, sym, refl, ◌∙◌, ap, ap₂, subst, rules, ℕ, ◌<◌, ◌≤◌, ◌^◌, ◌+ℤ◌, ◌*ℤ◌, ◌-ℤ◌, pos, [], ◌∷◌, List, ℤ, unsigned_abs, get_or, FitsSigned, to_z, of_z, arith, lit<}
use Rattle.std.specs.Int.{w16, w64, w128}
use Rattle.std.proofs.lemmas.Int.{to_z-of_z, fits_signed_from_abs}
use Rattle.irr_algebra.specs.Fin.{Fin, to_nat}
use Rattle.irr_algebra.specs.Fin.Fin.{first, next}
use Rattle.irr_rational.specs.Ratio.{entry}
use Rattle.irr_rat.proofs.Vectors.{each_of_three}
use Rattle.irr_seitz.specs.Rotation.{rotation_of, IsWithin}
use Rattle.irr_seitz.proofs.Sizes.{abs-add, abs-sub, abs-mul}
use Rattle.irr_kvec.proofs.Products.{at_first, at_second, at_third}
use Rattle.irr_setting.specs.Determinant.{row_dot, cross_at, column_dot, determinant_in, cofactor, after}
use Rattle.irr_setting.proofs.Numbers.{small128, at_place, product_small, product_read, sum_small, row_within, rotation_row, cross_cofactors, cofactor_within, determinant_of_row}
use Rattle.irr_setting.proofs.matrix.dot.Goals as goal

pub product-requires-clause-left : goal.product-requires-clause-left
product-requires-clause-left c = small128 (get_or c.args.x.now 0 (pos 0)) (2 ^ 60) (search rules) (at_first (λ a. unsigned_abs a ≤ 2 ^ 60) c.args.x.now c.requires.left)

pub product-requires-clause-right : goal.product-requires-clause-right
product-requires-clause-right c = small128 (get_or c.args.y.now 0 (pos 0)) (2 ^ 60) (search rules) (at_first (λ a. unsigned_abs a ≤ 2 ^ 60) c.args.y.now c.requires.right)

pub product-requires-2-clause-left : goal.product-requires-2-clause-left
product-requires-2-clause-left c = small128 (get_or c.args.x.now 1 (pos 0)) (2 ^ 60) (search rules) (at_second (λ a. unsigned_abs a ≤ 2 ^ 60) c.args.x.now c.requires.left)

pub product-requires-2-clause-right : goal.product-requires-2-clause-right
product-requires-2-clause-right c = small128 (get_or c.args.y.now 1 (pos 0)) (2 ^ 60) (search rules) (at_second (λ a. unsigned_abs a ≤ 2 ^ 60) c.args.y.now c.requires.right)

pub product-requires-3-clause-left : goal.product-requires-3-clause-left
product-requires-3-clause-left c = small128 (get_or c.args.x.now 2 (pos 0)) (2 ^ 60) (search rules) (at_third (λ a. unsigned_abs a ≤ 2 ^ 60) c.args.x.now c.requires.left)

pub product-requires-3-clause-right : goal.product-requires-3-clause-right
product-requires-3-clause-right c = small128 (get_or c.args.y.now 2 (pos 0)) (2 ^ 60) (search rules) (at_third (λ a. unsigned_abs a ≤ 2 ^ 60) c.args.y.now c.requires.right)
