use Rattle.std.proofs.Common.{◌≡◌, sym, refl, ◌∙◌, ap, ap₂, subst, rules, ℕ, ◌<◌, ◌≤◌, ◌^◌, ◌*◌, ◌+◌, ◌+ℤ◌, ◌*ℤ◌, ◌-ℤ◌, pos, [], ◌∷◌, List, ℤ, unsigned_abs, get_or, FitsSigned, to_z, of_z, arith, lit<}
use Rattle.std.specs.Int.{w16, w64, w128}
use Rattle.std.specs.Int.RustNames.{int_div, int_rem}
use Rattle.std.proofs.lemmas.Int.{to_z-of_z, fits_signed_from_abs}
use Rattle.irr_algebra.specs.Fin.{Fin, to_nat}
use Rattle.irr_algebra.specs.Fin.Fin.{first, next}
use Rattle.irr_rational.specs.Ratio.{entry}
use Rattle.irr_rat.proofs.Vectors.{each_of_three}
use Rattle.irr_seitz.specs.Rotation.{rotation_of, IsWithin}
use Rattle.irr_seitz.proofs.Rotations.{within_at}
use Rattle.irr_seitz.proofs.Sizes.{abs-add, abs-sub, abs-mul, weighted_sum}
use Rattle.irr_kvec.proofs.Products.{at_first, at_second, at_third}
use Rattle.irr_setting.specs.Determinant.{row_dot, cross_at, column_dot, determinant_in, cofactor, after}
use Rattle.irr_setting.proofs.Numbers.{small128, at_place, product_small, product_read, sum_small, row_within, rotation_row, cross_cofactors, cofactor_within, determinant_of_row, determinant_small, quotient_only}
use Rattle.irr_setting.proofs.matrix.determinant.Goals as goal

pub dot-requires-clause-left : goal.dot-requires-clause-left
dot-requires-clause-left c = row_within (10 ^ 4) (2 ^ 60) c.args.num.now c.requires (omega arith) 0 (omega arith) c.wide.result c.wide.ensures

pub dot-requires-clause-right : goal.dot-requires-clause-right
dot-requires-clause-right c = row_within (2 ^ 60) (2 ^ 60) c.cofactors-cofactors.result c.cofactors-cofactors.ensures.small (omega arith) 0 (omega arith) (get_or c.cofactors-cofactors.result 0 []) (λ j. refl)

pub returns-clause-value : goal.returns-clause-value
unfolding rotation_of to_nat
returns-clause-value c = to_z-of_z w128 c.dot.result (record { sfits = c.dot.type_inv }) ∙ c.dot.ensures.value
    ∙ determinant_of_row (rotation_of c.args.num.now) c.wide.result (get_or c.cofactors-cofactors.result 0 []) (rotation_row c.args.num.now first 0 refl c.wide.result c.wide.ensures) (λ j. c.cofactors-cofactors.ensures.value first j)

pub returns-clause-small : goal.returns-clause-small
returns-clause-small c = subst (λ a. unsigned_abs a ≤ 2 ^ 60) (sym (returns-clause-value c)) (determinant_small (rotation_of c.args.num.now) c.requires)
