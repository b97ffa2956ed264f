use Rattle.std.proofs.Common.{◌≡◌, sym, refl, ◌∙◌, ap, ap₂, subst, rules, ℕ, ◌<◌, ◌≤◌, ◌^◌, ◌*◌, ◌+◌, ◌+ℤ◌, ◌*ℤ◌, ◌-ℤ◌, pos, [], ◌∷◌, List, ℤ, unsigned_abs, get_or, FitsSigned, to_z, of_z, arith, lit<}
use Rattle.std.specs.Int.{w16, w64, w128}
use Rattle.std.specs.Int.RustNames.{int_div, int_rem}
use Rattle.std.proofs.lemmas.Int.{to_z-of_z, fits_signed_from_abs}
use Rattle.irr_algebra.specs.Fin.{Fin, to_nat}
use Rattle.irr_algebra.specs.Fin.Fin.{first, next}
use Rattle.irr_rational.specs.Ratio.{entry}
use Rattle.irr_rat.proofs.Vectors.{each_of_three}
use Rattle.irr_seitz.specs.Rotation.{rotation_of, IsWithin}
use Rattle.irr_seitz.proofs.Rotations.{within_at}
use Rattle.irr_seitz.proofs.Sizes.{abs-add, abs-sub, abs-mul, weighted_sum}
use Rattle.irr_kvec.proofs.Products.{at_first, at_second, at_third}
use Rattle.irr_setting.specs.Determinant.{row_dot, cross_at, column_dot, determinant_in, cofactor, after}
use Rattle.irr_setting.proofs.Numbers.{small128, at_place, product_small, product_read, sum_small, row_within, rotation_row, cross_cofactors, cofactor_within, determinant_of_row, determinant_small, quotient_only}
use Rattle.irr_setting.proofs.matrix.turned.Goals as goal

pub returns-clause-value : goal.returns-clause-value
unfolding to_nat
returns-clause-value c = each_of_three (λ i. entry (to_z w128 (of_z w128 c.column_dot.result) ∷ to_z w128 (of_z w128 c.column_dot-2.result) ∷ to_z w128 (of_z w128 c.column_dot-3.result) ∷ []) i ≡ column_dot c.args.x.now c.args.rot.now (to_nat i))
    (to_z-of_z w128 c.column_dot.result (record { sfits = c.column_dot.type_inv }) ∙ c.column_dot.ensures.value)
    (to_z-of_z w128 c.column_dot-2.result (record { sfits = c.column_dot-2.type_inv }) ∙ c.column_dot-2.ensures.value)
    (to_z-of_z w128 c.column_dot-3.result (record { sfits = c.column_dot-3.type_inv }) ∙ c.column_dot-3.ensures.value)

pub returns-clause-small : goal.returns-clause-small
unfolding to_nat
returns-clause-small c = each_of_three (λ i. unsigned_abs (entry (to_z w128 (of_z w128 c.column_dot.result) ∷ to_z w128 (of_z w128 c.column_dot-2.result) ∷ to_z w128 (of_z w128 c.column_dot-3.result) ∷ []) i) ≤ 2 ^ 60)
    (small128 c.column_dot.result (2 ^ 60) (record { sfits = c.column_dot.type_inv }) c.column_dot.ensures.small)
    (small128 c.column_dot-2.result (2 ^ 60) (record { sfits = c.column_dot-2.type_inv }) c.column_dot-2.ensures.small)
    (small128 c.column_dot-3.result (2 ^ 60) (record { sfits = c.column_dot-3.type_inv }) c.column_dot-3.ensures.small)
