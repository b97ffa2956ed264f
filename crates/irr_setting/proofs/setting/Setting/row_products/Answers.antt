use Rattle.std.proofs.Common.{◌≡◌, sym, refl, ◌∙◌, ap, ap₂, subst, rules, ℕ, ◌<◌, ◌≤◌, ◌^◌, ◌*◌, ◌+◌, ◌+ℤ◌, ◌*ℤ◌, ◌-ℤ◌, pos, [], ◌∷◌, List, ℤ, unsigned_abs, get_or, FitsSigned, to_z, of_z, arith, lit<}
use Rattle.std.specs.Int.{w16, w64, w128}
use Rattle.std.proofs.lemmas.Int.{ints, to_z-of_z, fits_signed_from_abs}
use Rattle.irr_algebra.specs.Fin.{Fin, to_nat}
use Rattle.irr_algebra.specs.Fin.Fin.{first, next}
use Rattle.irr_algebra.proofs.Indices.{to_nat-lt}
use Rattle.irr_rational.specs.Ratio.{entry, AreLowest}
use Rattle.irr_space.specs.Operation.{Vector, WaveVector}
use Rattle.irr_algebra.specs.Matrix.{◌·◌}
use Rattle.irr_rat.specs.VectorMeaning.{vector_of}
use Rattle.irr_rat.proofs.Vectors.{each_of_three, vector_of-same, vector_of-entries, narrow_entries}
use Rattle.irr_seitz.specs.Rotation.{rotation_of, IsWithin}
use Rattle.irr_seitz.specs.OperationMeaning.{operation, AreWithin}
use Rattle.irr_seitz.proofs.Rotations.{within_at}
use Rattle.irr_seitz.proofs.Sizes.{abs-add, abs-sub, abs-mul, weighted_sum}
use Rattle.irr_kvec.specs.WaveMeaning.{wave_of, wave_vector}
use Rattle.irr_kvec.proofs.Products.{at_first, at_second, at_third, wave_component-wave_of}
use Rattle.irr_lattice.proofs.Vectors.{wave-ext}
use Rattle.irr_setting.specs.Determinant.{row_dot, column_dot}
use Rattle.irr_setting.specs.Setting.{basis, HasSmallVector, image_vector}
use Rattle.irr_setting.proofs.Numbers.{small128, at_place, row_within, row_dot_same, row_dot_small, same_within, matrix_row, entry_place, if_some}
use Rattle.irr_setting.proofs.LowestNumbers.{narrow_fits, narrow_small, wave_of-same, fits_cast}
use Rattle.irr_setting.proofs.ImageVectors.{image_numerators, basis_row}
use Rattle.irr_setting.proofs.ImageLaws.{denominator_of_small}
use Rattle.irr_setting.proofs.setting.Setting.row_products.Goals as goal

pub returns-clause-value : goal.returns-clause-value
unfolding to_nat
returns-clause-value c = each_of_three (λ i. entry (to_z w128 (of_z w128 c.row_product.result) ∷ to_z w128 (of_z w128 c.row_product-2.result) ∷ to_z w128 (of_z w128 c.row_product-3.result) ∷ []) i ≡ column_dot c.args.row.now c.args.self.now.num (to_nat i))
    (to_z-of_z w128 c.row_product.result (record { sfits = c.row_product.type_inv }) ∙ c.row_product.ensures.value)
    (to_z-of_z w128 c.row_product-2.result (record { sfits = c.row_product-2.type_inv }) ∙ c.row_product-2.ensures.value)
    (to_z-of_z w128 c.row_product-3.result (record { sfits = c.row_product-3.type_inv }) ∙ c.row_product-3.ensures.value)

pub returns-clause-small : goal.returns-clause-small
unfolding to_nat
returns-clause-small c = each_of_three (λ i. unsigned_abs (entry (to_z w128 (of_z w128 c.row_product.result) ∷ to_z w128 (of_z w128 c.row_product-2.result) ∷ to_z w128 (of_z w128 c.row_product-3.result) ∷ []) i) ≤ 3 * 10 ^ 13)
    (small128 c.row_product.result (3 * 10 ^ 13) (record { sfits = c.row_product.type_inv }) c.row_product.ensures.small)
    (small128 c.row_product-2.result (3 * 10 ^ 13) (record { sfits = c.row_product-2.type_inv }) c.row_product-2.ensures.small)
    (small128 c.row_product-3.result (3 * 10 ^ 13) (record { sfits = c.row_product-3.type_inv }) c.row_product-3.ensures.small)
