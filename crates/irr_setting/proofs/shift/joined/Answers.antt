use Rattle.std.proofs.Common.{◌≡◌, sym, refl, ◌∙◌, ap, ap₂, subst, rules, ℕ, ◌<◌, ◌≤◌, ◌^◌, ◌*◌, ◌+◌, ◌+ℤ◌, ◌*ℤ◌, ◌-ℤ◌, pos, [], ◌∷◌, List, ℤ, unsigned_abs, get_or, FitsSigned, to_z, of_z, arith, lit<}
use Rattle.std.specs.Int.{w16, w64, w128}
use Rattle.std.proofs.lemmas.Int.{ints, to_z-of_z, fits_signed_from_abs}
use Rattle.irr_algebra.specs.Fin.{Fin, to_nat}
use Rattle.irr_algebra.specs.Fin.Fin.{first, next}
use Rattle.irr_algebra.proofs.Indices.{to_nat-lt}
use Rattle.irr_rational.specs.Ratio.{entry, AreLowest}
use Rattle.irr_space.specs.Operation.{Vector, WaveVector}
use Rattle.irr_algebra.specs.Matrix.{◌·◌}
use Rattle.irr_rat.specs.VectorMeaning.{vector_of}
use Rattle.irr_rat.proofs.Vectors.{each_of_three, vector_of-same, vector_of-entries, narrow_entries}
use Rattle.irr_seitz.specs.Rotation.{rotation_of, IsWithin}
use Rattle.irr_seitz.specs.OperationMeaning.{operation, AreWithin}
use Rattle.irr_seitz.proofs.Rotations.{within_at}
use Rattle.irr_seitz.proofs.Sizes.{abs-add, abs-sub, abs-mul, weighted_sum}
use Rattle.irr_kvec.specs.WaveMeaning.{wave_of, wave_vector}
use Rattle.irr_kvec.proofs.Products.{at_first, at_second, at_third, wave_component-wave_of}
use Rattle.irr_lattice.proofs.Vectors.{wave-ext}
use Rattle.irr_setting.specs.Determinant.{row_dot, column_dot}
use Rattle.irr_setting.specs.Setting.{basis, HasSmallVector, image_vector}
use Rattle.irr_setting.proofs.Numbers.{small128, at_place, row_within, row_dot_same, row_dot_small, same_within, matrix_row, entry_place, if_some}
use Rattle.irr_setting.proofs.LowestNumbers.{narrow_fits, narrow_small, wave_of-same, fits_cast}
use Rattle.irr_setting.proofs.ImageVectors.{image_numerators, basis_row}
use Rattle.irr_setting.proofs.ImageLaws.{denominator_of_small}
use Rattle.irr_setting.proofs.shift.joined.Goals as goal

pub returns-clause-value : goal.returns-clause-value
returns-clause-value c = to_z-of_z w128 c.plus.result (record { sfits = c.plus.type_inv }) ∙ c.plus.ensures
    ∙ ap₂ ◌+ℤ◌ (to_z-of_z w128 c.product.result (record { sfits = c.product.type_inv }) ∙ c.product.ensures.value
    ∙ ap₂ ◌*ℤ◌ (to_z-of_z w128 c.args.moved c.ranges.moved) (to_z-of_z w128 c.from.result (record { sfits = c.from.type_inv }) ∙ c.from.ensures))
    (to_z-of_z w128 c.product-2.result (record { sfits = c.product-2.type_inv }) ∙ c.product-2.ensures.value
    ∙ ap₂ ◌*ℤ◌ (to_z-of_z w128 c.args.fixed c.ranges.fixed) (to_z-of_z w128 c.from-2.result (record { sfits = c.from-2.type_inv }) ∙ c.from-2.ensures))

pub returns-clause-small : goal.returns-clause-small
returns-clause-small c = subst (λ a. unsigned_abs a ≤ 2 ^ 60) (sym (returns-clause-value c))
    (let s = abs-add (c.args.moved *ℤ pos c.args.origin_den) (c.args.fixed *ℤ pos c.args.den) (2 ^ 49 * 1000) (2 ^ 25 * 10 ^ 7)
    (abs-mul c.args.moved (pos c.args.origin_den) (2 ^ 49) 1000 c.requires.moved c.requires.origin)
    (abs-mul c.args.fixed (pos c.args.den) (2 ^ 25) (10 ^ 7) c.requires.fixed c.requires.denominator) in omega arith)
