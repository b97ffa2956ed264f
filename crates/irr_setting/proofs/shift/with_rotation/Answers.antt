use Rattle.std.proofs.Common.{◌≡◌, sym, refl, ◌∙◌, ap, ap₂, subst, rules, ℕ, ◌<◌, ◌≤◌, ◌^◌, ◌*◌, ◌+◌, ◌+ℤ◌, ◌*ℤ◌, ◌-ℤ◌, pos, [], ◌∷◌, List, ℤ, unsigned_abs, get_or, FitsSigned, to_z, of_z, arith, lit<}
use Rattle.std.specs.Int.{w16, w64, w128}
use Rattle.std.proofs.lemmas.Int.{ints, to_z-of_z, fits_signed_from_abs}
use Rattle.irr_algebra.specs.Fin.{Fin, to_nat}
use Rattle.irr_algebra.specs.Fin.Fin.{first, next}
use Rattle.irr_algebra.proofs.Indices.{to_nat-lt}
use Rattle.irr_rational.specs.Ratio.{entry, AreLowest}
use Rattle.irr_space.specs.Operation.{Vector, WaveVector}
use Rattle.irr_algebra.specs.Matrix.{◌·◌}
use Rattle.irr_rat.specs.VectorMeaning.{vector_of}
use Rattle.irr_rat.proofs.Vectors.{each_of_three, vector_of-same, vector_of-entries, narrow_entries}
use Rattle.irr_seitz.specs.Rotation.{rotation_of, IsWithin}
use Rattle.irr_seitz.specs.OperationMeaning.{operation, AreWithin}
use Rattle.irr_seitz.proofs.Rotations.{within_at}
use Rattle.irr_seitz.proofs.Sizes.{abs-add, abs-sub, abs-mul, weighted_sum}
use Rattle.irr_kvec.specs.WaveMeaning.{wave_of, wave_vector}
use Rattle.irr_kvec.proofs.Products.{at_first, at_second, at_third, wave_component-wave_of}
use Rattle.irr_lattice.proofs.Vectors.{wave-ext}
use Rattle.irr_setting.specs.Determinant.{row_dot, column_dot}
use Rattle.irr_setting.specs.Setting.{basis, HasSmallVector, image_vector}
use Rattle.irr_setting.proofs.Numbers.{small128, at_place, row_within, row_dot_same, row_dot_small, same_within, matrix_row, entry_place, if_some}
use Rattle.irr_setting.proofs.LowestNumbers.{narrow_fits, narrow_small, wave_of-same, fits_cast}
use Rattle.irr_setting.proofs.ImageVectors.{image_numerators, basis_row}
use Rattle.irr_setting.proofs.ImageLaws.{made_vector}
use Rattle.irr_setting.proofs.shift.with_rotation.Goals as goal

pub returns-clause-vector : goal.returns-clause-vector
returns-clause-vector c = if_some c.over-made.result (λ f e. e ∙ made_vector c.args.setting.now c.args.op.now c.args.rot c.numerators-numerators.result c.common_denominator-den.result
    c.common_denominator-den.ensures.value c.numerators-numerators.ensures.x c.numerators-numerators.ensures.y c.numerators-numerators.ensures.z) c.over-made.ensures.vector

pub returns-clause-none : goal.returns-clause-none
returns-clause-none c = λ e s. c.over-made.ensures.none e (subst HasSmallVector (sym (made_vector c.args.setting.now c.args.op.now c.args.rot c.numerators-numerators.result c.common_denominator-den.result
    c.common_denominator-den.ensures.value c.numerators-numerators.ensures.x c.numerators-numerators.ensures.y c.numerators-numerators.ensures.z)) s)
