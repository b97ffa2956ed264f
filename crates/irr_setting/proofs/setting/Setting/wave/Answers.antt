use Rattle.std.proofs.Common.{◌≡◌, sym, refl, ◌∙◌, ap, ap₂, subst, rules, ℕ, ◌<◌, ◌≤◌, ◌^◌, ◌*◌, ◌+◌, ◌+ℤ◌, ◌*ℤ◌, ◌-ℤ◌, pos, [], ◌∷◌, List, ℤ, unsigned_abs, get_or, FitsSigned, to_z, of_z, arith, lit<}
use Rattle.std.specs.Int.{w16, w64, w128}
use Rattle.std.proofs.lemmas.Int.{ints, to_z-of_z, fits_signed_from_abs}
use Rattle.irr_algebra.specs.Fin.{Fin, to_nat}
use Rattle.irr_algebra.specs.Fin.Fin.{first, next}
use Rattle.irr_algebra.proofs.Indices.{to_nat-lt}
use Rattle.irr_rational.specs.Ratio.{entry, AreLowest}
use Rattle.irr_space.specs.Operation.{Vector, WaveVector}
use Rattle.irr_algebra.specs.Matrix.{◌·◌}
use Rattle.irr_rat.specs.VectorMeaning.{vector_of}
use Rattle.irr_rat.proofs.Vectors.{each_of_three, vector_of-same, vector_of-entries, narrow_entries}
use Rattle.irr_seitz.specs.Rotation.{rotation_of, IsWithin}
use Rattle.irr_seitz.specs.OperationMeaning.{operation, AreWithin}
use Rattle.irr_seitz.proofs.Rotations.{within_at}
use Rattle.irr_seitz.proofs.Sizes.{abs-add, abs-sub, abs-mul, weighted_sum}
use Rattle.irr_kvec.specs.WaveMeaning.{wave_of, wave_vector}
use Rattle.irr_kvec.proofs.Products.{at_first, at_second, at_third, wave_component-wave_of}
use Rattle.irr_lattice.proofs.Vectors.{wave-ext}
use Rattle.irr_setting.specs.Determinant.{row_dot, column_dot}
use Rattle.irr_setting.specs.Setting.{basis, HasSmallVector, image_vector}
use Rattle.irr_setting.proofs.Numbers.{small128, at_place, row_within, row_dot_same, row_dot_small, same_within, matrix_row, entry_place, if_some}
use Rattle.irr_setting.proofs.LowestNumbers.{narrow_fits, narrow_small, wave_of-same, fits_cast}
use Rattle.irr_setting.proofs.ImageVectors.{image_numerators, basis_row}
use Rattle.irr_setting.proofs.ImageLaws.{denominator_of_small}
use Rattle.irr_setting.proofs.setting.Setting.wave.Goals as goal

pub row_products-products-requires-clause-row : goal.row_products-products-requires-clause-row
row_products-products-requires-clause-row c = same_within (10 ^ 9) (10 ^ 9) c.wide.result c.args.k.now.num (omega arith) c.requires.numerators c.wide.ensures

pub returns-clause-wave : goal.returns-clause-wave
unfolding to_nat
returns-clause-wave c = c.narrowed-made.ensures.wave ∙ ap (wave_of c.row_products-products.result) c.denominator-den.ensures.value
    ∙ basis_row c.args.k.now.num c.args.k.now.den c.args.self.now.num c.args.self.now.den c.row_products-products.result c.args.k.now.lowest.positive c.args.self.now.positive
    (λ j. c.row_products-products.ensures.value j
    ∙ ap₂ ◌+ℤ◌ (ap₂ ◌+ℤ◌ (ap (λ x. x *ℤ get_or (get_or c.args.self.now.num 0 []) (to_nat j) (pos 0)) (c.wide.ensures first)) (ap (λ x. x *ℤ get_or (get_or c.args.self.now.num 1 []) (to_nat j) (pos 0)) (c.wide.ensures (next first))))
    (ap (λ x. x *ℤ get_or (get_or c.args.self.now.num 2 []) (to_nat j) (pos 0)) (c.wide.ensures (next (next first)))))
