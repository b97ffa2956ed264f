use Rattle.std.proofs.Common.{◌≡◌, sym, refl, ◌∙◌, ap, ap₂, subst, rules, ℕ, ◌<◌, ◌≤◌, ◌^◌, ◌*◌, ◌+◌, ◌+ℤ◌, ◌*ℤ◌, ◌-ℤ◌, pos, [], ◌∷◌, List, ℤ, unsigned_abs, get_or, FitsSigned, to_z, of_z, arith, lit<}
use Rattle.std.specs.Int.{w16, w64, w128}
use Rattle.std.proofs.lemmas.Int.{ints, to_z-of_z, fits_signed_from_abs}
use Rattle.irr_algebra.specs.Fin.{Fin, to_nat}
use Rattle.irr_algebra.specs.Fin.Fin.{first, next}
use Rattle.irr_algebra.proofs.Indices.{to_nat-lt}
use Rattle.irr_rational.specs.Ratio.{entry, AreLowest}
use Rattle.irr_space.specs.Operation.{Vector, WaveVector}
use Rattle.irr_algebra.specs.Matrix.{◌·◌}
use Rattle.irr_rat.specs.VectorMeaning.{vector_of}
use Rattle.irr_rat.proofs.Vectors.{each_of_three, vector_of-same, vector_of-entries, narrow_entries}
use Rattle.irr_seitz.specs.Rotation.{rotation_of, IsWithin}
use Rattle.irr_seitz.specs.OperationMeaning.{operation, AreWithin}
use Rattle.irr_seitz.proofs.Rotations.{within_at}
use Rattle.irr_seitz.proofs.Sizes.{abs-add, abs-sub, abs-mul, weighted_sum}
use Rattle.irr_kvec.specs.WaveMeaning.{wave_of, wave_vector}
use Rattle.irr_kvec.proofs.Products.{at_first, at_second, at_third, wave_component-wave_of}
use Rattle.irr_lattice.proofs.Vectors.{wave-ext}
use Rattle.irr_setting.specs.Determinant.{row_dot, column_dot}
use Rattle.irr_setting.specs.Setting.{basis, HasSmallVector, image_vector}
use Rattle.irr_setting.proofs.Numbers.{small128, at_place, row_within, row_dot_same, row_dot_small, same_within, matrix_row, entry_place, if_some}
use Rattle.irr_setting.proofs.LowestNumbers.{narrow_fits, narrow_small, wave_of-same, fits_cast}
use Rattle.irr_setting.proofs.ImageVectors.{image_numerators, basis_row}
use Rattle.irr_setting.proofs.ImageLaws.{denominator_of_small}
use Rattle.irr_setting.proofs.setting.Setting.row_product.Goals as goal

pub dot-requires-clause-right : goal.dot-requires-clause-right
dot-requires-clause-right c = λ i. let s = within_at (10 ^ 4) c.args.self.now.num c.requires.setting.basis (to_nat i) c.args.j (to_nat-lt i) c.requires.j in subst (λ a. unsigned_abs a ≤ 2 ^ 60) (sym (c.column.ensures i)) (omega arith)

pub returns-clause-value : goal.returns-clause-value
unfolding to_nat
returns-clause-value c = to_z-of_z w128 c.dot.result (record { sfits = c.dot.type_inv }) ∙ c.dot.ensures.value
    ∙ ap₂ ◌+ℤ◌ (ap₂ ◌+ℤ◌ (ap (λ y. get_or c.args.row.now 0 (pos 0) *ℤ y) (c.column.ensures first)) (ap (λ y. get_or c.args.row.now 1 (pos 0) *ℤ y) (c.column.ensures (next first)))) (ap (λ y. get_or c.args.row.now 2 (pos 0) *ℤ y) (c.column.ensures (next (next first))))

pub returns-clause-small : goal.returns-clause-small
returns-clause-small c = subst (λ a. unsigned_abs a ≤ 3 * 10 ^ 13) (sym (returns-clause-value c))
    (let s = weighted_sum (get_or c.args.row.now 0 (pos 0)) (get_or c.args.row.now 1 (pos 0)) (get_or c.args.row.now 2 (pos 0))
    (get_or (get_or c.args.self.now.num 0 []) c.args.j (pos 0)) (get_or (get_or c.args.self.now.num 1 []) c.args.j (pos 0)) (get_or (get_or c.args.self.now.num 2 []) c.args.j (pos 0)) (10 ^ 9) (10 ^ 4)
    (at_first (λ a. unsigned_abs a ≤ 10 ^ 9) c.args.row.now c.requires.row) (at_second (λ a. unsigned_abs a ≤ 10 ^ 9) c.args.row.now c.requires.row) (at_third (λ a. unsigned_abs a ≤ 10 ^ 9) c.args.row.now c.requires.row)
    (within_at (10 ^ 4) c.args.self.now.num c.requires.setting.basis 0 c.args.j (omega arith) c.requires.j) (within_at (10 ^ 4) c.args.self.now.num c.requires.setting.basis 1 c.args.j (omega arith) c.requires.j) (within_at (10 ^ 4) c.args.self.now.num c.requires.setting.basis 2 c.args.j (omega arith) c.requires.j) in omega arith)
