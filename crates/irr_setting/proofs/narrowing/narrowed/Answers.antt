use Rattle.std.proofs.Common.{◌≡◌, sym, refl, ◌∙◌, ap, ap₂, subst, rules, ℕ, ◌<◌, ◌≤◌, ◌^◌, ◌*◌, ◌+◌, ◌+ℤ◌, ◌*ℤ◌, ◌-ℤ◌, pos, [], ◌∷◌, List, ℤ, unsigned_abs, get_or, FitsSigned, to_z, of_z, arith, lit<}
use Rattle.std.specs.Int.{w16, w64, w128}
use Rattle.std.proofs.lemmas.Int.{ints, to_z-of_z, fits_signed_from_abs}
use Rattle.irr_algebra.specs.Fin.{Fin, to_nat}
use Rattle.irr_algebra.specs.Fin.Fin.{first, next}
use Rattle.irr_algebra.proofs.Indices.{to_nat-lt}
use Rattle.irr_rational.specs.Rational.{ratio}
use Rattle.irr_rational.specs.Ratio.{entry, AreLowest}
use Rattle.irr_space.specs.Operation.{Vector, WaveVector}
use Rattle.irr_algebra.specs.Matrix.{◌·◌}
use Rattle.irr_rat.specs.VectorMeaning.{vector_of}
use Rattle.irr_rat.proofs.Vectors.{each_of_three, vector_of-same, vector_of-entries, narrow_entries}
use Rattle.irr_seitz.specs.Rotation.{rotation_of, IsWithin}
use Rattle.irr_seitz.specs.OperationMeaning.{operation, AreWithin}
use Rattle.irr_seitz.proofs.Rotations.{within_at}
use Rattle.irr_seitz.proofs.Sizes.{abs-add, abs-sub, abs-mul, weighted_sum}
use Rattle.irr_kvec.specs.WaveMeaning.{wave_of, wave_vector}
use Rattle.irr_kvec.proofs.Products.{at_first, at_second, at_third, wave_component-wave_of}
use Rattle.irr_lattice.proofs.Vectors.{wave-ext}
use Rattle.irr_setting.specs.Determinant.{row_dot, column_dot}
use Rattle.irr_setting.specs.Setting.{basis, HasSmallVector, image_vector}
use Rattle.irr_setting.proofs.Numbers.{small128, at_place, row_within, row_dot_same, row_dot_small, same_within, matrix_row, entry_place, if_some}
use Rattle.irr_setting.proofs.LowestNumbers.{narrow_fits, narrow_small, wave_of-same, fits_cast}
use Rattle.irr_setting.proofs.ImageVectors.{image_numerators, basis_row}
use Rattle.irr_setting.proofs.ImageLaws.{denominator_of_small}
use Rattle.irr_setting.proofs.narrowing.narrowed.Goals as goal

pub overflow_cast-result : goal.overflow_cast-result
overflow_cast-result c = fits_cast (get_or c.lowest_terms.result.0 0 (pos 0)) (narrow_fits c.args.num c.lowest_terms.result.0 c.args.den c.lowest_terms.result.1 c.requires.positive c.lowest_terms.ensures.lowest c.lowest_terms.ensures.same (λ i. let s = c.requires.numerators i in omega arith) (2 ^ 32) (let d = c.requires.denominator in omega arith)).1

pub overflow_cast-result-2 : goal.overflow_cast-result-2
overflow_cast-result-2 c = fits_cast (get_or c.lowest_terms.result.0 1 (pos 0)) (narrow_fits c.args.num c.lowest_terms.result.0 c.args.den c.lowest_terms.result.1 c.requires.positive c.lowest_terms.ensures.lowest c.lowest_terms.ensures.same (λ i. let s = c.requires.numerators i in omega arith) (2 ^ 32) (let d = c.requires.denominator in omega arith)).2

pub overflow_cast-result-3 : goal.overflow_cast-result-3
overflow_cast-result-3 c = fits_cast (get_or c.lowest_terms.result.0 2 (pos 0)) (narrow_fits c.args.num c.lowest_terms.result.0 c.args.den c.lowest_terms.result.1 c.requires.positive c.lowest_terms.ensures.lowest c.lowest_terms.ensures.same (λ i. let s = c.requires.numerators i in omega arith) (2 ^ 32) (let d = c.requires.denominator in omega arith)).3

pub invariant_of-result : goal.invariant_of-result
invariant_of-result c =
    let f = narrow_fits c.args.num c.lowest_terms.result.0 c.args.den c.lowest_terms.result.1 c.requires.positive c.lowest_terms.ensures.lowest c.lowest_terms.ensures.same (λ i. let s = c.requires.numerators i in omega arith) (2 ^ 32) (let d = c.requires.denominator in omega arith) in
    record {
      lowest = subst (λ (a : Fin 3 → ℤ). AreLowest a c.lowest_terms.result.1) (narrow_entries c.lowest_terms.result.0 (f.1, f.2, f.3)) c.lowest_terms.ensures.lowest;
    }

pub overflow_cast-result-4 : goal.overflow_cast-result-4
overflow_cast-result-4 c = record { fits = (narrow_fits c.args.num c.lowest_terms.result.0 c.args.den c.lowest_terms.result.1 c.requires.positive c.lowest_terms.ensures.lowest c.lowest_terms.ensures.same (λ i. let s = c.requires.numerators i in omega arith) (2 ^ 32) (let d = c.requires.denominator in omega arith)).0 }

pub returns-clause-wave : goal.returns-clause-wave
returns-clause-wave c =
    let f = narrow_fits c.args.num c.lowest_terms.result.0 c.args.den c.lowest_terms.result.1 c.requires.positive c.lowest_terms.ensures.lowest c.lowest_terms.ensures.same (λ i. let s = c.requires.numerators i in omega arith) (2 ^ 32) (let d = c.requires.denominator in omega arith) in
    wave-ext (wave_of _ c.lowest_terms.result.1) (wave_of c.lowest_terms.result.0 c.lowest_terms.result.1)
    (λ i. wave_component-wave_of _ c.lowest_terms.result.1 i ∙ ap (λ (g : Fin 3 → ℤ). ratio (g i) c.lowest_terms.result.1) (sym (narrow_entries c.lowest_terms.result.0 (f.1, f.2, f.3)))
    ∙ sym (wave_component-wave_of c.lowest_terms.result.0 c.lowest_terms.result.1 i))
    ∙ wave_of-same c.args.num c.lowest_terms.result.0 c.args.den c.lowest_terms.result.1 c.requires.positive c.lowest_terms.ensures.lowest c.lowest_terms.ensures.same

pub returns-clause-limits : goal.returns-clause-limits
returns-clause-limits c =
    let f = narrow_fits c.args.num c.lowest_terms.result.0 c.args.den c.lowest_terms.result.1 c.requires.positive c.lowest_terms.ensures.lowest c.lowest_terms.ensures.same (λ i. let s = c.requires.numerators i in omega arith) (2 ^ 32) (let d = c.requires.denominator in omega arith) in
    let t = narrow_small c.args.num c.lowest_terms.result.0 c.args.den c.lowest_terms.result.1 c.requires.positive c.lowest_terms.ensures.lowest c.lowest_terms.ensures.same (3 * 10 ^ 13) c.requires.numerators in
    record {
      numerators = λ i. subst (λ (g : Fin 3 → ℤ). unsigned_abs (g i) ≤ 10 ^ 14) (narrow_entries c.lowest_terms.result.0 (f.1, f.2, f.3)) (let s : unsigned_abs (entry c.lowest_terms.result.0 i) ≤ 3 * 10 ^ 13 = t.1 i in omega arith);
      denominator = (let l : c.lowest_terms.result.1 ≤ c.args.den = t.0 in let d = c.requires.denominator in omega arith);
    }
