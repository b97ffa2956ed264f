use Rattle.std.proofs.Common.{sym, ◌∙◌, subst, ℤ, pos, get_or, FitsSigned, to_z, of_z}
use Rattle.std.specs.Int.{w64, w128}
use Rattle.std.proofs.lemmas.Int.{to_z-of_z}
use Rattle.irr_algebra.specs.Fin.{Fin}
use Rattle.irr_rational.specs.Ratio.{AreLowest}
use Rattle.irr_rat.proofs.Vectors.{fits_narrowed, narrow_entries, vector_of-entries, vector_of-same, widen}
use Rattle.irr_rat.proofs.vec3.Vec3.narrowed.Goals as goal

fits_cast : (a : ℤ) → FitsSigned w64 a → FitsSigned w64 (to_z w128 (of_z w128 a))
fits_cast a f = subst (FitsSigned w64) (sym (to_z-of_z w128 a (widen a f))) f

pub overflow_cast-result : goal.overflow_cast-result
overflow_cast-result c = fits_cast (get_or c.lowest_terms.result.0 0 (pos 0))
    (fits_narrowed c.args.num c.lowest_terms.result.0 c.args.den c.lowest_terms.result.1 c.lowest_terms.ensures.lowest c.lowest_terms.ensures.same c.requires.fits).1

pub overflow_cast-result-2 : goal.overflow_cast-result-2
overflow_cast-result-2 c = fits_cast (get_or c.lowest_terms.result.0 1 (pos 0))
    (fits_narrowed c.args.num c.lowest_terms.result.0 c.args.den c.lowest_terms.result.1 c.lowest_terms.ensures.lowest c.lowest_terms.ensures.same c.requires.fits).2

pub overflow_cast-result-3 : goal.overflow_cast-result-3
overflow_cast-result-3 c = fits_cast (get_or c.lowest_terms.result.0 2 (pos 0))
    (fits_narrowed c.args.num c.lowest_terms.result.0 c.args.den c.lowest_terms.result.1 c.lowest_terms.ensures.lowest c.lowest_terms.ensures.same c.requires.fits).3

pub overflow_cast-result-4 : goal.overflow_cast-result-4
overflow_cast-result-4 c = record {
  fits = (fits_narrowed c.args.num c.lowest_terms.result.0 c.args.den c.lowest_terms.result.1 c.lowest_terms.ensures.lowest c.lowest_terms.ensures.same c.requires.fits).0;
}

pub invariant_of-result : goal.invariant_of-result
invariant_of-result c =
    let f = fits_narrowed c.args.num c.lowest_terms.result.0 c.args.den c.lowest_terms.result.1 c.lowest_terms.ensures.lowest c.lowest_terms.ensures.same c.requires.fits in
    record {
      lowest = subst (λ (a : Fin 3 → ℤ). AreLowest a c.lowest_terms.result.1) (narrow_entries c.lowest_terms.result.0 (f.1, f.2, f.3)) c.lowest_terms.ensures.lowest;
    }

pub returns : goal.returns
returns c =
    let f = fits_narrowed c.args.num c.lowest_terms.result.0 c.args.den c.lowest_terms.result.1 c.lowest_terms.ensures.lowest c.lowest_terms.ensures.same c.requires.fits in
    sym (vector_of-entries c.lowest_terms.result.0 _ c.lowest_terms.result.1 (narrow_entries c.lowest_terms.result.0 (f.1, f.2, f.3)))
    ∙ vector_of-same c.args.num c.lowest_terms.result.0 c.args.den c.lowest_terms.result.1 c.lowest_terms.ensures.same
