-- The traces of an extension on the coset of the generator give the extension.
use Rattle.std.proofs.Common.{◌≡◌, sym, ◌∙◌, ap, ℕ, ◌<◌}
use mathlib.Core.Path.{fun_ext}
use Rattle.irr_algebra.specs.Ring.{Ring, whole}
use Rattle.irr_algebra.specs.Field.{Field}
use Rattle.irr_algebra.specs.Fin.{Fin}
use Rattle.irr_algebra.specs.Matrix.{Matrix, ◌·◌, scale, trace, combination}
use Rattle.irr_algebra.specs.Action.{IsSimple}
use Rattle.irr_theory.specs.Traces.{back}
use Rattle.irr_theory.specs.FactorSystem.{FactorSystem, Representation}
use Rattle.irr_clifford.specs.Subgroup.{Subgroup}
use Rattle.irr_clifford.specs.Cyclic.{CyclicQuotient, StandsForGenerator, IsExtension}
use Rattle.irr_clifford.specs.FromTraces.{AreExtensionTraces, generator_from_traces, matrix_from_traces}
use Rattle.irr_clifford.proofs.Split.{invertible_cancel}
use Rattle.irr_clifford.proofs.Extended.{extended, extended-is}
use Rattle.irr_clifford.proofs.FromTraces.{extension-from_traces}
use Rattle.irr_clifford.proofs.Generator.{extension-stands}
use Rattle.irr_clifford.proofs.Roots.{extension-coset}

-- a matrix that stands for the generator gives traces of an extension
pub traces_of_stands : {R : Ring} {T : FactorSystem R} {H : Subgroup T} (Q : CyclicQuotient H) {d : ℕ} (D : Representation H.table d) (u : Matrix R d d) → StandsForGenerator Q D u
    → (t : Fin H.table.places → R.Carrier) → ((n : Fin H.table.places) → R.mul (T.phase Q.generator (H.member n)) (t n) ≡ trace (u · D.at n)) → AreExtensionTraces Q D t
traces_of_stands {R} {T} {H} Q D u h t e = record {
  family = extended Q D u h;
  at-member = (extended-is Q D u h).at-member;
  trace-coset = λ n. invertible_cancel (T.phase Q.generator (H.member n)) (trace ((extended Q D u h).at (T.product Q.generator (H.member n)))) (t n) (T.phase-invertible Q.generator (H.member n))
      (extension-coset Q D u (extended Q D u h) (extended-is Q D u h) n ∙ sym (e n));
}

module _ (F : Field) {T : FactorSystem F.ring} {H : Subgroup T} (Q : CyclicQuotient H) {d : ℕ} (D : Representation H.table d) (l : 0 < d) (simple : IsSimple D.at) where
  open F use {ring as R}

  -- the extension is by the matrix from the traces
  pub extension_of_traces : (t : Fin H.table.places → R.Carrier) (h : AreExtensionTraces Q D t) → IsExtension Q D (generator_from_traces F Q D t) h.family
  unfolding generator_from_traces matrix_from_traces
  extension_of_traces t h = record {
    at-member = h.at-member;
    at-generator = extension-from_traces F H D l simple h.family h.at-member Q.generator
        ∙ ap (λ (c : Fin H.table.places → R.Carrier). scale R (R.mul (whole R d) (F.inverse (whole R H.table.places))) (combination R H.table.places c (back D)))
        (fun_ext (λ n. ap (R.mul (T.phase Q.generator (H.member n))) (h.trace-coset n)));
  }

  pub stands_of_traces : (t : Fin H.table.places → R.Carrier) → AreExtensionTraces Q D t → StandsForGenerator Q D (generator_from_traces F Q D t)
  stands_of_traces t h = extension-stands Q D (generator_from_traces F Q D t) h.family (extension_of_traces t h)
