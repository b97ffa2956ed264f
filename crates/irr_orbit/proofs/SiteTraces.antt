-- Traces of the families that sites bring to a little group.
--   trace_of_blocks                       by the blocks at the sites that g keeps
--   induced_trace, displacement_trace
use Rattle.std.proofs.Common.{◌≡◌, sym, ◌∙◌, ap, subst, ℕ, ◌<◌, inl, inr, ◌⊎◌}
use Rattle.std.specs.Int.{◌∣◌}
use Rattle.irr_algebra.specs.Ring.{Ring}
use Rattle.irr_algebra.specs.Fin.{Fin}
use Rattle.irr_algebra.specs.Sum.{sum}
use Rattle.irr_algebra.specs.Matrix.{Matrix, scale, null, trace}
use Rattle.irr_algebra.specs.Pair.{times}
use Rattle.irr_algebra.proofs.Indices.{same_or_not}
use Rattle.irr_algebra.proofs.Sums.{sum-ext, sum-zero}
use Rattle.irr_algebra.proofs.Matrices.{trace-scale}
use Rattle.irr_number.specs.Number.{Number, numbers, root_power}
use Rattle.irr_rational.specs.Integer.{whole_matrix}
use Rattle.irr_space.specs.Operation.{Operation, Vector, WaveVector, ◌⊙◌, translation}
use Rattle.irr_space.specs.Reciprocal.{Sign, IsPhase}
use Rattle.irr_space.specs.CanonicalOperation.{IsNumbering}
use Rattle.irr_space.specs.Star.{IsInLittleGroup}
use Rattle.irr_space.specs.PhaseTable.{PhaseTable, IsTableOf}
use Rattle.irr_cocycle.specs.SpaceGroupLaws.{IsGroup, HasCanonical}
use Rattle.irr_orbit.specs.Site.{Orbit, DifferBy, AreTogether, image, carrier, site}
use Rattle.irr_full.specs.Full.{block}
use Rattle.irr_orbit.specs.SiteFamily.{IsInduced, IsDisplacement, AreTerms}
use Rattle.irr_orbit.proofs.Monomial.{trace_by_blocks}
use Rattle.irr_orbit.proofs.SiteMoves.{to, shift, shift-differ, phase, phase-is, rest, rest-is, to_of}

trace-null : (R : Ring) (d : ℕ) → trace (null {R = R} {m = d} {n = d}) ≡ R.zero
unfolding trace null
trace-null R d = sum-zero R d

module _ (G : Operation → Type 0) (group : IsGroup G) (chosen : HasCanonical G) (s : Sign) (k : WaveVector) {h : ℕ} (ops : Fin h → Operation) (numbering : IsNumbering G (IsInLittleGroup G k) ops)
    (T : PhaseTable h) (table : IsTableOf s G k ops T) (M : ℕ) (positive : 0 < M) (v : T.order ∣ M) {x : Vector} (O : Orbit G x) where
  -- with a block on the diagonal for each site that is kept
  trace_of_blocks : {d : ℕ} (r : Fin O.places → Matrix (numbers M) d d) (i : Fin h) (m : Matrix (numbers M) (times O.sites d) (times O.sites d))
      → ((a : Fin O.sites) (t : Vector) (e : ℕ) (n : Fin O.places) → DifferBy G t (image (ops i) (site O a)) (site O a) → IsPhase s M k t e
      → ops i ⊙ carrier O a ≡ (translation t ⊙ carrier O a) ⊙ O.operation n → block d m a a ≡ scale (numbers M) (root_power M e) (r n))
      → ((a : Fin O.sites) → (AreTogether G (image (ops i) (site O a)) (site O a) → ⊥) → block d m a a ≡ null)
      → (f : Fin O.sites → Number M) → AreTerms s k M O (λ n. trace (r n)) (ops i) f → trace m ≡ sum (numbers M) O.sites f
  trace_of_blocks {d} r i m kept moved f terms = trace_by_blocks O.sites d m ∙ sum-ext (numbers M) O.sites (λ a. trace (block d m a a)) f (λ a. term a (same_or_not (goes a) a))
    where
      goes : Fin O.sites → Fin O.sites
      goes = to G group chosen s k ops numbering T table M positive v O i

      t : Fin O.sites → Vector
      t = shift G group chosen s k ops numbering T table M positive v O i

      e : Fin O.sites → ℕ
      e = phase G group chosen s k ops numbering T table M positive v O i

      n : Fin O.sites → Fin O.places
      n = rest G group chosen s k ops numbering T table M positive v O i

      term : (a : Fin O.sites) → (goes a ≡ a) ⊎ (goes a ≡ a → ⊥) → trace (block d m a a) ≡ f a
      term a (inl p) = ap trace (kept a (t a) (e a) (n a) differ (phase-is G group chosen s k ops numbering T table M positive v O i a) product)
          ∙ trace-scale (numbers M) (root_power M (e a)) (r (n a)) ∙ sym (terms.kept a (t a) (e a) (n a) differ (phase-is G group chosen s k ops numbering T table M positive v O i a) product)
        where
          differ : DifferBy G (t a) (image (ops i) (site O a)) (site O a)
          differ = subst (λ c. DifferBy G (t a) (image (ops i) (site O a)) (site O c)) p (shift-differ G group chosen s k ops numbering T table M positive v O i a)

          product : ops i ⊙ carrier O a ≡ (translation (t a) ⊙ carrier O a) ⊙ O.operation (n a)
          product = rest-is G group chosen s k ops numbering T table M positive v O i a ∙ ap (λ c. (translation (t a) ⊙ carrier O c) ⊙ O.operation (n a)) p
      term a (inr g) = ap trace (moved a (λ q. g (to_of G group chosen s k ops numbering T table M positive v O i a a q))) ∙ trace-null (numbers M) d
          ∙ sym (terms.moved a (λ q. g (to_of G group chosen s k ops numbering T table M positive v O i a a q)))

  pub induced_trace : {d : ℕ} (r : Fin O.places → Matrix (numbers M) d d) (i : Fin h) (m : Matrix (numbers M) (times O.sites d) (times O.sites d)) → IsInduced s k M O r (ops i) m
      → (f : Fin O.sites → Number M) → AreTerms s k M O (λ n. trace (r n)) (ops i) f → trace m ≡ sum (numbers M) O.sites f
  induced_trace r i m p = trace_of_blocks r i m (λ a t e n. p.carried a a t e n) (λ a. p.apart a a)

  pub displacement_trace : (i : Fin h) (m : Matrix (numbers M) (times O.sites 3) (times O.sites 3)) → IsDisplacement s k M O (ops i) m
      → (f : Fin O.sites → Number M) → AreTerms s k M O (λ n. trace (whole_matrix (numbers M) (ops i).rotation)) (ops i) f → trace m ≡ sum (numbers M) O.sites f
  displacement_trace i m p = trace_of_blocks (λ n. whole_matrix (numbers M) (ops i).rotation) i m (λ a t e n q w l. p.carried a a t e q w) (λ a. p.apart a a)
