-- The matrices that sites bring, over the numbers of a multiple of their order.
--   induced_over, displacement_over
use Rattle.std.proofs.Common.{◌≡◌, sym, ◌∙◌, ap, ap₂, refl, ℕ, ◌<◌, ◌*◌, ◌/◌}
use Rattle.std.specs.Int.{◌∣◌}
use native.Mathlib.Nat as Nat
use Rattle.irr_algebra.specs.Ring.{Ring}
use Rattle.irr_algebra.specs.Homomorphism.{Homomorphism, map_matrix}
use Rattle.irr_algebra.specs.Fin.{Fin}
use Rattle.irr_algebra.specs.Matrix.{Matrix, scale, null}
use Rattle.irr_algebra.specs.Pair.{times}
use Rattle.irr_algebra.proofs.Homomorphisms.{map-zero, map_matrix-scale}
use Rattle.irr_algebra.proofs.Matrices.{matrix-ext}
use Rattle.irr_number.specs.Integers.{integers}
use Rattle.irr_number.specs.Lift.{lift}
use Rattle.irr_number.specs.Number.{numbers, root_power}
use Rattle.irr_number.proofs.Lifts.{lift-root_power}
use Rattle.irr_number.proofs.Primes.{cofactor}
use Rattle.irr_rational.specs.Integer.{whole_matrix}
use Rattle.irr_rational.proofs.Integers.{map-integer}
use Rattle.irr_space.specs.Operation.{Operation, Vector, WaveVector}
use Rattle.irr_space.specs.SpaceGroup.{IsTranslation}
use Rattle.irr_space.specs.Reciprocal.{Sign, IsPhase}
use Rattle.irr_space.specs.CanonicalOperation.{IsNumbering}
use Rattle.irr_space.specs.Star.{IsInLittleGroup}
use Rattle.irr_space.specs.PhaseTable.{PhaseTable, IsTableOf}
use Rattle.irr_cocycle.specs.SpaceGroupLaws.{IsGroup, HasCanonical}
use Rattle.irr_cocycle.proofs.Phases.{phase_unique}
use Rattle.irr_orbit.specs.Site.{Orbit}
use Rattle.irr_full.specs.Full.{block}
use Rattle.irr_orbit.specs.SiteFamily.{IsInduced, IsDisplacement}
use Rattle.irr_full.proofs.PhaseLaws.{phase_raised}
use Rattle.irr_orbit.proofs.SiteMoves.{phase_exists}

module _ {R S : Ring} (φ : Homomorphism R S) where
  map-block : {n : ℕ} (d : ℕ) (m : Matrix R (times n d) (times n d)) (b a : Fin n) → block d (map_matrix φ m) b a ≡ map_matrix φ (block d m b a)
  unfolding block map_matrix
  map-block d m b a = matrix-ext (λ i j. refl)

  map-null : {m n : ℕ} → map_matrix φ (null {m = m} {n = n}) ≡ null
  unfolding map_matrix null
  map-null = matrix-ext (λ i j. map-zero φ)

  map-whole_matrix : {m n : ℕ} (A : Matrix integers m n) → map_matrix φ (whole_matrix R A) ≡ whole_matrix S A
  unfolding map_matrix whole_matrix
  map-whole_matrix A = matrix-ext (λ i j. map-integer φ (A.at i j))

module _ (G : Operation → Type 0) (group : IsGroup G) (chosen : HasCanonical G) (s : Sign) (k : WaveVector) {h : ℕ} (ops : Fin h → Operation) (numbering : IsNumbering G (IsInLittleGroup G k) ops)
    (T : PhaseTable h) (table : IsTableOf s G k ops T) (M : ℕ) (positive : 0 < M) (v : T.order ∣ M) {x : Vector} (O : Orbit G x) (L : ℕ) (some : 0 < L) (w : M ∣ L) where
  -- the phase of a translation over L is that over M
  phase_over : (t : Vector) → IsTranslation G t → (e : ℕ) → IsPhase s L k t e → (f : ℕ) × IsPhase s M k t f × (root_power L e ≡ (lift M L positive w).map (root_power M f))
  phase_over t m e p =
      let f = phase_exists G group chosen s k ops numbering T table M positive v O t m in
      (f.0, f.1, ap (root_power L) (phase_unique s L k t e (L / M * f.0) p (phase_raised s M (L / M) L split some k t f.0 f.1)) ∙ sym (lift-root_power M L positive w f.0))
    where
      split : M * (L / M) ≡ L
      split = let c = cofactor M L w in ap (λ q. M * q) (Nat.div-eq_of_eq-mul_right positive c.1) ∙ sym c.1

  pub induced_over : {d : ℕ} (r : Fin O.places → Matrix (numbers M) d d) (g : Operation) (m : Matrix (numbers M) (times O.sites d) (times O.sites d)) → IsInduced s k M O r g m
      → IsInduced s k L O (λ n. map_matrix (lift M L positive w) (r n)) g (map_matrix (lift M L positive w) m)
  induced_over {d} r g m p = record {
    carried = λ b a t e n q y i. let f = phase_over t q.is_translation e y in
        map-block (lift M L positive w) d m b a ∙ ap (map_matrix (lift M L positive w)) (p.carried b a t f.0 n q f.1 i) ∙ map_matrix-scale (lift M L positive w) (root_power M f.0) (r n)
        ∙ ap (λ c. scale (numbers L) c (map_matrix (lift M L positive w) (r n))) (sym f.2);
    apart = λ b a f. map-block (lift M L positive w) d m b a ∙ ap (map_matrix (lift M L positive w)) (p.apart b a f) ∙ map-null (lift M L positive w);
  }

  pub displacement_over : (g : Operation) (m : Matrix (numbers M) (times O.sites 3) (times O.sites 3)) → IsDisplacement s k M O g m → IsDisplacement s k L O g (map_matrix (lift M L positive w) m)
  displacement_over g m p = record {
    carried = λ b a t e q y. let f = phase_over t q.is_translation e y in
        map-block (lift M L positive w) 3 m b a ∙ ap (map_matrix (lift M L positive w)) (p.carried b a t f.0 q f.1) ∙ map_matrix-scale (lift M L positive w) (root_power M f.0) (whole_matrix (numbers M) g.rotation)
        ∙ ap₂ (λ c A. scale (numbers L) c A) (sym f.2) (map-whole_matrix (lift M L positive w) g.rotation);
    apart = λ b a f. map-block (lift M L positive w) 3 m b a ∙ ap (map_matrix (lift M L positive w)) (p.apart b a f) ∙ map-null (lift M L positive w);
  }
