-- The matrices that sites bring to a little group are monomial in blocks.
--   block_ne_null                        a block of an invertible matrix with a phase is not 0
--   induced_is_monomial, displacement_is_monomial
use Rattle.std.proofs.Common.{◌≡◌, sym, ◌∙◌, ap, ap₂, ℕ, ◌<◌, ◌-◌, ◌*◌, lit<}
use Rattle.std.specs.Int.{◌∣◌}
use Rattle.irr_algebra.specs.Fin.{Fin}
use Rattle.irr_algebra.specs.Matrix.{Matrix, ◌·◌, scale, unit, null}
use Rattle.irr_algebra.specs.Pair.{times}
use Rattle.irr_algebra.proofs.Entries.{unit-ne-null}
use Rattle.irr_algebra.proofs.Matrices.{null-mul, scale-one, scale-scale, scale-null}
use Rattle.irr_number.specs.Number.{numbers, root_power}
use Rattle.irr_number.proofs.NumberField.{number_field}
use Rattle.irr_number.specs.Lift.{lift}
use Rattle.irr_number.proofs.RootPowers.{root_power-inverse, root_power-zero}
use Rattle.irr_rational.specs.Integer.{whole_matrix}
use Rattle.irr_rational.proofs.Integers.{whole_matrix-mul, whole_matrix-unit}
use Rattle.irr_space.specs.Operation.{Operation, Vector, WaveVector, ◌⊙◌, translation, IsInverse}
use Rattle.irr_space.specs.Reciprocal.{Sign, IsPhase}
use Rattle.irr_space.specs.CanonicalOperation.{IsNumbering}
use Rattle.irr_space.specs.Star.{IsInLittleGroup}
use Rattle.irr_theory.specs.FactorSystem.{Representation}
use Rattle.irr_space.specs.PhaseTable.{PhaseTable, IsTableOf, phases_over}
use Rattle.irr_cocycle.specs.SpaceGroupLaws.{IsGroup, HasCanonical}
use Rattle.irr_cocycle.proofs.Operations.{rotation-inverse}
use Rattle.irr_orbit.specs.Site.{Orbit, DifferBy, AreTogether, image, carrier, site}
use Rattle.irr_orbit.specs.SiteTable.{IsSiteTable}
use Rattle.irr_full.specs.Full.{block}
use Rattle.irr_orbit.specs.SiteFamily.{IsMonomial, IsInduced, IsDisplacement}
use Rattle.irr_orbit.proofs.Sites.{moved, moved_once, reached, reached_once, rest}
use Rattle.irr_orbit.proofs.SiteMoves.{phase_exists}

-- an invertible matrix with a phase
pub block_ne_null : (M : ℕ) → 0 < M → (d : ℕ) → 0 < d → (X Y : Matrix (numbers M) d d) → X · Y ≡ unit (numbers M) d → (e : ℕ) → scale (numbers M) (root_power M e) X ≡ null → ⊥
block_ne_null M positive d some X Y i e h = unit-ne-null (number_field M positive) d some (sym i ∙ ap (λ (Z : Matrix (numbers M) d d). Z · Y) zero ∙ null-mul Y)
  where
    zero : X ≡ null
    zero = sym (scale-one X) ∙ ap (λ c. scale (numbers M) c X) (sym (root_power-inverse M positive e) ∙ (numbers M).mul_comm (root_power M e) (root_power M ((M - 1) * e)))
        ∙ sym (scale-scale (numbers M) (root_power M ((M - 1) * e)) (root_power M e) X) ∙ ap (scale (numbers M) (root_power M ((M - 1) * e))) h ∙ scale-null (numbers M) (root_power M ((M - 1) * e))

module _ (G : Operation → Type 0) (group : IsGroup G) (chosen : HasCanonical G) (s : Sign) (k : WaveVector) {h : ℕ} (ops : Fin h → Operation) (numbering : IsNumbering G (IsInLittleGroup G k) ops)
    (T : PhaseTable h) (table : IsTableOf s G k ops T) (M : ℕ) (positive : 0 < M) (v : T.order ∣ M) {x : Vector} (O : Orbit G x) where
  -- with invertible matrices in the blocks between a site and that to which it goes, and 0 in the others
  monomial : (d : ℕ) → 0 < d → (X Y : Fin O.places → Matrix (numbers M) d d) → ((n : Fin O.places) → X n · Y n ≡ unit (numbers M) d) → (i : Fin h) (m : Matrix (numbers M) (times O.sites d) (times O.sites d))
      → ((b a : Fin O.sites) (t : Vector) (e : ℕ) (n : Fin O.places) → DifferBy G t (image (ops i) (site O a)) (site O b) → IsPhase s M k t e
      → ops i ⊙ carrier O a ≡ (translation t ⊙ carrier O b) ⊙ O.operation n → block d m b a ≡ scale (numbers M) (root_power M e) (X n))
      → ((b a : Fin O.sites) → (AreTogether G (image (ops i) (site O a)) (site O b) → ⊥) → block d m b a ≡ null) → IsMonomial O.sites d m
  monomial d some X Y inverse i m carried apart = record {
    in_column = λ a. let b = moved G group O chosen (ops i) member a in
        (b.0, not_null b.0 a b.1, λ c f. apart c a (λ t. f (moved_once G group O (image (ops i) (site O a)) c b.0 t b.1)));
    in_row = λ b. let a = reached G group O chosen (ops i) member b in
        (a.0, not_null b a.0 a.1, λ c f. apart b c (λ t. f (reached_once G group O (ops i) member c a.0 (site O b) t a.1)));
  }
    where
      member : G (ops i)
      member = (numbering.member i).member

      not_null : (b a : Fin O.sites) → AreTogether G (image (ops i) (site O a)) (site O b) → block d m b a ≡ null → ⊥
      not_null b a (t, p) z =
          let e = phase_exists G group chosen s k ops numbering T table M positive v O t p.is_translation in
          let n = rest G group O (ops i) member a b t p in
          block_ne_null M positive d some (X n.0) (Y n.0) (inverse n.0) e.0 (sym (carried b a t e.0 n.0 p e.1 n.1) ∙ z)

  pub displacement_is_monomial : (i : Fin h) (m : Matrix (numbers M) (times O.sites 3) (times O.sites 3)) → IsDisplacement s k M O (ops i) m → IsMonomial O.sites 3 m
  displacement_is_monomial i m p = monomial 3 (lit< tt) (λ n. whole_matrix (numbers M) (ops i).rotation) (λ n. whole_matrix (numbers M) f.0.rotation)
      (λ n. sym (whole_matrix-mul (numbers M) (ops i).rotation f.0.rotation) ∙ ap (whole_matrix (numbers M)) (rotation-inverse (ops i) f.0 f.2) ∙ whole_matrix-unit (numbers M) 3)
      i m (λ b a t e n q w l. p.carried b a t e q w) p.apart
    where
      f : (f : Operation) × G f × IsInverse (ops i) f
      f = group.has_inverse (ops i) (numbering.member i).member

  pub induced_is_monomial : (n : ℕ) (U : PhaseTable O.places) → IsSiteTable n O.operation U → (u : U.order ∣ M) (d : ℕ) → 0 < d → (r : Representation (phases_over U M u) d)
      → (i : Fin h) (m : Matrix (numbers M) (times O.sites d) (times O.sites d)) → IsInduced s k M O r.at (ops i) m → IsMonomial O.sites d m
  induced_is_monomial n U site_table u d some r i m p = monomial d some r.at (λ l. r.at (U.opposite l)) inverse i m p.carried p.apart
    where
      inverse : (l : Fin O.places) → r.at l · r.at (U.opposite l) ≡ unit (numbers M) d
      inverse l = r.at-product l (U.opposite l)
          ∙ ap₂ (λ c j. scale (numbers M) c (r.at j)) (ap (lift U.order M U.order_positive u).map (ap (root_power U.order) (site_table.exponents l (U.opposite l)) ∙ root_power-zero U.order)
          ∙ (lift U.order M U.order_positive u).map-one) (U.product-opposite l) ∙ scale-one (r.at U.start) ∙ r.at-start
