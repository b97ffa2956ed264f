-- The families that sites bring to a little group.
--   from_pieces             a small representation from pieces that multiply along the sites
--   induced, induced-is, induced_unique
--   displacement, displacement-is, displacement_unique
--   vector_family, displacement_is_induced
use Rattle.std.proofs.Common.{◌≡◌, sym, ◌∙◌, ap, ap₂, subst, refl, ℕ, ◌<◌, inl, inr, ◌⊎◌}
use Rattle.std.specs.Int.{◌∣◌}
use Rattle.irr_algebra.specs.Fin.{Fin}
use Rattle.irr_algebra.specs.Matrix.{Matrix, ◌·◌, scale, unit, null}
use Rattle.irr_algebra.specs.Action.{Equivalent}
use Rattle.irr_algebra.specs.Pair.{times}
use Rattle.irr_algebra.proofs.Indices.{same_or_not}
use Rattle.irr_algebra.proofs.Matrices.{mul_assoc, unit-mul, mul-unit, scale-mul, mul-scale, scale-scale, scale-one}
use Rattle.irr_number.specs.Integers.{integers}
use Rattle.irr_number.specs.Number.{numbers, root_power}
use Rattle.irr_number.specs.Lift.{lift}
use Rattle.irr_number.proofs.RootPowers.{root_power-zero}
use Rattle.irr_theory.specs.FactorSystem.{Representation}
use Rattle.irr_rational.specs.Integer.{whole_matrix}
use Rattle.irr_rational.proofs.Integers.{whole_matrix-mul, whole_matrix-unit}
use Rattle.irr_space.specs.Operation.{Operation, Vector, WaveVector, ◌⊙◌, translation, IsInverse}
use Rattle.irr_space.specs.Reciprocal.{Sign, IsPhase}
use Rattle.irr_space.specs.CanonicalOperation.{IsNumbering}
use Rattle.irr_space.specs.Star.{IsInLittleGroup}
use Rattle.irr_space.specs.PhaseTable.{PhaseTable, IsTableOf, phases_over}
use Rattle.irr_cocycle.specs.SpaceGroupLaws.{IsGroup, HasCanonical}
use Rattle.irr_cocycle.proofs.Operations.{rotation-op, rotation-inverse}
use Rattle.irr_cocycle.proofs.Phases.{phase_unique}
use Rattle.irr_orbit.specs.Site.{Orbit, DifferBy, AreTogether, image, carrier, site}
use Rattle.irr_orbit.specs.SiteTable.{IsSiteTable}
use Rattle.irr_full.specs.Full.{block}
use Rattle.irr_orbit.specs.SiteFamily.{IsInduced, IsDisplacement}
use Rattle.irr_orbit.proofs.Sites.{rest_once, rotation_cancel, same_place, swapped, carrier_member}
use Rattle.irr_orbit.proofs.Monomial.{blocks, blocks-mul, blocks-ext, blocks-scale, blocks-unit, block_of_column, block_null, eq_of_blocks}
use Rattle.irr_orbit.proofs.SiteMoves.{to, shift, shift-differ, phase, phase-is, rest, rest-is, to_of, shift_of, to-start, to-product, phase-start, phase-product, rotation-product, rotation-start, rest-rotation}

module _ (G : Operation → Type 0) (group : IsGroup G) {x : Vector} (O : Orbit G x) {n : ℕ} (U : PhaseTable O.places) (site_table : IsSiteTable n O.operation U) where
  pub site_rotation : (l m : Fin O.places) → (O.operation (U.product l m)).rotation ≡ (O.operation l).rotation · (O.operation m).rotation
  site_rotation l m = ap (λ (f : Operation). f.rotation) (sym (site_table.products l m)) ∙ rotation-op (O.operation l) (O.operation m)

  pub site_unit : (O.operation U.start).rotation ≡ unit integers 3
  site_unit = let f = group.has_inverse (O.operation U.start) (O.numbering.member U.start).member in
      rotation_cancel (O.operation U.start) f.0 (O.operation U.start).rotation (unit integers 3) f.2
      (sym (site_rotation U.start U.start) ∙ ap (λ l. (O.operation l).rotation) (U.start-product U.start) ∙ sym (mul-unit (O.operation U.start).rotation))

  -- the rotations of its operations are a representation of the site group
  pub no_site_phase : (M : ℕ) (u : U.order ∣ M) (l m : Fin O.places) → (phases_over U M u).phase l m ≡ (numbers M).one
  no_site_phase M u l m = ap (lift U.order M U.order_positive u).map (ap (root_power U.order) (site_table.exponents l m) ∙ root_power-zero U.order) ∙ (lift U.order M U.order_positive u).map-one

  abbrev pub vector_family : (M : ℕ) (u : U.order ∣ M) → Representation (phases_over U M u) 3
  vector_family M u = record {
    at = λ l. whole_matrix (numbers M) (O.operation l).rotation;
    at-start = ap (whole_matrix (numbers M)) site_unit ∙ whole_matrix-unit (numbers M) 3;
    at-product = λ l m. sym (whole_matrix-mul (numbers M) (O.operation l).rotation (O.operation m).rotation) ∙ ap (whole_matrix (numbers M)) (sym (site_rotation l m))
        ∙ sym (scale-one (whole_matrix (numbers M) (O.operation (U.product l m)).rotation))
        ∙ ap (λ c. scale (numbers M) c (whole_matrix (numbers M) (O.operation (U.product l m)).rotation)) (sym (no_site_phase M u l m));
  }

module _ (G : Operation → Type 0) (group : IsGroup G) (chosen : HasCanonical G) (s : Sign) (k : WaveVector) {h : ℕ} (ops : Fin h → Operation) (numbering : IsNumbering G (IsInLittleGroup G k) ops)
    (T : PhaseTable h) (table : IsTableOf s G k ops T) (M : ℕ) (positive : 0 < M) (v : T.order ∣ M) {x : Vector} (O : Orbit G x) where
  pub goes : Fin h → Fin O.sites → Fin O.sites
  goes = to G group chosen s k ops numbering T table M positive v O

  pub turn : Fin h → Fin O.sites → ℕ
  turn = phase G group chosen s k ops numbering T table M positive v O

  -- pieces with their phases
  weighted : {d : ℕ} → (Fin h → Fin O.sites → Matrix (numbers M) d d) → Fin h → Fin O.sites → Matrix (numbers M) d d
  weighted P i a = scale (numbers M) (root_power M (turn i a)) (P i a)

  pub family : {d : ℕ} → (Fin h → Fin O.sites → Matrix (numbers M) d d) → Fin h → Matrix (numbers M) (times O.sites d) (times O.sites d)
  family P i = blocks (goes i) (weighted P i)

  -- pieces that multiply along the sites
  abbrev pub Multiply : {d : ℕ} → (Fin h → Fin O.sites → Matrix (numbers M) d d) → Type 0
  Multiply P = (i j : Fin h) (a : Fin O.sites) → P i (goes j a) · P j a ≡ P (T.product i j) a

  family-start : {d : ℕ} (P : Fin h → Fin O.sites → Matrix (numbers M) d d) → ((a : Fin O.sites) → P T.start a ≡ unit (numbers M) d) → family P T.start ≡ unit (numbers M) (times O.sites d)
  unfolding family weighted goes turn
  family-start {d} P e = blocks-unit (goes T.start) (weighted P T.start) (to-start G group chosen s k ops numbering T table M positive v O)
      (λ a. ap₂ (λ c m. scale (numbers M) c m) (phase-start G group chosen s k ops numbering T table M positive v O a) (e a) ∙ scale-one (unit (numbers M) d))

  family-product : {d : ℕ} (P : Fin h → Fin O.sites → Matrix (numbers M) d d) → Multiply P → (i j : Fin h) → family P i · family P j ≡ scale (numbers M) ((phases_over T M v).phase i j) (family P (T.product i j))
  unfolding family goes turn weighted
  family-product P m i j = blocks-mul (goes i) (goes j) (weighted P i) (weighted P j)
      ∙ blocks-ext (λ a. goes i (goes j a)) (goes (T.product i j)) (λ a. weighted P i (goes j a) · weighted P j a) (λ a. scale (numbers M) ((phases_over T M v).phase i j) (weighted P (T.product i j) a)) moves pieces
      ∙ blocks-scale ((phases_over T M v).phase i j) (goes (T.product i j)) (weighted P (T.product i j))
    where
      moves : (a : Fin O.sites) → goes i (goes j a) ≡ goes (T.product i j) a
      moves = to-product G group chosen s k ops numbering T table M positive v O i j

      phases : (a : Fin O.sites) → (numbers M).mul (root_power M (turn i (goes j a))) (root_power M (turn j a)) ≡ (numbers M).mul ((phases_over T M v).phase i j) (root_power M (turn (T.product i j) a))
      phases = phase-product G group chosen s k ops numbering T table M positive v O i j

      pieces : (a : Fin O.sites) → weighted P i (goes j a) · weighted P j a ≡ scale (numbers M) ((phases_over T M v).phase i j) (weighted P (T.product i j) a)
      pieces a = scale-mul (numbers M) (root_power M (turn i (goes j a))) (P i (goes j a)) (scale (numbers M) (root_power M (turn j a)) (P j a))
          ∙ ap (scale (numbers M) (root_power M (turn i (goes j a)))) (mul-scale (numbers M) (root_power M (turn j a)) (P i (goes j a)) (P j a))
          ∙ scale-scale (numbers M) (root_power M (turn i (goes j a))) (root_power M (turn j a)) (P i (goes j a) · P j a)
          ∙ ap₂ (λ c m. scale (numbers M) c m) (phases a) (m i j a)
          ∙ sym (scale-scale (numbers M) ((phases_over T M v).phase i j) (root_power M (turn (T.product i j) a)) (P (T.product i j) a))

  -- a small representation from pieces
  pub from_pieces : {d : ℕ} (P : Fin h → Fin O.sites → Matrix (numbers M) d d) → ((a : Fin O.sites) → P T.start a ≡ unit (numbers M) d) → Multiply P → Representation (phases_over T M v) (times O.sites d)
  from_pieces P e m = record { at = family P; at-start = family-start P e; at-product = family-product P m }

  pub from_pieces-at : {d : ℕ} (P : Fin h → Fin O.sites → Matrix (numbers M) d d) (e : (a : Fin O.sites) → P T.start a ≡ unit (numbers M) d) (m : Multiply P) (i : Fin h) → (from_pieces P e m).at i ≡ family P i
  unfolding from_pieces
  from_pieces-at P e m i = refl

  -- the block at a site and the site to which it goes
  pub block-to : {d : ℕ} (P : Fin h → Fin O.sites → Matrix (numbers M) d d) (i : Fin h) (b a : Fin O.sites) (t : Vector) (e : ℕ) → DifferBy G t (image (ops i) (site O a)) (site O b) → IsPhase s M k t e
      → block d (family P i) b a ≡ scale (numbers M) (root_power M e) (P i a)
  unfolding family weighted goes turn
  block-to P i b a t e p q = block_of_column (goes i) (weighted P i) b a place ∙ ap (λ f. scale (numbers M) (root_power M f) (P i a)) phases
    where
      place : goes i a ≡ b
      place = to_of G group chosen s k ops numbering T table M positive v O i a b (t, p)

      phases : turn i a ≡ e
      phases = phase_unique s M k t (turn i a) e (subst (λ u. IsPhase s M k u (turn i a)) (shift_of G group chosen s k ops numbering T table M positive v O i a b t p)
          (phase-is G group chosen s k ops numbering T table M positive v O i a)) q

  pub block-away : {d : ℕ} (P : Fin h → Fin O.sites → Matrix (numbers M) d d) (i : Fin h) (b a : Fin O.sites) → (AreTogether G (image (ops i) (site O a)) (site O b) → ⊥) → block d (family P i) b a ≡ null
  unfolding family goes
  block-away P i b a f = block_null (goes i) (weighted P i) b a (λ e. f (subst (λ c. AreTogether G (image (ops i) (site O a)) (site O c)) e
      (shift G group chosen s k ops numbering T table M positive v O i a, shift-differ G group chosen s k ops numbering T table M positive v O i a)))

  -- displacements
  turned_by : Fin h → Fin O.sites → Matrix (numbers M) 3 3
  turned_by i a = whole_matrix (numbers M) (ops i).rotation

  turned_by-start : (a : Fin O.sites) → turned_by T.start a ≡ unit (numbers M) 3
  unfolding turned_by
  turned_by-start a = ap (whole_matrix (numbers M)) (rotation-start G group chosen s k ops numbering T table M positive v O) ∙ whole_matrix-unit (numbers M) 3

  turned_by-product : Multiply turned_by
  unfolding turned_by
  turned_by-product i j a = sym (whole_matrix-mul (numbers M) (ops i).rotation (ops j).rotation) ∙ ap (whole_matrix (numbers M)) (rotation-product G group chosen s k ops numbering T table M positive v O i j)

  pub displacement : Representation (phases_over T M v) (times O.sites 3)
  displacement = from_pieces turned_by turned_by-start turned_by-product

  displacement-at : (i : Fin h) → displacement.at i ≡ family turned_by i
  unfolding displacement
  displacement-at i = from_pieces-at turned_by turned_by-start turned_by-product i

  pub displacement-is : (i : Fin h) → IsDisplacement s k M O (ops i) (displacement.at i)
  unfolding turned_by
  displacement-is i = record {
    carried = λ b a t e p q. ap (λ m. block 3 m b a) (displacement-at i) ∙ block-to turned_by i b a t e p q;
    apart = λ b a f. ap (λ m. block 3 m b a) (displacement-at i) ∙ block-away turned_by i b a f;
  }

  pub displacement_unique : (i : Fin h) (m w : Matrix (numbers M) (times O.sites 3) (times O.sites 3)) → IsDisplacement s k M O (ops i) m → IsDisplacement s k M O (ops i) w → m ≡ w
  unfolding goes
  displacement_unique i m w p q = eq_of_blocks m w (λ b a. from_place b a (same_or_not (goes i a) b))
    where
      from_place : (b a : Fin O.sites) → (goes i a ≡ b) ⊎ (goes i a ≡ b → ⊥) → block 3 m b a ≡ block 3 w b a
      from_place b a (inl e) = p.carried b a (shift G group chosen s k ops numbering T table M positive v O i a) (phase G group chosen s k ops numbering T table M positive v O i a)
          (subst (λ c. DifferBy G (shift G group chosen s k ops numbering T table M positive v O i a) (image (ops i) (site O a)) (site O c)) e (shift-differ G group chosen s k ops numbering T table M positive v O i a))
          (phase-is G group chosen s k ops numbering T table M positive v O i a)
          ∙ sym (q.carried b a (shift G group chosen s k ops numbering T table M positive v O i a) (phase G group chosen s k ops numbering T table M positive v O i a)
          (subst (λ c. DifferBy G (shift G group chosen s k ops numbering T table M positive v O i a) (image (ops i) (site O a)) (site O c)) e (shift-differ G group chosen s k ops numbering T table M positive v O i a))
          (phase-is G group chosen s k ops numbering T table M positive v O i a))
      from_place b a (inr f) = p.apart b a (λ t. f (to_of G group chosen s k ops numbering T table M positive v O i a b t)) ∙ sym (q.apart b a (λ t. f (to_of G group chosen s k ops numbering T table M positive v O i a b t)))

  -- the family that a representation of the site group induces
  module _ (n : ℕ) (U : PhaseTable O.places) (site_table : IsSiteTable n O.operation U) (u : U.order ∣ M) {d : ℕ} (r : Representation (phases_over U M u) d) where
    left_over : Fin h → Fin O.sites → Fin O.places
    left_over = rest G group chosen s k ops numbering T table M positive v O

    left_over-rotation : (i : Fin h) (a : Fin O.sites) → (ops i).rotation · (carrier O a).rotation ≡ (carrier O (goes i a)).rotation · (O.operation (left_over i a)).rotation
    unfolding left_over goes
    left_over-rotation = rest-rotation G group chosen s k ops numbering T table M positive v O

    piece : Fin h → Fin O.sites → Matrix (numbers M) d d
    piece i a = r.at (left_over i a)

    left_over-start : (a : Fin O.sites) → left_over T.start a ≡ U.start
    unfolding goes
    left_over-start a = same_place G group O (goes T.start a) (left_over T.start a) U.start
        (sym (left_over-rotation T.start a) ∙ ap (λ R. R · (carrier O a).rotation) (rotation-start G group chosen s k ops numbering T table M positive v O) ∙ unit-mul (carrier O a).rotation
        ∙ ap (λ c. (carrier O c).rotation) (sym (to-start G group chosen s k ops numbering T table M positive v O a)) ∙ sym (mul-unit (carrier O (goes T.start a)).rotation)
        ∙ ap (λ R. (carrier O (goes T.start a)).rotation · R) (sym (site_unit G group O U site_table)))

    left_over-product : (i j : Fin h) (a : Fin O.sites) → U.product (left_over i (goes j a)) (left_over j a) ≡ left_over (T.product i j) a
    unfolding goes
    left_over-product i j a = same_place G group O (goes i (goes j a)) (U.product (left_over i (goes j a)) (left_over j a)) (left_over (T.product i j) a)
        (ap (λ R. (carrier O (goes i (goes j a))).rotation · R) (site_rotation G group O U site_table (left_over i (goes j a)) (left_over j a))
        ∙ sym (mul_assoc (carrier O (goes i (goes j a))).rotation (O.operation (left_over i (goes j a))).rotation (O.operation (left_over j a)).rotation)
        ∙ ap (λ R. R · (O.operation (left_over j a)).rotation) (sym (left_over-rotation i (goes j a)))
        ∙ mul_assoc (ops i).rotation (carrier O (goes j a)).rotation (O.operation (left_over j a)).rotation
        ∙ ap (λ R. (ops i).rotation · R) (sym (left_over-rotation j a)) ∙ sym (mul_assoc (ops i).rotation (ops j).rotation (carrier O a).rotation)
        ∙ ap (λ R. R · (carrier O a).rotation) (rotation-product G group chosen s k ops numbering T table M positive v O i j) ∙ left_over-rotation (T.product i j) a
        ∙ ap (λ c. (carrier O c).rotation · (O.operation (left_over (T.product i j) a)).rotation) (sym moves))
      where
        moves : goes i (goes j a) ≡ goes (T.product i j) a
        moves = to-product G group chosen s k ops numbering T table M positive v O i j a

    piece-start : (a : Fin O.sites) → piece T.start a ≡ unit (numbers M) d
    unfolding piece
    piece-start a = ap r.at (left_over-start a) ∙ r.at-start

    no_phase : (l m : Fin O.places) → (phases_over U M u).phase l m ≡ (numbers M).one
    no_phase l m = ap (lift U.order M U.order_positive u).map (ap (root_power U.order) (site_table.exponents l m) ∙ root_power-zero U.order) ∙ (lift U.order M U.order_positive u).map-one

    piece-product : Multiply piece
    unfolding piece
    piece-product i j a = r.at-product (left_over i (goes j a)) (left_over j a)
        ∙ ap₂ (λ c l. scale (numbers M) c (r.at l)) (no_phase (left_over i (goes j a)) (left_over j a)) (left_over-product i j a) ∙ scale-one (r.at (left_over (T.product i j) a))

    pub induced : Representation (phases_over T M v) (times O.sites d)
    induced = from_pieces piece piece-start piece-product

    induced-at : (i : Fin h) → induced.at i ≡ family piece i
    unfolding induced
    induced-at i = from_pieces-at piece piece-start piece-product i

    pub induced-is : (i : Fin h) → IsInduced s k M O r.at (ops i) (induced.at i)
    unfolding piece left_over
    induced-is i = record {
      carried = λ b a t e l p q g. ap (λ m. block d m b a) (induced-at i) ∙ block-to piece i b a t e p q ∙ ap (scale (numbers M) (root_power M e)) (place b a t l p g);
      apart = λ b a f. ap (λ m. block d m b a) (induced-at i) ∙ block-away piece i b a f;
    }
      where
        place : (b a : Fin O.sites) (t : Vector) (l : Fin O.places) → DifferBy G t (image (ops i) (site O a)) (site O b) → ops i ⊙ carrier O a ≡ (translation t ⊙ carrier O b) ⊙ O.operation l → piece i a ≡ r.at l
        place b a t l p g = ap r.at (rest_once G group O (ops i ⊙ carrier O a) a b t p.is_translation l (left_over i a) g
            (rest-is G group chosen s k ops numbering T table M positive v O i a
            ∙ ap₂ (λ w c. (translation w ⊙ carrier O c) ⊙ O.operation (left_over i a)) (shift_of G group chosen s k ops numbering T table M positive v O i a b t p)
            (to_of G group chosen s k ops numbering T table M positive v O i a b (t, p))))

  pub induced_unique : {d : ℕ} (r : Fin O.places → Matrix (numbers M) d d) (i : Fin h) (m w : Matrix (numbers M) (times O.sites d) (times O.sites d)) → IsInduced s k M O r (ops i) m → IsInduced s k M O r (ops i) w → m ≡ w
  unfolding goes
  induced_unique {d} r i m w p q = eq_of_blocks m w (λ b a. from_place b a (same_or_not (goes i a) b))
    where
      from_place : (b a : Fin O.sites) → (goes i a ≡ b) ⊎ (goes i a ≡ b → ⊥) → block d m b a ≡ block d w b a
      from_place b a (inl e) = carried m p ∙ sym (carried w q)
        where
          carried : (m : Matrix (numbers M) (times O.sites d) (times O.sites d)) → IsInduced s k M O r (ops i) m
              → block d m b a ≡ scale (numbers M) (root_power M (phase G group chosen s k ops numbering T table M positive v O i a)) (r (rest G group chosen s k ops numbering T table M positive v O i a))
          carried m p = p.carried b a (shift G group chosen s k ops numbering T table M positive v O i a) (phase G group chosen s k ops numbering T table M positive v O i a)
              (rest G group chosen s k ops numbering T table M positive v O i a)
              (subst (λ c. DifferBy G (shift G group chosen s k ops numbering T table M positive v O i a) (image (ops i) (site O a)) (site O c)) e (shift-differ G group chosen s k ops numbering T table M positive v O i a))
              (phase-is G group chosen s k ops numbering T table M positive v O i a)
              (rest-is G group chosen s k ops numbering T table M positive v O i a
              ∙ ap (λ c. (translation (shift G group chosen s k ops numbering T table M positive v O i a) ⊙ carrier O c) ⊙ O.operation (rest G group chosen s k ops numbering T table M positive v O i a)) e)
      from_place b a (inr f) = p.apart b a (λ t. f (to_of G group chosen s k ops numbering T table M positive v O i a b t)) ∙ sym (q.apart b a (λ t. f (to_of G group chosen s k ops numbering T table M positive v O i a b t)))

  -- the rotation of h_a, as a matrix on the block of the site
  module _ (n : ℕ) (U : PhaseTable O.places) (site_table : IsSiteTable n O.operation U) (u : U.order ∣ M) where
    carried_by : Fin O.sites → Matrix (numbers M) 3 3
    carried_by a = whole_matrix (numbers M) (carrier O a).rotation

    back : (a : Fin O.sites) → (f : Operation) × G f × IsInverse (carrier O a) f
    back a = group.has_inverse (carrier O a) (carrier_member G group O a)

    carried_back : Fin O.sites → Matrix (numbers M) 3 3
    carried_back a = whole_matrix (numbers M) (back a).0.rotation

    vectors : Representation (phases_over U M u) 3
    vectors = vector_family G group O U site_table M u

    intertwined : (i : Fin h) (a : Fin O.sites) → weighted turned_by i a · carried_by a ≡ carried_by (goes i a) · weighted (piece n U site_table u vectors) i a
    unfolding weighted turned_by carried_by piece vectors
    intertwined i a = scale-mul (numbers M) (root_power M (turn i a)) (whole_matrix (numbers M) (ops i).rotation) (whole_matrix (numbers M) (carrier O a).rotation)
        ∙ ap (scale (numbers M) (root_power M (turn i a))) (sym (whole_matrix-mul (numbers M) (ops i).rotation (carrier O a).rotation) ∙ ap (whole_matrix (numbers M)) (left_over-rotation n U site_table u vectors i a)
        ∙ whole_matrix-mul (numbers M) (carrier O (goes i a)).rotation (O.operation (left_over n U site_table u vectors i a)).rotation)
        ∙ sym (mul-scale (numbers M) (root_power M (turn i a)) (whole_matrix (numbers M) (carrier O (goes i a)).rotation) (whole_matrix (numbers M) (O.operation (left_over n U site_table u vectors i a)).rotation))

    undone_by : (a : Fin O.sites) → carried_by a · carried_back a ≡ unit (numbers M) 3
    unfolding carried_by carried_back
    undone_by a = sym (whole_matrix-mul (numbers M) (carrier O a).rotation (back a).0.rotation) ∙ ap (whole_matrix (numbers M)) (rotation-inverse (carrier O a) (back a).0 (back a).2) ∙ whole_matrix-unit (numbers M) 3

    redone_by : (a : Fin O.sites) → carried_back a · carried_by a ≡ unit (numbers M) 3
    unfolding carried_by carried_back
    redone_by a = sym (whole_matrix-mul (numbers M) (back a).0.rotation (carrier O a).rotation)
        ∙ ap (whole_matrix (numbers M)) (rotation-inverse (back a).0 (carrier O a) (swapped (carrier O a) (back a).0 (back a).2)) ∙ whole_matrix-unit (numbers M) 3

    products : (i : Fin h) → family turned_by i · blocks (λ a. a) carried_by ≡ blocks (λ a. a) carried_by · family (piece n U site_table u vectors) i
    unfolding family
    products i = blocks-mul (goes i) (λ a. a) (weighted turned_by i) carried_by
        ∙ blocks-ext (goes i) (goes i) (λ a. weighted turned_by i a · carried_by a) (λ a. carried_by (goes i a) · weighted (piece n U site_table u vectors) i a) (λ a. refl) (intertwined i)
        ∙ sym (blocks-mul (λ a. a) (goes i) carried_by (weighted (piece n U site_table u vectors) i))

    pub displacement_is_induced : (A D : Fin h → Matrix (numbers M) (times O.sites 3) (times O.sites 3)) → ((i : Fin h) → IsInduced s k M O (vector_family G group O U site_table M u).at (ops i) (A i))
        → ((i : Fin h) → IsDisplacement s k M O (ops i) (D i)) → Equivalent A D
    unfolding vectors
    displacement_is_induced A D p q = record {
      forward = blocks (λ a. a) carried_by;
      backward = blocks (λ a. a) carried_back;
      is_intertwiner = record {
        intertwines = λ i.
            ap (λ Z. Z · blocks (λ a. a) carried_by) (displacement_unique i (D i) (displacement.at i) (q i) (displacement-is i) ∙ displacement-at i)
            ∙ products i
            ∙ ap (λ Z. blocks (λ a. a) carried_by · Z) (sym (induced_unique vectors.at i (A i) ((induced n U site_table u vectors).at i) (p i) (induced-is n U site_table u vectors i) ∙ induced-at n U site_table u vectors i));
      };
      forward-backward = blocks-mul (λ a. a) (λ a. a) carried_by carried_back ∙ blocks-unit (λ a. a) (λ a. carried_by a · carried_back a) (λ a. refl) (λ a. undone_by a);
      backward-forward = blocks-mul (λ a. a) (λ a. a) carried_back carried_by ∙ blocks-unit (λ a. a) (λ a. carried_back a · carried_by a) (λ a. refl) (λ a. redone_by a);
    }
