-- How the canonical operations of a little group move the sites of a point, with the phases of the translations.
--   to, shift, phase, rest       g_i h_a = (1|t) h_b n, with b, t, the exponent of the phase of t, and the place of n in the site group
--   to-start, to-product         they permute the sites
--   phase-start, phase-product   and their phases have the factor system of the little group
--   rest-rotation                the rotation of what is left
use Rattle.std.proofs.Common.{◌≡◌, sym, ◌∙◌, ap, subst, ℕ, ◌<◌, ◌*◌, ◌/◌}
use Rattle.std.specs.Int.{◌∣◌}
use native.Mathlib.Nat as Nat
use Rattle.irr_algebra.specs.Fin.{Fin}
use Rattle.irr_algebra.specs.Matrix.{◌·◌, ◌⊕◌, ◌⊖◌, unit, null}
use Rattle.irr_algebra.proofs.Matrices.{null-add}
use Rattle.irr_number.specs.Integers.{integers}
use Rattle.irr_number.specs.Number.{numbers, root_power}
use Rattle.irr_number.proofs.Lifts.{lift-root_power}
use Rattle.irr_number.proofs.Primes.{cofactor}
use Rattle.irr_number.proofs.RootPowers.{root_power-zero}
use Rattle.irr_space.specs.Operation.{Operation, Vector, WaveVector, ◌⊙◌, identity, translation, turned}
use Rattle.irr_space.specs.SpaceGroup.{IsTranslation}
use Rattle.irr_space.specs.Reciprocal.{Sign, IsPhase}
use Rattle.irr_space.specs.CanonicalOperation.{IsNumbering}
use Rattle.irr_space.specs.Star.{IsInLittleGroup}
use Rattle.irr_space.specs.PhaseTable.{PhaseTable, IsTableOf, phases_over}
use Rattle.irr_cocycle.specs.SpaceGroupLaws.{IsGroup, HasCanonical}
use Rattle.irr_cocycle.proofs.Operations.{wide, rotation-op, rotation-identity, rotation-translation-op, add_matrix_assoc, add-sub, dot-turned}
use Rattle.irr_cocycle.proofs.Reciprocals.{translation-turned}
use Rattle.irr_cocycle.proofs.Phases.{order_at, phase_of_translation, phase_unique, phase-null}
use Rattle.irr_orbit.specs.Site.{Orbit, DifferBy, AreTogether, image, carrier, site}
use Rattle.irr_orbit.proofs.Points.{image-op, image-identity, image-translation, image-add}
use Rattle.irr_orbit.proofs.Sites.{moved, moved_once, same_site, together_refl, together_trans, together_sym, sum_translation}
use Rattle.irr_orbit.proofs.Sites as S
use Rattle.irr_orbit.proofs.Canonical.{start_is_identity}
use Rattle.irr_full.proofs.PhaseLaws.{phase_add, phase_by_dot, phase_equivalent, phase_raised}

-- t = u where t + y = u + y
pub vector_cancel : (t u y : Vector) → t ⊕ y ≡ u ⊕ y → t ≡ u
vector_cancel t u y e = sym (add-sub t y) ∙ ap (λ v. v ⊖ y) e ∙ add-sub u y

module _ (G : Operation → Type 0) (group : IsGroup G) (chosen : HasCanonical G) (s : Sign) (k : WaveVector) {h : ℕ} (ops : Fin h → Operation) (numbering : IsNumbering G (IsInLittleGroup G k) ops)
    (T : PhaseTable h) (table : IsTableOf s G k ops T) (M : ℕ) (positive : 0 < M) (v : T.order ∣ M) {x : Vector} (O : Orbit G x) where
  pub member : (i : Fin h) → G (ops i)
  member i = (numbering.member i).member

  pub to : Fin h → Fin O.sites → Fin O.sites
  to i a = (moved G group O chosen (ops i) (member i) a).0

  pub shift : Fin h → Fin O.sites → Vector
  shift i a = (moved G group O chosen (ops i) (member i) a).1.0

  pub shift-differ : (i : Fin h) (a : Fin O.sites) → DifferBy G (shift i a) (image (ops i) (site O a)) (site O (to i a))
  unfolding to shift
  shift-differ i a = (moved G group O chosen (ops i) (member i) a).1.1

  pub split : T.order * (M / T.order) ≡ M
  split = let c = cofactor T.order M v in ap (λ q. T.order * q) (Nat.div-eq_of_eq-mul_right T.order_positive c.1) ∙ sym c.1

  pub phase_exists : (t : Vector) → IsTranslation G t → (e : ℕ) × IsPhase s M k t e
  phase_exists t m = let p = phase_of_translation G s k T.order (order_at G k T.order table.is_order) t m in (M / T.order * p.0, phase_raised s T.order (M / T.order) M split positive k t p.0 p.1)

  pub phase : Fin h → Fin O.sites → ℕ
  phase i a = (phase_exists (shift i a) (shift-differ i a).is_translation).0

  pub phase-is : (i : Fin h) (a : Fin O.sites) → IsPhase s M k (shift i a) (phase i a)
  unfolding phase
  phase-is i a = (phase_exists (shift i a) (shift-differ i a).is_translation).1

  pub rest : Fin h → Fin O.sites → Fin O.places
  rest i a = (S.rest G group O (ops i) (member i) a (to i a) (shift i a) (shift-differ i a)).0

  pub rest-is : (i : Fin h) (a : Fin O.sites) → ops i ⊙ carrier O a ≡ (translation (shift i a) ⊙ carrier O (to i a)) ⊙ O.operation (rest i a)
  unfolding rest
  rest-is i a = (S.rest G group O (ops i) (member i) a (to i a) (shift i a) (shift-differ i a)).1

  -- where t and b are, they are shift and to
  pub to_of : (i : Fin h) (a b : Fin O.sites) → AreTogether G (image (ops i) (site O a)) (site O b) → to i a ≡ b
  to_of i a b p = moved_once G group O (image (ops i) (site O a)) (to i a) b (shift i a, shift-differ i a) p

  pub shift_of : (i : Fin h) (a b : Fin O.sites) (t : Vector) → DifferBy G t (image (ops i) (site O a)) (site O b) → shift i a ≡ t
  shift_of i a b t p = vector_cancel (shift i a) t (site O b) (ap (λ c. shift i a ⊕ site O c) (sym (to_of i a b (t, p))) ∙ sym (shift-differ i a).is_sum ∙ p.is_sum)

  start-identity : ops T.start ≡ identity
  start-identity = start_is_identity G group s k ops numbering T table

  start-differ : (a : Fin O.sites) → AreTogether G (image (ops T.start) (site O a)) (site O a)
  start-differ a = subst (λ y. AreTogether G y (site O a)) (sym (image-identity (site O a)) ∙ ap (λ g. image g (site O a)) (sym start-identity)) (together_refl G group (site O a))

  pub to-start : (a : Fin O.sites) → to T.start a ≡ a
  to-start a = to_of T.start a a (start-differ a)

  shift-start : (a : Fin O.sites) → shift T.start a ≡ null
  shift-start a = vector_cancel (shift T.start a) null (site O a) (ap (λ c. shift T.start a ⊕ site O c) (sym (to-start a)) ∙ sym (shift-differ T.start a).is_sum
      ∙ ap (λ g. image g (site O a)) start-identity ∙ image-identity (site O a) ∙ sym (null-add (site O a)))

  pub phase-start : (a : Fin O.sites) → root_power M (phase T.start a) ≡ (numbers M).one
  phase-start a = ap (root_power M) (phase_unique s M k null (phase T.start a) 0 (subst (λ t. IsPhase s M k t (phase T.start a)) (shift-start a) (phase-is T.start a)) (phase-null s M k positive)) ∙ root_power-zero M

  -- g_i g_j x_a in two ways
  pub image-product : (i j : Fin h) (a : Fin O.sites) → image (ops i) (image (ops j) (site O a)) ≡ table.quotient i j ⊕ image (ops (T.product i j)) (site O a)
  image-product i j a = sym (image-op (ops i) (ops j) (site O a)) ∙ ap (λ g. image g (site O a)) (table.products i j)
      ∙ image-op (translation (table.quotient i j)) (ops (T.product i j)) (site O a) ∙ image-translation (table.quotient i j) (image (ops (T.product i j)) (site O a))

  image-twice : (i j : Fin h) (a : Fin O.sites) → image (ops i) (image (ops j) (site O a)) ≡ ((wide (ops i) · shift j a) ⊕ shift i (to j a)) ⊕ site O (to i (to j a))
  image-twice i j a = ap (image (ops i)) (shift-differ j a).is_sum ∙ image-add (ops i) (shift j a) (site O (to j a)) ∙ ap (λ y. (wide (ops i) · shift j a) ⊕ y) (shift-differ i (to j a)).is_sum
      ∙ sym (add_matrix_assoc (wide (ops i) · shift j a) (shift i (to j a)) (site O (to i (to j a))))

  image-once : (i j : Fin h) (a : Fin O.sites) → image (ops i) (image (ops j) (site O a)) ≡ (table.quotient i j ⊕ shift (T.product i j) a) ⊕ site O (to (T.product i j) a)
  image-once i j a = image-product i j a ∙ ap (λ y. table.quotient i j ⊕ y) (shift-differ (T.product i j) a).is_sum
      ∙ sym (add_matrix_assoc (table.quotient i j) (shift (T.product i j) a) (site O (to (T.product i j) a)))

  turned-translation : (i j : Fin h) (a : Fin O.sites) → IsTranslation G (wide (ops i) · shift j a)
  turned-translation i j a = translation-turned G group (ops i) (shift j a) (member i) (shift-differ j a).is_translation

  twice-translation : (i j : Fin h) (a : Fin O.sites) → IsTranslation G ((wide (ops i) · shift j a) ⊕ shift i (to j a))
  twice-translation i j a = sum_translation G group (wide (ops i) · shift j a) (shift i (to j a)) (turned-translation i j a) (shift-differ i (to j a)).is_translation

  once-translation : (i j : Fin h) (a : Fin O.sites) → IsTranslation G (table.quotient i j ⊕ shift (T.product i j) a)
  once-translation i j a = sum_translation G group (table.quotient i j) (shift (T.product i j) a) (table.is_translation i j) (shift-differ (T.product i j) a).is_translation

  pub to-product : (i j : Fin h) (a : Fin O.sites) → to i (to j a) ≡ to (T.product i j) a
  to-product i j a = moved_once G group O (image (ops i) (image (ops j) (site O a))) (to i (to j a)) (to (T.product i j) a)
      ((wide (ops i) · shift j a) ⊕ shift i (to j a), record { is_translation = twice-translation i j a; is_sum = image-twice i j a })
      (table.quotient i j ⊕ shift (T.product i j) a, record { is_translation = once-translation i j a; is_sum = image-once i j a })

  shift-product : (i j : Fin h) (a : Fin O.sites) → (wide (ops i) · shift j a) ⊕ shift i (to j a) ≡ table.quotient i j ⊕ shift (T.product i j) a
  shift-product i j a = vector_cancel ((wide (ops i) · shift j a) ⊕ shift i (to j a)) (table.quotient i j ⊕ shift (T.product i j) a) (site O (to (T.product i j) a))
      (ap (λ c. ((wide (ops i) · shift j a) ⊕ shift i (to j a)) ⊕ site O c) (sym (to-product i j a)) ∙ sym (image-twice i j a) ∙ image-once i j a)

  -- the little group keeps phases
  turned-phase : (i j : Fin h) (a : Fin O.sites) → IsPhase s M k (wide (ops i) · shift j a) (phase j a)
  turned-phase i j a = phase_by_dot s M (turned k (ops i)) k (shift j a) (wide (ops i) · shift j a) (phase j a) (sym (dot-turned k (ops i) (shift j a)))
      (phase_equivalent s M G k (turned k (ops i)) (shift j a) (phase j a) (numbering.member i).keeps (shift-differ j a).is_translation (phase-is j a))

  pub phase-product : (i j : Fin h) (a : Fin O.sites) → (numbers M).mul (root_power M (phase i (to j a))) (root_power M (phase j a))
      ≡ (numbers M).mul ((phases_over T M v).phase i j) (root_power M (phase (T.product i j) a))
  phase-product i j a = let w = phase_exists ((wide (ops i) · shift j a) ⊕ shift i (to j a)) (twice-translation i j a) in
      (numbers M).mul_comm (root_power M (phase i (to j a))) (root_power M (phase j a))
      ∙ sym (phase_add s M k (wide (ops i) · shift j a) (shift i (to j a)) (phase j a) (phase i (to j a)) w.0 (turned-phase i j a) (phase-is i (to j a)) w.1)
      ∙ phase_add s M k (table.quotient i j) (shift (T.product i j) a) (M / T.order * T.exponent i j) (phase (T.product i j) a) w.0
      (phase_raised s T.order (M / T.order) M split positive k (table.quotient i j) (T.exponent i j) (table.phases i j)) (phase-is (T.product i j) a)
      (subst (λ t. IsPhase s M k t w.0) (shift-product i j a) w.1)
      ∙ ap (λ y. (numbers M).mul y (root_power M (phase (T.product i j) a))) (sym (lift-root_power T.order M T.order_positive v (T.exponent i j)))

  -- rotations
  pub rotation-product : (i j : Fin h) → (ops i).rotation · (ops j).rotation ≡ (ops (T.product i j)).rotation
  rotation-product i j = sym (rotation-op (ops i) (ops j)) ∙ ap (λ (f : Operation). f.rotation) (table.products i j) ∙ rotation-translation-op (table.quotient i j) (ops (T.product i j))

  pub rotation-start : (ops T.start).rotation ≡ unit integers 3
  rotation-start = ap (λ (f : Operation). f.rotation) start-identity ∙ rotation-identity

  pub rest-rotation : (i : Fin h) (a : Fin O.sites) → (ops i).rotation · (carrier O a).rotation ≡ (carrier O (to i a)).rotation · (O.operation (rest i a)).rotation
  rest-rotation i a = sym (rotation-op (ops i) (carrier O a)) ∙ ap (λ (f : Operation). f.rotation) (rest-is i a) ∙ rotation-op (translation (shift i a) ⊙ carrier O (to i a)) (O.operation (rest i a))
      ∙ ap (λ R. R · (O.operation (rest i a)).rotation) (rotation-translation-op (shift i a) (carrier O (to i a)))
