-- Small representations at a point of a line, read at its first point.
--   places_differ           operations of a numbering that are equal stand at one place
--   reading                 the reading of a small representation
--   reading-is_reading
--   readings_agree          a small representation has one reading
--   first_reading           at the first point it is the restriction itself
--   readings_equivalent     equivalent ones have equivalent readings
--   reading-trace           its traces
use Rattle.std.proofs.Common.{◌≡◌, sym, ◌∙◌, ap, ap₂, subst, refl, ℕ, ℤ, suc, pos, ◌+◌, ◌*◌, ◌/◌, ◌%◌, ◌+ℤ◌, ◌*ℤ◌}
use Rattle.std.specs.Int.{◌∣◌}
use Rattle.irr_algebra.specs.Fin.{Fin}
use Rattle.irr_algebra.specs.Fin.Fin.{first}
use Rattle.irr_algebra.specs.Ring.{Ring}
use Rattle.irr_algebra.specs.Matrix.{Matrix, ◌·◌, ◌⊖◌, unit, null, scale}
use Rattle.irr_algebra.proofs.Matrices.{scale-mul, mul-scale, scale-scale, scale-one}
use Rattle.irr_algebra.proofs.Rings.{ring_laws}
use Rattle.irr_number.specs.Number.{Number, numbers, root_power}
use Rattle.irr_number.specs.Lift.{lift}
use Rattle.irr_number.proofs.Lifts.{lift-root_power}
use Rattle.irr_number.proofs.RootPowers.{root_power-mul, root_power-zero, root_power_same}
use Rattle.irr_theory.specs.FactorSystem.{Representation}
use Rattle.irr_rational.specs.Integer.{integer}
use Rattle.irr_rational.specs.Rational.{Rational, rationals, rational_field}
use Rattle.irr_rational.proofs.Integers.{integer-add, integer_inj}
use Rattle.irr_space.specs.Operation.{Operation, Vector, WaveVector, ◌⊙◌, identity, translation, dot, turned}
use Rattle.irr_space.specs.Reciprocal.{IsPhase, Sign, sign_number}
use Rattle.irr_space.specs.CanonicalOperation.{IsNumbering}
use Rattle.irr_space.specs.Star.{IsInLittleGroup}
use Rattle.irr_space.specs.PhaseTable.{PhaseTable, phases_at, phases_over}
use Rattle.irr_space.specs.CompleteList.{over}
use Rattle.irr_cocycle.specs.SpaceGroupLaws.{IsGroup, HasCanonical}
use Rattle.irr_cocycle.proofs.Operations.{wide, add-sub, vector-op, vector-identity, rotation-translation-op, vector-translation-op, dot-add, dot-sub, dot-turned}
use Rattle.irr_cocycle.proofs.Phases.{order_at, phase_unique, phase-null, AreCongruent, congruent_sym, congruent_trans, congruent_add, residue_of_congruent}
use Rattle.irr_cocycle.proofs.LittleGroups.{little_subgroup}
use Rattle.irr_cocycle.proofs.Numberings.{rotation_distinct}
use Rattle.irr_line.specs.LineGroup.{IsInLineGroup}
use Rattle.irr_line.specs.Reading.{IsReading, AreTablesAt}
use Rattle.irr_line.proofs.LineGroups.{line_little}
use Rattle.irr_cocycle.proofs.PhaseTables.{start_is_identity}
use Rattle.irr_line.proofs.Tables.{line_subgroup, line_order_at}
use Rattle.irr_line.proofs.LinePhases.{phase_lifted, phase_of_whole, whole_turns, kept_step, step_back}

-- operations of a numbering that are equal stand at one place
pub one_place : (G P : Operation → Type 0) {h : ℕ} (ops : Fin h → Operation) → IsNumbering G P ops → (i j : Fin h) → ops i ≡ ops j → i ≡ j
one_place G P ops numbering i j e = rotation_distinct G P ops numbering i j (ap (λ (g : Operation). g.rotation) e)

-- five phases: where the turns agree, the exponents do modulo n
five_phases : (s : Sign) (n : ℕ) (w k l : WaveVector) (u v r t : Vector) (a b c d e : ℕ)
    → IsPhase s n w u a → IsPhase s n w v b → IsPhase s n k t c → IsPhase s n l t d → IsPhase s n w r e
    → rationals.add (rationals.add (dot w u) (dot w v)) (dot k t) ≡ rationals.add (dot l t) (dot w r) → (a + b + c) % n ≡ (d + e) % n
five_phases s n w k l u v r t a b c d e pa pb pc pd pe h = residue_of_congruent n (a + b + c) (d + e)
    (congruent_trans n (pos (a + b + c)) left (pos (d + e))
    (congruent_sym n left (pos (a + b + c)) (congruent_add n (x +ℤ y) (pos (a + b)) z (pos c) (congruent_add n x (pos a) y (pos b) (pa.turns, refl) (pb.turns, refl)) (pc.turns, refl)))
    (subst (λ q. AreCongruent n q (pos (d + e))) (sym same) (congruent_add n p (pos d) q (pos e) (pd.turns, refl) (pe.turns, refl))))
  where
    x : ℤ
    x = pos a +ℤ (pa.turns *ℤ pos n)

    y : ℤ
    y = pos b +ℤ (pb.turns *ℤ pos n)

    z : ℤ
    z = pos c +ℤ (pc.turns *ℤ pos n)

    p : ℤ
    p = pos d +ℤ (pd.turns *ℤ pos n)

    q : ℤ
    q = pos e +ℤ (pe.turns *ℤ pos n)

    left : ℤ
    left = (x +ℤ y) +ℤ z

    factor : Rational
    factor = integer rationals (sign_number s *ℤ pos n)

    spread : (f a b c : Rational) → rationals.mul f (rationals.add (rationals.add a b) c) ≡ rationals.add (rationals.add (rationals.mul f a) (rationals.mul f b)) (rationals.mul f c)
    spread f a b c = simp (ring_laws, rationals)

    same : left ≡ p +ℤ q
    same = integer_inj rational_field left (p +ℤ q) (integer-add rationals (x +ℤ y) z ∙ ap₂ rationals.add (integer-add rationals x y ∙ ap₂ rationals.add (sym pa.congruent) (sym pb.congruent)) (sym pc.congruent)
        ∙ sym (spread factor (dot w u) (dot w v) (dot k t)) ∙ ap (rationals.mul factor) h ∙ rationals.mul-add factor (dot l t) (dot w r)
        ∙ ap₂ rationals.add pd.congruent pe.congruent ∙ sym (integer-add rationals p q))

-- the vectors of a product, seen by a step that the first factor keeps
product_turns : (w k l : WaveVector) (g h f : Operation) (t : Vector) → w ≡ l ⊖ k → turned w g ≡ w → g ⊙ h ≡ translation t ⊙ f
    → rationals.add (rationals.add (dot w g.vector) (dot w h.vector)) (dot k t) ≡ rationals.add (dot l t) (dot w f.vector)
product_turns w k l g h f t is keeps e = ap (λ x. rationals.add x (dot k t)) (sums ∙ ap (λ x. rationals.add x (dot w f.vector)) (ap (λ u. dot u t) is ∙ dot-sub l k t)) ∙ cancel (dot l t) (dot k t) (dot w f.vector)
  where
    sums : rationals.add (dot w g.vector) (dot w h.vector) ≡ rationals.add (dot w t) (dot w f.vector)
    sums = ap (rationals.add (dot w g.vector)) (ap (λ u. dot u h.vector) (sym keeps) ∙ sym (dot-turned w g h.vector)) ∙ sym (dot-add w g.vector (wide g · h.vector))
        ∙ ap (dot w) (sym (vector-op g h) ∙ ap (λ (x : Operation). x.vector) e ∙ vector-translation-op t f) ∙ dot-add w t f.vector

    regroup : (x y z : Rational) → rationals.add (rationals.add (rationals.add x (rationals.neg y)) z) y ≡ rationals.add (rationals.add x z) (rationals.add y (rationals.neg y))
    regroup x y z = simp (ring_laws, rationals)

    cancel : (x y z : Rational) → rationals.add (rationals.add (rationals.add x (rationals.neg y)) z) y ≡ rationals.add x z
    cancel x y z = regroup x y z ∙ ap (rationals.add (rationals.add x z)) (rationals.add-neg y) ∙ rationals.add-zero (rationals.add x z)

-- products with one operation behind a translation have one translation
pub one_translation : (s t : Vector) (f : Operation) → translation s ⊙ f ≡ translation t ⊙ f → s ≡ t
one_translation s t f e = sym (add-sub s f.vector) ∙ ap (λ v. v ⊖ f.vector) (sym (vector-translation-op s f) ∙ ap (λ (x : Operation). x.vector) e
    ∙ vector-translation-op t f) ∙ add-sub t f.vector

module _ (G : Operation → Type 0) (group : IsGroup G) (chosen : HasCanonical G) (s : Sign) {n : ℕ} (point : Fin (suc n) → WaveVector) (i : Fin (suc n)) {m h : ℕ}
    (line : Fin m → Operation) (L : PhaseTable m) (ops : Fin h → Operation) (T : PhaseTable h) (tables : AreTablesAt s G point i line L ops T) where
  abbrev w : WaveVector
  w = step_back G point i

  line_at : (a : Fin m) → IsInLineGroup G point (line a)
  line_at a = tables.line_numbering.member a

  same : (b c : Fin h) → ops b ≡ ops c → b ≡ c
  same = one_place G (IsInLittleGroup G (point i)) ops tables.numbering

  found : (a : Fin m) → (b : Fin h) × (ops b ≡ line a)
  found a = tables.numbering.all (line a) (tables.line_numbering.canonical a) (line_little G point i (line a) (line_at a))

  turned_by : (a : Fin m) → (x : ℕ) × IsPhase s L.order w (line a).vector x
  turned_by a = phase_of_whole s L.order w (line a).vector L.order_positive (whole_turns G point i group L.order tables.line_table.is_order (line a) (line_at a))

  line-start : line L.start ≡ identity
  line-start = start_is_identity G (IsInLineGroup G point) group chosen s (point first) (line_subgroup G point group first) line tables.line_numbering L.order
      (line_order_at G point L.order tables.line_table.is_order first) L.start L.start_first

  ops-start : ops T.start ≡ identity
  ops-start = start_is_identity G (IsInLittleGroup G (point i)) group chosen s (point i) (little_subgroup G group (point i)) ops tables.numbering T.order
      (order_at G (point i) T.order tables.table.is_order) T.start T.start_first

  place : Fin m → Fin h
  place a = (found a).0

  place-is : (a : Fin m) → ops (place a) ≡ line a
  unfolding place
  place-is a = (found a).1

  turn : Fin m → ℕ
  turn a = (turned_by a).0

  turn-is : (a : Fin m) → IsPhase s L.order w (line a).vector (turn a)
  unfolding turn
  turn-is a = (turned_by a).1

  place-start : place L.start ≡ T.start
  place-start = same (place L.start) T.start (place-is L.start ∙ line-start ∙ sym ops-start)

  turn-start : turn L.start ≡ 0
  turn-start = phase_unique s L.order w null (turn L.start) 0 (subst (λ v. IsPhase s L.order w v (turn L.start)) (ap (λ (g : Operation). g.vector) line-start ∙ vector-identity) (turn-is L.start))
      (phase-null s L.order w L.order_positive)

  -- the two tables multiply alike
  both_products : (a b : Fin m) → translation (tables.table.quotient (place a) (place b)) ⊙ ops (T.product (place a) (place b)) ≡ translation (tables.line_table.quotient a b) ⊙ line (L.product a b)
  both_products a b = sym (tables.table.products (place a) (place b)) ∙ ap₂ (λ x y. x ⊙ y) (place-is a) (place-is b) ∙ tables.line_table.products a b

  place-product : (a b : Fin m) → place (L.product a b) ≡ T.product (place a) (place b)
  place-product a b = rotation_distinct G (IsInLittleGroup G (point i)) ops tables.numbering (place (L.product a b)) (T.product (place a) (place b))
      (ap (λ (g : Operation). g.rotation) (place-is (L.product a b)) ∙ sym (rotation-translation-op (tables.line_table.quotient a b) (line (L.product a b)))
      ∙ ap (λ (g : Operation). g.rotation) (sym (both_products a b)) ∙ rotation-translation-op (tables.table.quotient (place a) (place b)) (ops (T.product (place a) (place b))))

  quotient-place : (a b : Fin m) → tables.table.quotient (place a) (place b) ≡ tables.line_table.quotient a b
  quotient-place a b = one_translation (tables.table.quotient (place a) (place b)) (tables.line_table.quotient a b) (line (L.product a b))
      (ap (λ g. translation (tables.table.quotient (place a) (place b)) ⊙ g) (sym (ap ops (sym (place-product a b)) ∙ place-is (L.product a b))) ∙ both_products a b)

  module _ (v : T.order ∣ L.order) where
    lifted_phase : (a b : Fin m) → IsPhase s L.order (point i) (tables.line_table.quotient a b) (L.order / T.order * T.exponent (place a) (place b))
    lifted_phase a b = phase_lifted s T.order L.order (point i) (tables.line_table.quotient a b) (T.exponent (place a) (place b)) v L.order_positive
        (subst (λ t. IsPhase s T.order (point i) t (T.exponent (place a) (place b))) (quotient-place a b) (tables.table.phases (place a) (place b)))

    -- the phases of the two tables differ by those of the vectors
    exponents : (a b : Fin m) → (turn a + turn b + L.order / T.order * T.exponent (place a) (place b)) % L.order ≡ (L.exponent a b + turn (L.product a b)) % L.order
    exponents a b = five_phases s L.order w (point i) (point first) (line a).vector (line b).vector (line (L.product a b)).vector (tables.line_table.quotient a b)
        (turn a) (turn b) (L.order / T.order * T.exponent (place a) (place b)) (L.exponent a b) (turn (L.product a b))
        (turn-is a) (turn-is b) (lifted_phase a b) (tables.line_table.phases a b) (turn-is (L.product a b))
        (product_turns w (point i) (point first) (line a) (line b) (line (L.product a b)) (tables.line_table.quotient a b) refl (kept_step G point i (line a) (line_at a)) (tables.line_table.products a b))

    module _ {d : ℕ} (D : Representation (phases_at T) d) where
      abbrev R : Ring
      R = numbers L.order

      B : Representation (phases_over T L.order v) d
      B = over T L.order v D

      z : ℕ → Number L.order
      z = root_power L.order

      at : Fin m → Matrix (numbers L.order) d d
      at a = scale R (z (turn a)) (B.at (place a))

      at-start : at L.start ≡ unit (numbers L.order) d
      unfolding at z
      at-start = ap₂ (λ x b. scale R (root_power L.order x) (B.at b)) turn-start place-start ∙ ap₂ (scale R) (root_power-zero L.order) B.at-start ∙ scale-one (unit R d)

      at-product : (a b : Fin m) → at a · at b ≡ scale R ((phases_at L).phase a b) (at (L.product a b))
      unfolding at z
      at-product a b = scale-mul R (z (turn a)) (B.at (place a)) (scale R (z (turn b)) (B.at (place b)))
          ∙ ap (scale R (z (turn a))) (mul-scale R (z (turn b)) (B.at (place a)) (B.at (place b)) ∙ ap (scale R (z (turn b))) (B.at-product (place a) (place b)))
          ∙ ap (scale R (z (turn a))) (scale-scale R (z (turn b)) phase (B.at (T.product (place a) (place b))))
          ∙ scale-scale R (z (turn a)) (R.mul (z (turn b)) phase) (B.at (T.product (place a) (place b)))
          ∙ ap₂ (λ c l. scale R c (B.at l)) numbers_agree (sym (place-product a b))
          ∙ sym (scale-scale R (z (L.exponent a b)) (z (turn (L.product a b))) (B.at (place (L.product a b))))
        where
          phase : Number L.order
          phase = (lift T.order L.order T.order_positive v).map (root_power T.order (T.exponent (place a) (place b)))

          numbers_agree : R.mul (z (turn a)) (R.mul (z (turn b)) phase) ≡ R.mul (z (L.exponent a b)) (z (turn (L.product a b)))
          numbers_agree = sym (R.mul_assoc (z (turn a)) (z (turn b)) phase)
              ∙ ap₂ R.mul (root_power-mul L.order (turn a) (turn b)) (lift-root_power T.order L.order T.order_positive v (T.exponent (place a) (place b)))
              ∙ root_power-mul L.order (turn a + turn b) (L.order / T.order * T.exponent (place a) (place b))
              ∙ root_power_same L.order (turn a + turn b + L.order / T.order * T.exponent (place a) (place b)) (L.exponent a b + turn (L.product a b)) (exponents a b)
              ∙ sym (root_power-mul L.order (L.exponent a b) (turn (L.product a b)))

      pub reading : Representation (phases_at L) d
      reading = record { at = at; at-start = at-start; at-product = at-product }

      pub reading-is_reading : IsReading s (point first ⊖ point i) line L ops T v D reading
      unfolding reading at z B
      reading-is_reading = record { place = place; same_operation = place-is; turn = turn; is_phase = turn-is; matrix = λ a. refl }
