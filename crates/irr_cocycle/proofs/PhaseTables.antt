-- The table of a subgroup of a little group, of its canonical operations, over a multiple of the order of the wave vector.
--   subgroup_table             the table of phases of a numbering of the subgroup
--   subgroup_table-is_table
--   start_is_identity          the first operation of the numbering is the identity
use Rattle.std.proofs.Common.{◌≡◌, sym, ◌∙◌, ap, ap₂, subst, refl, ℕ, ℤ, pos, zero, suc, ◌<◌, ◌≤◌, ◌+◌, ◌*◌, ◌/◌, ◌%◌, inl, inr, ◌+ℤ◌, ◌*ℤ◌, neg_ℤ, arith}
use Rattle.std.proofs.lemmas.Int.{ints}
use Rattle.std.specs.Int.{◌∣◌}
use native.Mathlib.Nat as Nat
use Rattle.irr_algebra.specs.Fin.{Fin, to_nat}
use Rattle.irr_algebra.specs.Matrix.{◌·◌, ◌⊕◌, ◌⊖◌, unit, null}
use Rattle.irr_algebra.proofs.Indices.{to_nat_inj}
use Rattle.irr_algebra.proofs.Matrices as M
use Rattle.irr_algebra.proofs.Matrices.{matrix-ext, unit-mul, mul-unit, mul-add, sub_self}
use Rattle.irr_algebra.proofs.Rings.{ring_laws, neg-mul}
use lib.IntN.{*ℤ_comm}
use Rattle.irr_number.specs.Integers.{integers, *ℤ_assoc, +ℤ-*ℤ}
use Rattle.irr_theory.specs.Extension.{matrix_power}
use Rattle.irr_theory.proofs.Extensions.{matrix_power-add}
use Rattle.irr_rational.specs.Integer.{integer, whole_matrix}
use Rattle.irr_rational.specs.Rational.{Rational, rationals, rational_field}
use Rattle.irr_rational.proofs.Integers.{integer-add, integer-mul, integer_inj, whole_matrix-mul}
use Rattle.irr_rational.specs.Order.{◌<ℚ◌, IsAtMost}
use Rattle.irr_rational.proofs.Orders.{not_le_of_lt}
use Rattle.irr_lattice.proofs.Vectors.{vector-ext, component-null}
use Rattle.irr_lattice.proofs.Translations.{operation-ext}
use Rattle.irr_lattice.proofs.OneOperation.{identity_in_cell}
use Rattle.irr_space.specs.Operation.{Operation, Rotation, Vector, WaveVector, ◌⊙◌, identity, translation, IsInverse, component, dot, turned}
use Rattle.irr_space.specs.SpaceGroup.{IsTranslation}
use Rattle.irr_space.specs.Reciprocal.{IsPhase, Sign, sign_number}
use Rattle.irr_space.specs.CanonicalOperation.{IsCanonicalOperation, IsNumbering}
use Rattle.irr_space.specs.Star.{IsInLittleGroup}
use Rattle.irr_space.specs.PhaseTable.{PhaseTable, IsPlaceOrder, place_power, exponents_below}
use Rattle.irr_cocycle.specs.SpaceGroupLaws.{IsGroup, HasCanonical}
use Rattle.irr_cocycle.specs.SubgroupTable.{IsSubgroupAt, IsOrderAt, IsTableAt}
use Rattle.irr_cocycle.proofs.Operations.{wide, rotation-op, vector-op, identity-op, op-identity, rotation-identity, vector-identity, translation_between, translation-quotient, rotation-inverse, dot-add, dot-sub, dot-turned}
use Rattle.irr_cocycle.proofs.Numberings.{rotation_distinct, unit_first}
use Rattle.irr_cocycle.proofs.Phases.{phase_unique, phase-null, phase_of_translation, phase-multiple, phase-congruent, order_at-positive, turned_phase, AreCongruent, congruent_sym, congruent_trans, congruent_add, residue_of_congruent, multiple_of}

module _ (G P : Operation → Type 0) (group : IsGroup G) (chosen : HasCanonical G) (s : Sign) (k : WaveVector) (inside : IsSubgroupAt G k P) {h : ℕ}
    (ops : Fin h → Operation) (numbering : IsNumbering G P ops) (n : ℕ) (order : IsOrderAt G k n) where
  member : (i : Fin h) → IsInLittleGroup G k (ops i)
  member i = inside.little (ops i) (numbering.member i)

  -- the place of the rotation of an operation of the little group
  place_of : (g : Operation) → P g → (i : Fin h) × ((ops i).rotation ≡ g.rotation)
  place_of g m = let c = chosen g (inside.little g m).member in let i = numbering.all c.0 c.1 (inside.rotation g c.0 m c.1.member c.2) in
      (i.0, ap (λ (f : Operation). f.rotation) i.1 ∙ c.2)

  inverse_of : (i : Fin h) → (f : Operation) × G f × IsInverse (ops i) f
  inverse_of i = group.has_inverse (ops i) (member i).member

  start_place : (i : Fin h) × ((ops i).rotation ≡ identity.rotation)
  start_place = place_of identity inside.identity

  product_place : (i j : Fin h) → (l : Fin h) × ((ops l).rotation ≡ (ops i ⊙ ops j).rotation)
  product_place i j = place_of (ops i ⊙ ops j) (inside.product (ops i) (ops j) (numbering.member i) (numbering.member j))

  opposite_place : (i : Fin h) → (l : Fin h) × ((ops l).rotation ≡ (inverse_of i).0.rotation)
  opposite_place i = place_of (inverse_of i).0 (inside.inverse (ops i) (inverse_of i).0 (numbering.member i) (inverse_of i).1 (inverse_of i).2)

  start : Fin h
  start = start_place.0

  product : Fin h → Fin h → Fin h
  product i j = (product_place i j).0

  opposite : Fin h → Fin h
  opposite i = (opposite_place i).0

  rotation-start : (ops start).rotation ≡ unit integers 3
  unfolding start
  rotation-start = start_place.1 ∙ rotation-identity

  rotation-product : (i j : Fin h) → (ops (product i j)).rotation ≡ (ops i).rotation · (ops j).rotation
  unfolding product
  rotation-product i j = (product_place i j).1 ∙ rotation-op (ops i) (ops j)

  rotation-opposite : (i : Fin h) → (ops (opposite i)).rotation ≡ (inverse_of i).0.rotation
  unfolding opposite
  rotation-opposite i = (opposite_place i).1

  same : (i j : Fin h) → (ops i).rotation ≡ (ops j).rotation → i ≡ j
  same = rotation_distinct G P ops numbering

  -- the canonical operation of the unit rotation is the identity
  start-identity : ops start ≡ identity
  start-identity = operation-ext (ops start) identity (rotation-start ∙ sym rotation-identity)
      (vector-ext (ops start).vector identity.vector (λ i. zero_component (numbering.canonical start) i ∙ sym (component-null i) ∙ ap (λ v. component v i) (sym vector-identity)))
    where
      zero_component : IsCanonicalOperation G (ops start) → (i : Fin 3) → component (ops start).vector i ≡ rationals.zero
      zero_component c i = from_least (c.least identity group.has_identity (rotation-identity ∙ sym rotation-start) identity_in_cell) i
        where
          from_least : IsAtMost (component (ops start).vector) (component identity.vector) → (i : Fin 3) → component (ops start).vector i ≡ rationals.zero
          from_least (inl e) i = e i ∙ ap (λ v. component v i) vector-identity ∙ component-null i
          from_least (inr b) i = absurd (not_le_of_lt (component (ops start).vector b.place) rationals.zero
              (subst (λ x. component (ops start).vector b.place <ℚ x) (ap (λ v. component v b.place) vector-identity ∙ component-null b.place) b.less) (c.in_cell b.place).0)

  start-product : (i : Fin h) → product start i ≡ i
  start-product i = same (product start i) i (rotation-product start i ∙ ap (λ R. R · (ops i).rotation) rotation-start ∙ unit-mul (ops i).rotation)

  product-start : (i : Fin h) → product i start ≡ i
  product-start i = same (product i start) i (rotation-product i start ∙ ap (λ R. (ops i).rotation · R) rotation-start ∙ mul-unit (ops i).rotation)

  product_assoc : (i j l : Fin h) → product (product i j) l ≡ product i (product j l)
  product_assoc i j l = same (product (product i j) l) (product i (product j l))
      (rotation-product (product i j) l ∙ ap (λ R. R · (ops l).rotation) (rotation-product i j) ∙ M.mul_assoc (ops i).rotation (ops j).rotation (ops l).rotation
      ∙ ap (λ R. (ops i).rotation · R) (sym (rotation-product j l)) ∙ sym (rotation-product i (product j l)))

  product-opposite : (i : Fin h) → product i (opposite i) ≡ start
  product-opposite i = same (product i (opposite i)) start (rotation-product i (opposite i) ∙ ap (λ R. (ops i).rotation · R) (rotation-opposite i)
      ∙ rotation-inverse (ops i) (inverse_of i).0 (inverse_of i).2 ∙ sym rotation-start)

  opposite-product : (i : Fin h) → product (opposite i) i ≡ start
  opposite-product i = same (product (opposite i) i) start (rotation-product (opposite i) i ∙ ap (λ R. R · (ops i).rotation) (rotation-opposite i)
      ∙ rotation-inverse (inverse_of i).0 (ops i) (record { right = (inverse_of i).2.left; left = (inverse_of i).2.right }) ∙ sym rotation-start)

  -- the translation by which a product differs from its canonical operation
  quotient : Fin h → Fin h → Vector
  quotient i j = (ops i ⊙ ops j).vector ⊖ (ops (product i j)).vector

  product_rotation : (i j : Fin h) → (ops i ⊙ ops j).rotation ≡ (ops (product i j)).rotation
  product_rotation i j = rotation-op (ops i) (ops j) ∙ sym (rotation-product i j)

  quotient-translation : (i j : Fin h) → IsTranslation G (quotient i j)
  unfolding quotient
  quotient-translation i j = let f = inverse_of (product i j) in
      subst G (sym (translation-quotient (ops i ⊙ ops j) (ops (product i j)) f.0 (product_rotation i j) f.2))
      (group.has_product (ops i ⊙ ops j) f.0 (group.has_product (ops i) (ops j) (member i).member (member j).member) f.1)

  products : (i j : Fin h) → ops i ⊙ ops j ≡ translation (quotient i j) ⊙ ops (product i j)
  unfolding quotient
  products i j = translation_between (ops i ⊙ ops j) (ops (product i j)) (product_rotation i j)

  exponent : Fin h → Fin h → ℕ
  exponent i j = (phase_of_translation G s k n order (quotient i j) (quotient-translation i j)).0

  phases : (i j : Fin h) → IsPhase s n k (quotient i j) (exponent i j)
  unfolding exponent
  phases i j = (phase_of_translation G s k n order (quotient i j) (quotient-translation i j)).1

  -- products with the unit need no translation
  quotient-start : (i : Fin h) → quotient i start ≡ null
  unfolding quotient
  quotient-start i = ap₂ (λ (f : Operation) l. f.vector ⊖ (ops l).vector) (ap (λ f. ops i ⊙ f) start-identity ∙ op-identity (ops i)) (product-start i) ∙ sub_self (ops i).vector

  start-quotient : (i : Fin h) → quotient start i ≡ null
  unfolding quotient
  start-quotient i = ap₂ (λ (f : Operation) l. f.vector ⊖ (ops l).vector) (ap (λ f. f ⊙ ops i) start-identity ∙ identity-op (ops i)) (start-product i) ∙ sub_self (ops i).vector

  positive : 0 < n
  positive = order_at-positive G s k n order

  no_phase : (t : Vector) (x : ℕ) → t ≡ null → IsPhase s n k t x → x ≡ 0
  no_phase t x e p = phase_unique s n k null x 0 (subst (λ v. IsPhase s n k v x) e p) (phase-null s n k positive)

  -- each phase is a multiple of the exponent of the group
  exponent-multiple : (i j : Fin h) → order.exponent ∣ exponent i j
  exponent-multiple i j =
      let w = phase-multiple G s k n order (quotient i j) (quotient-translation i j) in
      let c = phase-congruent s n k (quotient i j) (exponent i j) (w.0 *ℤ pos order.exponent) (phases i j) w.1 in
      multiple_of (exponent i j) order.exponent (w.0 +ℤ neg_ℤ (c.0 *ℤ pos order.multiple)) order.is_exponent.positive (parts w.0 c.0 (pos order.exponent) (pos order.multiple) (pos (exponent i j))
      (c.1 ∙ ap (λ y. pos (exponent i j) +ℤ (c.0 *ℤ pos y)) order.is_product))
    where
      parts : (w c e q x : ℤ) → w *ℤ e ≡ x +ℤ (c *ℤ (e *ℤ q)) → x ≡ (w +ℤ neg_ℤ (c *ℤ q)) *ℤ e
      parts w c e q x h =
          let f : (w +ℤ neg_ℤ (c *ℤ q)) *ℤ e ≡ (w *ℤ e) +ℤ (neg_ℤ (c *ℤ q) *ℤ e) = +ℤ-*ℤ w (neg_ℤ (c *ℤ q)) e in
          let g : neg_ℤ (c *ℤ q) *ℤ e ≡ neg_ℤ ((c *ℤ q) *ℤ e) = neg-mul integers (c *ℤ q) e in
          let m : (c *ℤ q) *ℤ e ≡ c *ℤ (e *ℤ q) = *ℤ_assoc c q e ∙ ap (λ y. c *ℤ y) (*ℤ_comm q e) in
          omega (arith, ints)

  exponents-multiple : (i : Fin h) (a : ℕ) → order.exponent ∣ exponents_below start product exponent i a
  unfolding exponents_below
  exponents-multiple i zero = Nat.dvd-zero order.exponent
  exponents-multiple i (suc a) = Nat.dvd-add order.exponent (exponents-multiple i a) (exponent-multiple i (place_power start product i a))

  -- powers of places and of rotations
  power-rotation : (i : Fin h) (a : ℕ) → (ops (place_power start product i a)).rotation ≡ matrix_power (ops i).rotation a
  unfolding place_power matrix_power
  power-rotation i zero = rotation-start
  power-rotation i (suc a) = rotation-product i (place_power start product i a) ∙ ap (λ R. (ops i).rotation · R) (power-rotation i a)

  multiple-power : (R : Rotation) (m : ℕ) → matrix_power R m ≡ unit integers 3 → (q : ℕ) → matrix_power R (m * q) ≡ unit integers 3
  unfolding matrix_power
  multiple-power R m e zero = ap (matrix_power R) (Nat.mul-zero m)
  multiple-power R m e (suc q) = ap (matrix_power R) (Nat.mul-suc m q) ∙ matrix_power-add R (m * q) m ∙ ap₂ (λ A B. A · B) (multiple-power R m e q) e ∙ unit-mul (unit integers 3)

  -- the order of a place divides the exponent of the group
  place_order-divides : (i : Fin h) (m : ℕ) → IsPlaceOrder start product i m → m ∣ order.exponent
  place_order-divides i m o = from_rest (order.exponent % m) refl
    where
      R : Rotation
      R = (ops i).rotation

      whole_turn : matrix_power (ops i).rotation m ≡ unit integers 3
      whole_turn = sym (power-rotation i m) ∙ ap (λ l. (ops l).rotation) o.power ∙ rotation-start

      rest_turn : matrix_power (ops i).rotation (order.exponent % m) ≡ unit integers 3
      rest_turn = sym (unit-mul (matrix_power (ops i).rotation (order.exponent % m)))
          ∙ ap (λ A. A · matrix_power (ops i).rotation (order.exponent % m)) (sym (multiple-power (ops i).rotation m whole_turn (order.exponent / m)))
          ∙ sym (matrix_power-add (ops i).rotation (m * (order.exponent / m)) (order.exponent % m)) ∙ ap (matrix_power (ops i).rotation) (Nat.div-add-mod order.exponent m)
          ∙ order.is_exponent.power (ops i) (member i).member

      rest_place : place_power start product i (order.exponent % m) ≡ start
      rest_place = same (place_power start product i (order.exponent % m)) start (power-rotation i (order.exponent % m) ∙ rest_turn ∙ sym rotation-start)

      from_rest : (r : ℕ) → order.exponent % m ≡ r → m ∣ order.exponent
      from_rest zero e = Nat.dvd_of_mod-eq-zero m e
      from_rest (suc r) e = absurd (let l : m ≤ order.exponent % m = o.least (order.exponent % m) (omega arith) rest_place in let b : order.exponent % m < m = Nat.mod-lt order.exponent o.positive in omega arith)

  order-divides : (i : Fin h) (m : ℕ) → IsPlaceOrder start product i m → m ∣ n
  order-divides i m o = subst (λ x. m ∣ x) (sym order.is_product) (Nat.dvd-mul_right_of_dvd m (place_order-divides i m o) order.multiple)

  -- regrouping of six vectors
  four_parts : (a b c d e f : Vector) → ((a ⊕ b) ⊖ c) ⊕ ((c ⊕ d) ⊖ e) ≡ ((b ⊕ d) ⊖ f) ⊕ ((a ⊕ f) ⊖ e)
  unfolding ◌⊕◌ ◌⊖◌
  four_parts a b c d e f = matrix-ext (λ i j. regroup (a.at i j) (b.at i j) (c.at i j) (d.at i j) (e.at i j) (f.at i j))
    where
      cancel : (x c y : Rational) → rationals.add (rationals.add x (rationals.neg c)) (rationals.add c y) ≡ rationals.add x y
      cancel x c y = rationals.add_assoc x (rationals.neg c) (rationals.add c y) ∙ ap (rationals.add x) (sym (rationals.add_assoc (rationals.neg c) c y) ∙ ap (λ z. rationals.add z y) (rationals.add_comm (rationals.neg c) c ∙ rationals.add-neg c)
          ∙ rationals.add_comm rationals.zero y ∙ rationals.add-zero y)

      ends : (a b d e : Rational) → rationals.add (rationals.add a b) (rationals.add d (rationals.neg e)) ≡ rationals.add (rationals.add b d) (rationals.add a (rationals.neg e))
      ends a b d e = simp (ring_laws, rationals)

      regroup : (a b c d e f : Rational) → rationals.add (rationals.add (rationals.add a b) (rationals.neg c)) (rationals.add (rationals.add c d) (rationals.neg e))
          ≡ rationals.add (rationals.add (rationals.add b d) (rationals.neg f)) (rationals.add (rationals.add a f) (rationals.neg e))
      regroup a b c d e f = ap (rationals.add (rationals.add (rationals.add a b) (rationals.neg c))) (rationals.add_assoc c d (rationals.neg e)) ∙ cancel (rationals.add a b) c (rationals.add d (rationals.neg e))
          ∙ ends a b d e ∙ sym (cancel (rationals.add b d) f (rationals.add a (rationals.neg e)))
          ∙ ap (rationals.add (rationals.add (rationals.add b d) (rationals.neg f))) (sym (rationals.add_assoc f a (rationals.neg e)) ∙ ap (λ z. rationals.add z (rationals.neg e)) (rationals.add_comm f a))

  -- the translations of the two ways to multiply three operations
  quotient_assoc : (i j l : Fin h) → quotient i j ⊕ quotient (product i j) l ≡ (wide (ops i) · quotient j l) ⊕ quotient i (product j l)
  unfolding quotient
  quotient_assoc i j l =
      ap₂ (λ x y. (x ⊖ (ops (product i j)).vector) ⊕ (y ⊖ (ops (product (product i j) l)).vector)) (vector-op (ops i) (ops j)) (vector-op (ops (product i j)) (ops l) ∙ ap (λ v. (ops (product i j)).vector ⊕ v) twice)
      ∙ four_parts (ops i).vector (wide (ops i) · (ops j).vector) (ops (product i j)).vector (wide (ops i) · (wide (ops j) · (ops l).vector)) (ops (product (product i j) l)).vector (wide (ops i) · (ops (product j l)).vector)
      ∙ ap₂ (λ x y. x ⊕ y) (sym turned_quotient)
      (ap (λ m. ((ops i).vector ⊕ (wide (ops i) · (ops (product j l)).vector)) ⊖ (ops m).vector) (product_assoc i j l) ∙ ap (λ x. x ⊖ (ops (product i (product j l))).vector) (sym (vector-op (ops i) (ops (product j l)))))
    where
      twice : wide (ops (product i j)) · (ops l).vector ≡ wide (ops i) · (wide (ops j) · (ops l).vector)
      twice = ap (λ W. W · (ops l).vector) (ap (whole_matrix rationals) (rotation-product i j) ∙ whole_matrix-mul rationals (ops i).rotation (ops j).rotation) ∙ M.mul_assoc (wide (ops i)) (wide (ops j)) (ops l).vector

      turned_quotient : wide (ops i) · ((ops j ⊙ ops l).vector ⊖ (ops (product j l)).vector) ≡ ((wide (ops i) · (ops j).vector) ⊕ (wide (ops i) · (wide (ops j) · (ops l).vector))) ⊖ (wide (ops i) · (ops (product j l)).vector)
      turned_quotient = M.mul-sub (wide (ops i)) (ops j ⊙ ops l).vector (ops (product j l)).vector
          ∙ ap (λ x. x ⊖ (wide (ops i) · (ops (product j l)).vector)) (ap (λ v. wide (ops i) · v) (vector-op (ops j) (ops l)) ∙ mul-add (wide (ops i)) (ops j).vector (wide (ops j) · (ops l).vector))

  -- the little group turns k by a reciprocal vector
  turned_phase-wide : (i : Fin h) (t : Vector) → IsTranslation G t → (w : ℤ) × (turned_phase s n k (wide (ops i) · t) ≡ rationals.add (turned_phase s n k t) (integer rationals (w *ℤ pos n)))
  turned_phase-wide i t m = let d = (member i).keeps.is_whole t m in (
    sign_number s *ℤ d.number,
    ap (rationals.mul (integer rationals (sign_number s *ℤ pos n))) (dot-turned k (ops i) t ∙ parts (dot (turned k (ops i)) t) (dot k t) ∙ ap (rationals.add (dot k t)) (sym (dot-sub (turned k (ops i)) k t) ∙ d.is))
        ∙ rationals.mul-add (integer rationals (sign_number s *ℤ pos n)) (dot k t) (integer rationals d.number)
        ∙ ap (rationals.add (turned_phase s n k t)) (sym (integer-mul rationals (sign_number s *ℤ pos n) d.number) ∙ ap (integer rationals) (swap (sign_number s) (pos n) d.number)),
  )
    where
      parts : (x y : Rational) → x ≡ rationals.add y (rationals.add x (rationals.neg y))
      parts x y = sym (ap (rationals.add y) (rationals.add_comm x (rationals.neg y)) ∙ sym (rationals.add_assoc y (rationals.neg y) x) ∙ ap (λ z. rationals.add z x) (rationals.add-neg y) ∙ rationals.add_comm rationals.zero x ∙ rationals.add-zero x)

      swap : (s n w : ℤ) → (s *ℤ n) *ℤ w ≡ (s *ℤ w) *ℤ n
      swap s n w = *ℤ_assoc s n w ∙ ap (λ y. s *ℤ y) (*ℤ_comm n w) ∙ sym (*ℤ_assoc s w n)

  -- the whole number of a phase
  phase_number : (i j : Fin h) → (y : ℤ) × (turned_phase s n k (quotient i j) ≡ integer rationals y) × AreCongruent n y (pos (exponent i j))
  phase_number i j = let w = phase-multiple G s k n order (quotient i j) (quotient-translation i j) in
      (w.0 *ℤ pos order.exponent, w.1, phase-congruent s n k (quotient i j) (exponent i j) (w.0 *ℤ pos order.exponent) (phases i j) w.1)

  turned_phase-add : (t u : Vector) → turned_phase s n k (t ⊕ u) ≡ rationals.add (turned_phase s n k t) (turned_phase s n k u)
  turned_phase-add t u = ap (rationals.mul (integer rationals (sign_number s *ℤ pos n))) (dot-add k t u) ∙ rationals.mul-add (integer rationals (sign_number s *ℤ pos n)) (dot k t) (dot k u)

  exponent_assoc : (i j l : Fin h) → (exponent i j + exponent (product i j) l) % n ≡ (exponent j l + exponent i (product j l)) % n
  exponent_assoc i j l = residue_of_congruent n (exponent i j + exponent (product i j) l) (exponent j l + exponent i (product j l))
      (from_numbers (phase_number i j) (phase_number (product i j) l) (phase_number j l) (phase_number i (product j l)) (turned_phase-wide i (quotient j l) (quotient-translation j l)))
    where
      from_numbers : (a : (y : ℤ) × (turned_phase s n k (quotient i j) ≡ integer rationals y) × AreCongruent n y (pos (exponent i j)))
          (b : (y : ℤ) × (turned_phase s n k (quotient (product i j) l) ≡ integer rationals y) × AreCongruent n y (pos (exponent (product i j) l)))
          (c : (y : ℤ) × (turned_phase s n k (quotient j l) ≡ integer rationals y) × AreCongruent n y (pos (exponent j l)))
          (d : (y : ℤ) × (turned_phase s n k (quotient i (product j l)) ≡ integer rationals y) × AreCongruent n y (pos (exponent i (product j l))))
          (w : (w : ℤ) × (turned_phase s n k (wide (ops i) · quotient j l) ≡ rationals.add (turned_phase s n k (quotient j l)) (integer rationals (w *ℤ pos n))))
          → AreCongruent n (pos (exponent i j + exponent (product i j) l)) (pos (exponent j l + exponent i (product j l)))
      from_numbers a b c d w = congruent_trans n (pos (exponent i j + exponent (product i j) l)) (a.0 +ℤ b.0) (pos (exponent j l + exponent i (product j l)))
          (congruent_sym n (a.0 +ℤ b.0) (pos (exponent i j + exponent (product i j) l)) (congruent_add n a.0 (pos (exponent i j)) b.0 (pos (exponent (product i j) l)) a.2 b.2))
          (congruent_trans n (a.0 +ℤ b.0) (c.0 +ℤ d.0) (pos (exponent j l + exponent i (product j l))) (w.0, same_numbers)
          (congruent_add n c.0 (pos (exponent j l)) d.0 (pos (exponent i (product j l))) c.2 d.2))
        where
          same_numbers : a.0 +ℤ b.0 ≡ (c.0 +ℤ d.0) +ℤ (w.0 *ℤ pos n)
          same_numbers = integer_inj rational_field (a.0 +ℤ b.0) ((c.0 +ℤ d.0) +ℤ (w.0 *ℤ pos n)) (integer-add rationals a.0 b.0
              ∙ ap₂ rationals.add (sym a.1) (sym b.1) ∙ sym (turned_phase-add (quotient i j) (quotient (product i j) l)) ∙ ap (turned_phase s n k) (quotient_assoc i j l)
              ∙ turned_phase-add (wide (ops i) · quotient j l) (quotient i (product j l)) ∙ ap₂ rationals.add (w.1 ∙ ap (λ x. rationals.add x (integer rationals (w.0 *ℤ pos n))) c.1) d.1
              ∙ regroup (integer rationals c.0) (integer rationals (w.0 *ℤ pos n)) (integer rationals d.0)
              ∙ ap (λ x. rationals.add x (integer rationals (w.0 *ℤ pos n))) (sym (integer-add rationals c.0 d.0)) ∙ sym (integer-add rationals (c.0 +ℤ d.0) (w.0 *ℤ pos n)))
            where
              regroup : (x y z : Rational) → rationals.add (rationals.add x y) z ≡ rationals.add (rationals.add x z) y
              regroup x y z = simp (ring_laws, rationals)

  start_first : to_nat start ≡ 0
  start_first = unit_first G P ops numbering start rotation-start

  -- the table
  pub subgroup_table : PhaseTable h
  subgroup_table = record {
    order = n;
    order_positive = positive;
    start = start;
    start_first = start_first;
    product = product;
    opposite = opposite;
    exponent = exponent;
    start-product = start-product;
    product-start = product-start;
    product_assoc = product_assoc;
    opposite-product = opposite-product;
    product-opposite = product-opposite;
    exponent_below = λ i j. (phases i j).below;
    exponent-start = λ i. no_phase (quotient i start) (exponent i start) (quotient-start i) (phases i start);
    start-exponent = λ i. no_phase (quotient start i) (exponent start i) (start-quotient i) (phases start i);
    exponent_assoc = exponent_assoc;
    order_divides = order-divides;
    exponents_divided = λ i m o. Nat.dvd_trans m (place_order-divides i m o) (exponents-multiple i m);
  }

  pub subgroup_table-is_table : IsTableAt s G k n ops subgroup_table
  unfolding subgroup_table
  subgroup_table-is_table = record {
    same_order = refl;
    quotient = quotient;
    is_translation = quotient-translation;
    products = products;
    phases = phases;
  }

  -- the identity stands at the first place
  pub start_is_identity : (i : Fin h) → to_nat i ≡ 0 → ops i ≡ identity
  start_is_identity i e = ap ops (to_nat_inj i start (e ∙ sym start_first)) ∙ start-identity
