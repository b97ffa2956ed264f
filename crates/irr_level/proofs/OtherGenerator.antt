-- The powers of g n for the generator g and a member n, and the matrix at g n.
--   spread                   (g y)^e is g^e times one member with a number
--   coset-power              the powers of u D(y)
--   other_step               u D(n) is a step at g n with the same scalar, up to a number that is not 0
--   other_outside            no power of g n below the index is a member
use Rattle.std.proofs.Common.{◌≡◌, sym, ◌∙◌, ap, refl, ℕ, zero, suc, ◌<◌, arith}
use Rattle.irr_algebra.specs.Ring.{Ring}
use Rattle.irr_algebra.specs.Fin.{Fin, to_nat}
use Rattle.irr_algebra.specs.Matrix.{Matrix, ◌·◌, unit, scale}
use Rattle.irr_algebra.specs.Action.{IsIntertwiner}
use Rattle.irr_algebra.proofs.Rings.{mul_left_comm, one-mul}
use Rattle.irr_algebra.proofs.Indices.{from_nat, to_nat-from_nat}
use Rattle.irr_algebra.proofs.Matrices.{mul_assoc, unit-mul, scale-mul, mul-scale, scale-scale}
use Rattle.irr_theory.specs.FactorSystem.{FactorSystem, Representation}
use Rattle.irr_theory.specs.Lifted.{Lifted, lifted, lifted_product}
use Rattle.irr_theory.specs.Extension.{iterate, matrix_power}
use Rattle.irr_theory.proofs.Lifted.{lifted-multiplies}
use Rattle.irr_eigen.specs.Step.{at_place, IsOutside, IsStep, top_matrix, lifted_power as power_of}
use Rattle.irr_clifford.specs.Subgroup.{Subgroup}
use Rattle.irr_clifford.specs.Cyclic.{CyclicQuotient, conjugate, power_phase, HasScalar, place_power}
use Rattle.irr_clifford.proofs.Split.{◌⋆◌, bare, bare-start-mul, index-positive, inside, inside-inj, inside-mul, inside-peak, inside-start}
use Rattle.irr_clifford.proofs.Split.{inside-step, inside-steps, lifted-ext}
use Rattle.irr_clifford.proofs.Split.{lifted_assoc, lifted_cancel, lifted_power, lifted_power-place, moved, peak, step, steps}
use Rattle.irr_clifford.proofs.Representations.{lifted-bare, lifted-moved_bare, lifted-peak}
use Rattle.irr_clifford.proofs.Extended.{member-power}
use Rattle.irr_level.specs.Part.{as_part}

-- a place with a number, with the number multiplied
abbrev times : {R : Ring} {T : FactorSystem R} → R.Carrier → Lifted T → Lifted T
times {R} a x = record { number = R.mul a x.number; place = x.place }

mul-times : {R : Ring} (T : FactorSystem R) (a : R.Carrier) (x y : Lifted T) → ◌⋆◌ T x (times a y) ≡ times a (◌⋆◌ T x y)
unfolding lifted_product
mul-times {R} T a x y = lifted-ext (◌⋆◌ T x (times a y)) (times a (◌⋆◌ T x y)) (sorted x.number a y.number (T.phase x.place y.place)) refl
  where
    sorted : (x a y p : R.Carrier) → R.mul (R.mul x (R.mul a y)) p ≡ R.mul a (R.mul (R.mul x y) p)
    sorted x a y p = simp (R.mul_assoc, mul_left_comm R)

-- two places with the same product in both orders, each time with the other's phase
swapped : {R : Ring} (T : FactorSystem R) (i j k : Fin T.places) → T.product i j ≡ T.product j k
    → times (T.phase i j) (◌⋆◌ T (bare T j) (bare T k)) ≡ times (T.phase j k) (◌⋆◌ T (bare T i) (bare T j))
unfolding lifted_product
swapped {R} T i j k e = lifted-ext (times (T.phase i j) (◌⋆◌ T (bare T j) (bare T k))) (times (T.phase j k) (◌⋆◌ T (bare T i) (bare T j)))
    (sorted (T.phase i j) (T.phase j k)) (sym e)
  where
    sorted : (a b : R.Carrier) → R.mul a (R.mul (R.mul R.one R.one) b) ≡ R.mul b (R.mul (R.mul R.one R.one) a)
    sorted a b = simp (R.mul_assoc, mul_left_comm R, R.mul_comm)

pub same_power : {R : Ring} (T : FactorSystem R) (x : Lifted T) (e : ℕ) → power_of x e ≡ lifted_power T x e
unfolding power_of lifted_power
same_power T x zero = refl
same_power T x (suc e) = ap (◌⋆◌ T x) (same_power T x e)

module _ {R : Ring} {T : FactorSystem R} {H : Subgroup T} (Q : CyclicQuotient H) where
  -- the member with a number for which (g y)^e = g^e times it
  unfoldable pub spread : Lifted H.table → ℕ → Lifted H.table
  spread y zero = bare H.table H.table.start
  spread y (suc e) = ◌⋆◌ H.table (iterate (moved Q) e y) (spread y e)

  pub spread-power : (y : Lifted H.table) (e : ℕ) → lifted_power T (◌⋆◌ T (step Q) (inside Q y)) e ≡ ◌⋆◌ T (steps Q e) (inside Q (spread y e))
  unfolding spread lifted_power
  spread-power y zero = sym (bare-start-mul T (inside Q (bare H.table H.table.start)) ∙ inside-start Q)
  spread-power y (suc e) =
      ap (◌⋆◌ T (◌⋆◌ T (step Q) (inside Q y))) (spread-power y e)
      ∙ lifted_assoc T (step Q) (inside Q y) (◌⋆◌ T (steps Q e) (inside Q (spread y e)))
      ∙ ap (◌⋆◌ T (step Q)) (
      sym (lifted_assoc T (inside Q y) (steps Q e) (inside Q (spread y e)))
      ∙ ap (λ w. ◌⋆◌ T w (inside Q (spread y e))) (inside-steps Q e y)
      ∙ lifted_assoc T (steps Q e) (inside Q (iterate (moved Q) e y)) (inside Q (spread y e))
      ∙ ap (◌⋆◌ T (steps Q e)) (sym (inside-mul Q (iterate (moved Q) e y) (spread y e))))
      ∙ sym (lifted_assoc T (step Q) (steps Q e) (inside Q (◌⋆◌ H.table (iterate (moved Q) e y) (spread y e))))

  -- n with the number that leaves no phase in g n
  abbrev pub phase_free : Fin H.table.places → Lifted H.table
  phase_free n = record { number = (T.phase-invertible Q.generator (H.member n)).inverse; place = n }

  -- the place g n
  abbrev pub other : Fin H.table.places → Fin T.places
  other n = T.product Q.generator (H.member n)

  step-phase_free : (n : Fin H.table.places) → ◌⋆◌ T (step Q) (inside Q (phase_free n)) ≡ at_place T (other n)
  unfolding lifted_product
  step-phase_free n = lifted-ext (◌⋆◌ T (step Q) (inside Q (phase_free n))) (at_place T (other n))
      (ap (λ x. R.mul x (T.phase Q.generator (H.member n))) (one-mul R (T.phase-invertible Q.generator (H.member n)).inverse)
      ∙ R.mul_comm (T.phase-invertible Q.generator (H.member n)).inverse (T.phase Q.generator (H.member n))
      ∙ (T.phase-invertible Q.generator (H.member n)).mul-inverse)
      refl

  other-power : (n : Fin H.table.places) (e : ℕ) → power_of (at_place T (other n)) e ≡ ◌⋆◌ T (steps Q e) (inside Q (spread (phase_free n) e))
  other-power n e = same_power T (at_place T (other n)) e ∙ ap (λ x. lifted_power T x e) (sym (step-phase_free n)) ∙ spread-power (phase_free n) e

  -- no power of g n below the index is a member
  pub other_outside : (n : Fin H.table.places) → IsOutside (as_part H) (other n) Q.index
  unfolding lifted_product place_power
  other_outside n = record {
    not-inside = λ e positive below i k. apart e positive below i (k ∙ ap (λ (x : Lifted T). x.place) (other-power n e)
        ∙ ap (λ x. T.product x (H.member (spread (phase_free n) e).place)) (lifted_power-place T Q.generator e));
  }
    where
      apart : (e : ℕ) → 0 < e → e < Q.index → (i : Fin H.table.places)
          → H.member i ≡ T.product (place_power T Q.generator e) (H.member (spread (phase_free n) e).place) → ⊥
      apart e positive below i k =
          let none : Fin Q.index = from_nat Q.index 0 (index-positive Q) in
          let some : Fin Q.index = from_nat Q.index e below in
          let zero_is : to_nat none ≡ 0 = to_nat-from_nat Q.index 0 (index-positive Q) in
          let some_is : to_nat some ≡ e = to_nat-from_nat Q.index e below in
          let same : none ≡ some = Q.one_exponent none some i (spread (phase_free n) e).place (
          ap (λ a. T.product (place_power T Q.generator a) (H.member i)) zero_is ∙ T.start-product (H.member i) ∙ k
          ∙ ap (λ a. T.product (place_power T Q.generator a) (H.member (spread (phase_free n) e).place)) (sym some_is)) in
          let number : 0 ≡ e = sym zero_is ∙ ap to_nat same ∙ some_is in
          omega (arith, number)

module _ {R : Ring} {T : FactorSystem R} {H : Subgroup T} (Q : CyclicQuotient H) {d : ℕ} (D : Representation H.table d) (u : Matrix R d d) where
  -- the powers of the matrix u D(y)
  pub coset-power : IsIntertwiner (conjugate Q D) D.at u → (y : Lifted H.table) (e : ℕ)
      → matrix_power (u · lifted D y) e ≡ matrix_power u e · lifted D (spread Q y e)
  unfolding matrix_power spread
  coset-power i y zero = sym (unit-mul (unit R d)) ∙ ap (λ (m : Matrix R d d). unit R d · m) (sym (lifted-bare D H.table.start ∙ D.at-start))
  coset-power i y (suc e) =
      ap (λ (m : Matrix R d d). u · lifted D y · m) (coset-power i y e)
      ∙ mul_assoc u (lifted D y) (matrix_power u e · lifted D (spread Q y e))
      ∙ ap (λ (m : Matrix R d d). u · m) (
      sym (mul_assoc (lifted D y) (matrix_power u e) (lifted D (spread Q y e)))
      ∙ ap (λ (m : Matrix R d d). m · lifted D (spread Q y e)) (member-power Q D u i e y)
      ∙ mul_assoc (matrix_power u e) (lifted D (iterate (moved Q) e y)) (lifted D (spread Q y e))
      ∙ ap (λ (m : Matrix R d d). matrix_power u e · m) (lifted-multiplies D (iterate (moved Q) e y) (spread Q y e)))
      ∙ sym (mul_assoc u (matrix_power u e) (lifted D (◌⋆◌ H.table (iterate (moved Q) e y) (spread Q y e))))

  -- the matrix at g n
  abbrev pub other_matrix : Fin H.table.places → Matrix R d d
  other_matrix n = u · lifted D (phase_free Q n)

  module _ (c : R.Carrier) (h : HasScalar Q D u c) (n : Fin H.table.places) where
    -- the member with a number at which the power to the index stands
    other_top : Lifted H.table
    other_top = ◌⋆◌ H.table (peak Q) (spread Q (phase_free Q n) Q.index)

    inside-other_top : inside Q other_top ≡ power_of (at_place T (other Q n)) Q.index
    unfolding other_top
    inside-other_top = inside-mul Q (peak Q) (spread Q (phase_free Q n) Q.index)
        ∙ ap (λ w. ◌⋆◌ T w (inside Q (spread Q (phase_free Q n) Q.index))) (inside-peak Q) ∙ sym (other-power Q n Q.index)

    power-scaled : matrix_power (other_matrix n) Q.index ≡ scale R c (lifted D other_top)
    unfolding other_top
    power-scaled =
        coset-power h.intertwines (phase_free Q n) Q.index
        ∙ ap (λ (m : Matrix R d d). m · lifted D (spread Q (phase_free Q n) Q.index)) (
        h.power ∙ sym (scale-scale R c (power_phase T Q.generator Q.index) (D.at Q.top)) ∙ ap (scale R c) (sym (lifted-peak Q D)))
        ∙ scale-mul R c (lifted D (peak Q)) (lifted D (spread Q (phase_free Q n) Q.index))
        ∙ ap (scale R c) (lifted-multiplies D (peak Q) (spread Q (phase_free Q n) Q.index))

    -- the same member, by its place in the table
    top-same : lifted D other_top ≡ top_matrix T D (other Q n) Q.index other_top.place
    top-same = ap (lifted D) (lifted-ext other_top (record { number = (power_of (at_place T (other Q n)) Q.index).number; place = other_top.place })
        (ap (λ (x : Lifted T). x.number) inside-other_top) refl)

    at-right : (i : Fin H.table.places) → lifted D (phase_free Q n) · D.at i ≡ lifted D (◌⋆◌ H.table (phase_free Q n) (bare H.table i))
    at-right i = ap (λ (m : Matrix R d d). lifted D (phase_free Q n) · m) (sym (lifted-bare D i)) ∙ lifted-multiplies D (phase_free Q n) (bare H.table i)

    at-left : (j : Fin H.table.places) → D.at j · other_matrix n ≡ u · lifted D (◌⋆◌ H.table (moved Q (bare H.table j)) (phase_free Q n))
    at-left j =
        sym (mul_assoc (D.at j) u (lifted D (phase_free Q n))) ∙ ap (λ (m : Matrix R d d). m · lifted D (phase_free Q n)) (h.intertwines.intertwines j)
        ∙ mul_assoc u (conjugate Q D j) (lifted D (phase_free Q n))
        ∙ ap (λ (m : Matrix R d d). u · m) (ap (λ (m : Matrix R d d). m · lifted D (phase_free Q n)) (sym (lifted-moved_bare Q D j))
        ∙ lifted-multiplies D (moved Q (bare H.table j)) (phase_free Q n))

    both : (i j : Fin H.table.places) → T.product (H.member j) (other Q n) ≡ T.product (other Q n) (H.member i)
        → times (T.phase (H.member j) (other Q n)) (◌⋆◌ H.table (phase_free Q n) (bare H.table i))
        ≡ times (T.phase (other Q n) (H.member i)) (◌⋆◌ H.table (moved Q (bare H.table j)) (phase_free Q n))
    both i j e =
        let a : R.Carrier = T.phase (H.member j) (other Q n) in
        let b : R.Carrier = T.phase (other Q n) (H.member i) in
        let y : Lifted H.table = phase_free Q n in
        let m : Lifted H.table = moved Q (bare H.table j) in
        let right : Lifted H.table = ◌⋆◌ H.table y (bare H.table i) in
        let left : Lifted H.table = ◌⋆◌ H.table m y in
        inside-inj Q (times a right) (times b left)
        (lifted_cancel T (step Q) (inside Q (times a right)) (inside Q (times b left)) (record { inverse = R.one; mul-inverse = R.mul-one R.one }) (
        mul-times T a (step Q) (inside Q right)
        ∙ ap (times a) (ap (◌⋆◌ T (step Q)) (inside-mul Q y (bare H.table i)) ∙ sym (lifted_assoc T (step Q) (inside Q y) (inside Q (bare H.table i)))
        ∙ ap (λ w. ◌⋆◌ T w (inside Q (bare H.table i))) (step-phase_free Q n))
        ∙ swapped T (H.member j) (other Q n) (H.member i) e
        ∙ sym (mul-times T b (step Q) (inside Q left)
        ∙ ap (times b) (ap (◌⋆◌ T (step Q)) (inside-mul Q m y) ∙ sym (lifted_assoc T (step Q) (inside Q m) (inside Q y))
        ∙ ap (λ w. ◌⋆◌ T w (inside Q y)) (sym (inside-step Q (bare H.table j))) ∙ lifted_assoc T (inside Q (bare H.table j)) (step Q) (inside Q y)
        ∙ ap (◌⋆◌ T (inside Q (bare H.table j))) (step-phase_free Q n)))))

    carried : (i j : Fin H.table.places) → T.product (H.member j) (other Q n) ≡ T.product (other Q n) (H.member i)
        → scale R (T.phase (H.member j) (other Q n)) (other_matrix n · D.at i) ≡ scale R (T.phase (other Q n) (H.member i)) (D.at j · other_matrix n)
    unfolding lifted
    carried i j e =
        let a : R.Carrier = T.phase (H.member j) (other Q n) in
        let b : R.Carrier = T.phase (other Q n) (H.member i) in
        let y : Lifted H.table = phase_free Q n in
        let right : Lifted H.table = ◌⋆◌ H.table y (bare H.table i) in
        let left : Lifted H.table = ◌⋆◌ H.table (moved Q (bare H.table j)) y in
        ap (scale R a) (mul_assoc u (lifted D y) (D.at i) ∙ ap (λ (m : Matrix R d d). u · m) (at-right i)) ∙ sym (mul-scale R a u (lifted D right))
        ∙ ap (λ (m : Matrix R d d). u · m) (scale-scale R a right.number (D.at right.place) ∙ ap (lifted D) (both i j e)
        ∙ sym (scale-scale R b left.number (D.at left.place)))
        ∙ mul-scale R b u (lifted D left) ∙ ap (scale R b) (sym (at-left j))

    pub other_step : IsStep (as_part H) D (other Q n) Q.index c (other_matrix n)
    other_step = record {
      top = other_top.place;
      place-top = ap (λ (x : Lifted T). x.place) inside-other_top;
      carries = carried;
      power-multiple = power-scaled ∙ ap (scale R c) top-same;
    }
