-- Places with numbers multiply as a group does, and each is one power of the generator times one member of the subgroup.
use Rattle.std.proofs.Common.{◌≡◌, sym, ◌∙◌, ap, ap₂, refl, ℕ, zero, suc, ◌+◌, ◌<◌, arith, zero-add, suc-add}
use Rattle.irr_algebra.specs.Ring.{Ring, IsInvertible}
use Rattle.irr_algebra.specs.Fin.{Fin, to_nat}
use Rattle.irr_algebra.proofs.Indices.{from_nat, to_nat-from_nat, to_nat-lt}
use Rattle.irr_algebra.proofs.Rings.{one-mul, mul_left_comm}
use Rattle.irr_theory.specs.FactorSystem.{FactorSystem}
use Rattle.irr_theory.specs.Extension.{iterate}
use Rattle.irr_theory.specs.Lifted.{Lifted, lifted_product}
use Rattle.irr_clifford.specs.Subgroup.{Subgroup}
use Rattle.irr_clifford.specs.Cyclic.{place_power, CyclicQuotient}
use Rattle.irr_clifford.specs.Formulas.{power_phase_back, split_phase}

pub lifted-ext : {R : Ring} {T : FactorSystem R} (x y : Lifted T) → x.number ≡ y.number → x.place ≡ y.place → x ≡ y
lifted-ext {R} {T} x y e f = ap₂ (λ (c : R.Carrier) (i : Fin T.places). record { number = c; place = i }) e f

pub invertible-mul : {R : Ring} {x y : R.Carrier} → IsInvertible R x → IsInvertible R y → IsInvertible R (R.mul x y)
invertible-mul {R} {x} {y} h k = record {
  inverse = R.mul h.inverse k.inverse;
  mul-inverse = sorted x y h.inverse k.inverse ∙ ap₂ R.mul h.mul-inverse k.mul-inverse ∙ R.mul-one R.one;
}
  where
    sorted : (x y i j : R.Carrier) → R.mul (R.mul x y) (R.mul i j) ≡ R.mul (R.mul x i) (R.mul y j)
    sorted x y i j = simp (R.mul_assoc, mul_left_comm R)

pub invertible_cancel : {R : Ring} (u x y : R.Carrier) → IsInvertible R u → R.mul u x ≡ R.mul u y → x ≡ y
invertible_cancel {R} u x y h e = sym (back x) ∙ ap (R.mul h.inverse) e ∙ back y
  where
    back : (x : R.Carrier) → R.mul h.inverse (R.mul u x) ≡ x
    back x = sym (R.mul_assoc h.inverse u x) ∙ ap (λ c. R.mul c x) (R.mul_comm h.inverse u ∙ h.mul-inverse) ∙ one-mul R x

-- f applied before or after the others
pub iterate-inner : {A : Type 0} (f : A → A) (n : ℕ) (a : A) → iterate f n (f a) ≡ iterate f (suc n) a
unfolding iterate
iterate-inner f zero a = refl
iterate-inner f (suc n) a = ap f (iterate-inner f n a)

module _ {R : Ring} (T : FactorSystem R) where
  infixl 70 ◌⋆◌
  -- the product of numbers with places
  abbrev pub ◌⋆◌ : Lifted T → Lifted T → Lifted T
  x ⋆ y = lifted_product x y

  -- the place with the number 1
  abbrev pub bare : Fin T.places → Lifted T
  bare i = record { number = R.one; place = i }

  pub lifted_assoc : (x y z : Lifted T) → (x ⋆ y) ⋆ z ≡ x ⋆ (y ⋆ z)
  unfolding lifted_product
  lifted_assoc x y z = lifted-ext ((x ⋆ y) ⋆ z) (x ⋆ (y ⋆ z))
      (sorted x.number y.number z.number (T.phase x.place y.place) (T.phase (T.product x.place y.place) z.place)
      ∙ ap (λ c. R.mul x.number (R.mul y.number (R.mul z.number c))) (T.phase_assoc x.place y.place z.place)
      ∙ sorted_again x.number y.number z.number (T.phase y.place z.place) (T.phase x.place (T.product y.place z.place)))
      (T.product_assoc x.place y.place z.place)
    where
      sorted : (x y z p q : R.Carrier) → R.mul (R.mul (R.mul (R.mul x y) p) z) q ≡ R.mul x (R.mul y (R.mul z (R.mul p q)))
      sorted x y z p q = simp (R.mul_assoc, mul_left_comm R)

      sorted_again : (x y z p q : R.Carrier) → R.mul x (R.mul y (R.mul z (R.mul p q))) ≡ R.mul (R.mul x (R.mul (R.mul y z) p)) q
      sorted_again x y z p q = simp (R.mul_assoc)

  pub bare-start-mul : (x : Lifted T) → bare T.start ⋆ x ≡ x
  unfolding lifted_product
  bare-start-mul x = lifted-ext (bare T.start ⋆ x) x (ap (R.mul (R.mul R.one x.number)) (T.start-phase x.place) ∙ R.mul-one (R.mul R.one x.number) ∙ one-mul R x.number) (T.start-product x.place)

  pub mul-bare-start : (x : Lifted T) → x ⋆ bare T.start ≡ x
  unfolding lifted_product
  mul-bare-start x = lifted-ext (x ⋆ bare T.start) x (ap (R.mul (R.mul x.number R.one)) (T.phase-start x.place) ∙ R.mul-one (R.mul x.number R.one) ∙ R.mul-one x.number) (T.product-start x.place)

  -- a factor whose number has an inverse cancels
  pub opposite_left : (x y : Fin T.places) → T.product (T.opposite x) (T.product x y) ≡ y
  opposite_left x y = sym (T.product_assoc (T.opposite x) x y) ∙ ap (λ z. T.product z y) (T.opposite-product x) ∙ T.start-product y

  pub place_cancel : (x y z : Fin T.places) → T.product x y ≡ T.product x z → y ≡ z
  place_cancel x y z e = sym (opposite_left x y) ∙ ap (T.product (T.opposite x)) e ∙ opposite_left x z

  pub lifted_cancel : (z x y : Lifted T) → IsInvertible R z.number → z ⋆ x ≡ z ⋆ y → x ≡ y
  unfolding lifted_product
  lifted_cancel z x y h e = lifted-ext x y
      (invertible_cancel (R.mul z.number (T.phase z.place y.place)) x.number y.number (invertible-mul h (T.phase-invertible z.place y.place))
      (sorted z.number x.number (T.phase z.place y.place) ∙ ap (λ i. R.mul (R.mul z.number x.number) (T.phase z.place i)) (sym places)
      ∙ ap (λ (w : Lifted T). w.number) e ∙ sym (sorted z.number y.number (T.phase z.place y.place))))
      places
    where
      places : x.place ≡ y.place
      places = place_cancel z.place x.place y.place (ap (λ (w : Lifted T). w.place) e)

      sorted : (u a p : R.Carrier) → R.mul (R.mul u p) a ≡ R.mul (R.mul u a) p
      sorted u a p = simp (R.mul_assoc, R.mul_comm)

  -- the powers of a place with a number
  unfoldable pub lifted_power : Lifted T → ℕ → Lifted T
  lifted_power z zero = bare T.start
  lifted_power z (suc e) = z ⋆ lifted_power z e

  pub lifted_power-add : (z : Lifted T) (a b : ℕ) → lifted_power z (a + b) ≡ lifted_power z a ⋆ lifted_power z b
  unfolding lifted_power
  lifted_power-add z zero b = ap (lifted_power z) (zero-add b) ∙ sym (bare-start-mul (lifted_power z b))
  lifted_power-add z (suc a) b = ap (lifted_power z) (suc-add a b) ∙ ap (λ w. z ⋆ w) (lifted_power-add z a b) ∙ sym (lifted_assoc z (lifted_power z a) (lifted_power z b))

  pub lifted_power-place : (g : Fin T.places) (e : ℕ) → (lifted_power (bare g) e).place ≡ place_power T g e
  unfolding lifted_power place_power lifted_product
  lifted_power-place g zero = refl
  lifted_power-place g (suc e) = ap (T.product g) (lifted_power-place g e)

  pub lifted_power-invertible : (g : Fin T.places) (e : ℕ) → IsInvertible R (lifted_power (bare g) e).number
  unfolding lifted_power lifted_product
  lifted_power-invertible g zero = record { inverse = R.one; mul-inverse = R.mul-one R.one }
  lifted_power-invertible g (suc e) = invertible-mul (invertible-mul (record { inverse = R.one; mul-inverse = R.mul-one R.one }) (lifted_power-invertible g e))
      (T.phase-invertible g (lifted_power (bare g) e).place)

module _ {R : Ring} {T : FactorSystem R} {H : Subgroup T} (Q : CyclicQuotient H) where
  pub index-positive : 0 < Q.index
  index-positive = let l = to_nat-lt (Q.exponent T.start) in omega arith

  -- the exponent 0
  pub no_steps : Fin Q.index
  no_steps = from_nat Q.index 0 index-positive

  pub to_nat-no_steps : to_nat no_steps ≡ 0
  unfolding no_steps
  to_nat-no_steps = to_nat-from_nat Q.index 0 index-positive

  -- a member with a number, as a place with it
  abbrev pub inside : Lifted H.table → Lifted T
  inside y = record { number = y.number; place = H.member y.place }

  pub inside-mul : (x y : Lifted H.table) → inside (◌⋆◌ H.table x y) ≡ ◌⋆◌ T (inside x) (inside y)
  unfolding lifted_product
  inside-mul x y = lifted-ext (inside (◌⋆◌ H.table x y)) (◌⋆◌ T (inside x) (inside y)) (ap (R.mul (R.mul x.number y.number)) (H.member-phase x.place y.place)) (H.member-product x.place y.place)

  pub inside-inj : (x y : Lifted H.table) → inside x ≡ inside y → x ≡ y
  inside-inj x y e = lifted-ext x y (ap (λ (w : Lifted T). w.number) e) (H.injective x.place y.place (ap (λ (w : Lifted T). w.place) e))

  pub inside-start : inside (bare H.table H.table.start) ≡ bare T T.start
  inside-start = lifted-ext (inside (bare H.table H.table.start)) (bare T T.start) refl H.member-start

  -- the generator, and its powers
  abbrev pub step : Lifted T
  step = bare T Q.generator

  abbrev pub steps : ℕ → Lifted T
  steps e = lifted_power T step e

  -- y * g = g * moved y
  abbrev pub moved : Lifted H.table → Lifted H.table
  moved y = record {
    number = R.mul y.number (R.mul (T.phase (H.member y.place) Q.generator) (T.phase-invertible Q.generator (H.member (Q.conj y.place))).inverse);
    place = Q.conj y.place;
  }

  pub inside-step : (y : Lifted H.table) → ◌⋆◌ T (inside y) step ≡ ◌⋆◌ T step (inside (moved y))
  unfolding lifted_product
  inside-step y = lifted-ext (◌⋆◌ T (inside y) step) (◌⋆◌ T step (inside (moved y)))
      (cancelled y.number (T.phase (H.member y.place) Q.generator) (T.phase Q.generator (H.member (Q.conj y.place))) (T.phase-invertible Q.generator (H.member (Q.conj y.place))))
      (Q.member-generator y.place)
    where
      cancelled : (c p q : R.Carrier) (h : IsInvertible R q) → R.mul (R.mul c R.one) p ≡ R.mul (R.mul R.one (R.mul c (R.mul p h.inverse))) q
      cancelled c p q h = ap (λ x. R.mul x p) (R.mul-one c) ∙ sym (R.mul-one (R.mul c p)) ∙ ap (R.mul (R.mul c p)) (sym h.mul-inverse) ∙ sorted c p q h.inverse
        where
          sorted : (c p q k : R.Carrier) → R.mul (R.mul c p) (R.mul q k) ≡ R.mul (R.mul R.one (R.mul c (R.mul p k))) q
          sorted c p q k = ap (λ x. R.mul (R.mul c p) x) (R.mul_comm q k) ∙ simp (R.mul_assoc, one-mul R)

  pub inside-steps : (e : ℕ) (y : Lifted H.table) → ◌⋆◌ T (inside y) (steps e) ≡ ◌⋆◌ T (steps e) (inside (iterate moved e y))
  unfolding lifted_power iterate
  inside-steps zero y = mul-bare-start T (inside y) ∙ sym (bare-start-mul T (inside y))
  inside-steps (suc e) y =
      sym (lifted_assoc T (inside y) step (steps e)) ∙ ap (λ w. ◌⋆◌ T w (steps e)) (inside-step y) ∙ lifted_assoc T step (inside (moved y)) (steps e)
      ∙ ap (◌⋆◌ T step) (inside-steps e (moved y)) ∙ sym (lifted_assoc T step (steps e) (inside (iterate moved e (moved y))))
      ∙ ap (λ w. ◌⋆◌ T (◌⋆◌ T step (steps e)) (inside w)) (iterate-inner moved e y)

  -- the power of the generator that is a member
  abbrev pub peak : Lifted H.table
  peak = record { number = (steps Q.index).number; place = Q.top }

  pub inside-peak : inside peak ≡ steps Q.index
  inside-peak = lifted-ext (inside peak) (steps Q.index) refl (sym (lifted_power-place T Q.generator Q.index ∙ Q.power-index))

  -- the exponent and the member of a place with a number
  abbrev pub exponent_of : Lifted T → Fin Q.index
  exponent_of z = Q.exponent z.place

  abbrev pub part_of : Lifted T → Lifted H.table
  part_of z = record {
    number = R.mul z.number (R.mul (lifted_power-invertible T Q.generator (to_nat (Q.exponent z.place))).inverse
        (T.phase-invertible (steps (to_nat (Q.exponent z.place))).place (H.member (Q.part z.place))).inverse);
    place = Q.part z.place;
  }

  pub split : (z : Lifted T) → ◌⋆◌ T (steps (to_nat (exponent_of z))) (inside (part_of z)) ≡ z
  unfolding lifted_product
  split z = lifted-ext (◌⋆◌ T (steps (to_nat (exponent_of z))) (inside (part_of z))) z
      (cancelled z.number (steps (to_nat (Q.exponent z.place))).number (T.phase (steps (to_nat (Q.exponent z.place))).place (H.member (Q.part z.place)))
      (lifted_power-invertible T Q.generator (to_nat (Q.exponent z.place))) (T.phase-invertible (steps (to_nat (Q.exponent z.place))).place (H.member (Q.part z.place))))
      (ap (λ i. T.product i (H.member (Q.part z.place))) (lifted_power-place T Q.generator (to_nat (Q.exponent z.place))) ∙ Q.splits z.place)
    where
      sorted : (c p q i j : R.Carrier) → R.mul (R.mul p (R.mul c (R.mul i j))) q ≡ R.mul c (R.mul (R.mul p i) (R.mul q j))
      sorted c p q i j = simp (R.mul_assoc, mul_left_comm R, R.mul_comm)

      cancelled : (c p q : R.Carrier) (h : IsInvertible R p) (k : IsInvertible R q) → R.mul (R.mul p (R.mul c (R.mul h.inverse k.inverse))) q ≡ c
      cancelled c p q h k = sorted c p q h.inverse k.inverse ∙ ap₂ (λ a b. R.mul c (R.mul a b)) h.mul-inverse k.mul-inverse ∙ ap (R.mul c) (R.mul-one R.one) ∙ R.mul-one c

  -- the exponent and the member are the only ones
  pub split-exponent : (a : Fin Q.index) (y : Lifted H.table) (z : Lifted T) → ◌⋆◌ T (steps (to_nat a)) (inside y) ≡ z → exponent_of z ≡ a
  unfolding lifted_product
  split-exponent a y z e = Q.one_exponent (Q.exponent z.place) a (Q.part z.place) y.place
      (Q.splits z.place ∙ ap (λ (w : Lifted T). w.place) (sym e) ∙ ap (λ i. T.product i (H.member y.place)) (lifted_power-place T Q.generator (to_nat a)))

  pub split-part : (a : Fin Q.index) (y : Lifted H.table) (z : Lifted T) → ◌⋆◌ T (steps (to_nat a)) (inside y) ≡ z → part_of z ≡ y
  split-part a y z e = inside-inj (part_of z) y (lifted_cancel T (steps (to_nat a)) (inside (part_of z)) (inside y) (lifted_power-invertible T Q.generator (to_nat a))
      (ap (λ i. ◌⋆◌ T (steps (to_nat i)) (inside (part_of z))) (sym (split-exponent a y z e)) ∙ split z ∙ sym e))

  power-back : (e : ℕ) → (lifted_power-invertible T Q.generator e).inverse ≡ power_phase_back T Q.generator e
  unfolding invertible-mul lifted_power-invertible power_phase_back lifted_power lifted_product
  power-back zero = refl
  power-back (suc e) = ap₂ R.mul (one-mul R (lifted_power-invertible T Q.generator e).inverse ∙ power-back e)
      (ap (λ x. (T.phase-invertible Q.generator x).inverse) (lifted_power-place T Q.generator e))

  -- the number of the member, written out
  pub part_of-number : (z : Lifted T) → (part_of z).number ≡ R.mul z.number (split_phase Q z.place)
  unfolding split_phase
  part_of-number z = ap (R.mul z.number) (ap₂ R.mul (power-back (to_nat (Q.exponent z.place)))
      (ap (λ x. (T.phase-invertible x (H.member (Q.part z.place))).inverse) (lifted_power-place T Q.generator (to_nat (Q.exponent z.place)))))
