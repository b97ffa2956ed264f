-- A step from the representations of a normal subgroup to those of the group that it generates with one more element.
use Rattle.std.specs.Prelude.{ℕ, zero, suc, ◌≡◌, ◌<◌, ◌+◌}
use Rattle.std.proofs.Common.{ap, ap₂, sym, ◌∙◌}
use Rattle.irr_algebra.specs.Ring.{Ring}
use Rattle.irr_algebra.specs.Fin.{Fin, to_nat}
use Rattle.irr_algebra.specs.Matrix.{Matrix, ◌·◌, scale}
use Rattle.irr_theory.specs.FactorSystem.{FactorSystem, Representation}
use Rattle.irr_theory.specs.Lifted.{Lifted, lifted, lifted_product}
use Rattle.irr_theory.specs.Extension.{matrix_power}
use Rattle.irr_eigen.specs.Power.{power, IsPrimitiveRoot}

-- the place g with the number 1
abbrev pub at_place : {R : Ring} (T : FactorSystem R) → Fin T.places → Lifted T
at_place {R} T g = record { number = R.one; place = g }

-- the n-th power of a number with a place: the phases of the products go into the number
unfoldable pub lifted_power : {R : Ring} {T : FactorSystem R} → Lifted T → ℕ → Lifted T
lifted_power {T = T} x zero = at_place T T.start
lifted_power x (suc n) = lifted_product x (lifted_power x n)

-- the powers of the place g come back to the start at `order`, with the `order`-th power of a number as their phase,
-- and 1 has a primitive root of this order
pub record Cycle {R : Ring} (T : FactorSystem R) (g : Fin T.places) : Type 0 where
  pub order : ℕ
  pub positive : 0 < order
  pub returns : (lifted_power (at_place T g) order).place ≡ T.start
  pub number : R.Carrier
  pub phase-power : (lifted_power (at_place T g) order).number ≡ power R number order
  pub root : R.Carrier
  pub primitive : IsPrimitiveRoot R order root

-- the exponents x g (g^a) of g with its powers below the n-th, added up
unfoldable pub exponent_sum : {R : Ring} (T : FactorSystem R) → (Fin T.places → Fin T.places → ℕ) → Fin T.places → ℕ → ℕ
exponent_sum T x g zero = 0
exponent_sum T x g (suc n) = exponent_sum T x g n + x g (lifted_power (at_place T g) n).place

-- the phases of T are powers of z, a primitive root of the given order, with these exponents
pub record HasExponents {R : Ring} (T : FactorSystem R) (order : ℕ) (z : R.Carrier) (x : Fin T.places → Fin T.places → ℕ) : Type 0 where
  pub primitive : IsPrimitiveRoot R order z
  pub phase-power : (i j : Fin T.places) → T.phase i j ≡ power R z (x i j)

-- the places of S are some of those of T, with the same products and phases
pub record Subtable {R : Ring} (S T : FactorSystem R) : Type 0 where
  pub place : Fin S.places → Fin T.places
  pub injective : (i j : Fin S.places) → place i ≡ place j → i ≡ j
  pub place-start : place S.start ≡ T.start
  pub place-product : (i j : Fin S.places) → place (S.product i j) ≡ T.product (place i) (place j)
  pub place-phase : (i j : Fin S.places) → S.phase i j ≡ T.phase (place i) (place j)

-- no power of g below the p-th is at a place of S: the index of S in what S and g generate is p or more
pub record IsOutside {R : Ring} {S T : FactorSystem R} (part : Subtable S T) (g : Fin T.places) (p : ℕ) : Type 0 where
  pub not-inside : (n : ℕ) → 0 < n → n < p → (i : Fin S.places) → part.place i ≡ (lifted_power (at_place T g) n).place → ⊥

-- the number of the cycle times the powers of its root of 1 below the m-th
abbrev pub cycle_numbers : {R : Ring} {T : FactorSystem R} {g : Fin T.places} → Cycle T g → (m : ℕ) → Fin m → R.Carrier
cycle_numbers {R} cycle m i = R.mul cycle.number (power R cycle.root (to_nat i))

-- the matrix of the p-th power of g, which stands at `top`
abbrev pub top_matrix : {R : Ring} {S : FactorSystem R} (T : FactorSystem R) {d : ℕ} → Representation S d → Fin T.places → ℕ → Fin S.places → Matrix R d d
top_matrix T D g p top = lifted D (record { number = (lifted_power (at_place T g) p).number; place = top })

-- u carries the family D to its conjugate by g, and its p-th power is c times the matrix of the p-th power of g
pub record IsStep {R : Ring} {S T : FactorSystem R} (part : Subtable S T) {d : ℕ} (D : Representation S d) (g : Fin T.places) (p : ℕ) (c : R.Carrier) (u : Matrix R d d) : Type 0 where
  pub top : Fin S.places
  pub place-top : part.place top ≡ (lifted_power (at_place T g) p).place
  pub carries : (n m : Fin S.places) → T.product (part.place m) g ≡ T.product g (part.place n)
      → scale R (T.phase (part.place m) g) (u · D.at n) ≡ scale R (T.phase g (part.place n)) (D.at m · u)
  pub power-multiple : matrix_power u p ≡ scale R c (top_matrix T D g p top)

-- the matrices of a family on T at the places of S
unfoldable pub restricted : {R : Ring} {S T : FactorSystem R} (part : Subtable S T) {d : ℕ} → Representation T d → Representation S d
restricted {R} part A = record {
  at = λ i. A.at (part.place i);
  at-start = ap A.at part.place-start ∙ A.at-start;
  at-product = λ i j. A.at-product (part.place i) (part.place j)
      ∙ ap₂ (λ (c : R.Carrier) (k : Fin _). scale R c (A.at k)) (sym (part.place-phase i j)) (sym (part.place-product i j));
}
