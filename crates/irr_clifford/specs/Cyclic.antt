-- Normal subgroups with a cyclic quotient, and the conjugates of a family on one.
use Rattle.std.specs.Prelude.{ℕ, zero, suc, ◌≡◌}
use Rattle.irr_algebra.specs.Ring.{Ring}
use Rattle.irr_algebra.specs.Fin.{Fin, to_nat}
use Rattle.irr_algebra.specs.Matrix.{Matrix, ◌·◌, scale, total, unit}
use Rattle.irr_algebra.specs.Action.{IsIntertwiner}
use Rattle.irr_theory.specs.Extension.{matrix_power}
use Rattle.irr_theory.specs.Traces.{back}
use Rattle.irr_theory.specs.FactorSystem.{FactorSystem, Representation}
use Rattle.irr_clifford.specs.Subgroup.{Subgroup}

-- the e-th power of a place
unfoldable pub place_power : {R : Ring} (T : FactorSystem R) → Fin T.places → ℕ → Fin T.places
place_power T g zero = T.start
place_power T g (suc e) = T.product g (place_power T g e)

-- each place is one power of the generator g, with an exponent below the index, times one member; n g is g times the
-- member `conj n`, and g n is the member `conj_back n` times g
pub record CyclicQuotient {R : Ring} {T : FactorSystem R} (H : Subgroup T) : Type 0 where
  pub index : ℕ
  pub generator : Fin T.places
  pub conj : Fin H.table.places → Fin H.table.places
  pub member-generator : (n : Fin H.table.places) → T.product (H.member n) generator ≡ T.product generator (H.member (conj n))
  pub conj_back : Fin H.table.places → Fin H.table.places
  pub generator-member : (n : Fin H.table.places) → T.product generator (H.member n) ≡ T.product (H.member (conj_back n)) generator
  pub top : Fin H.table.places
  pub power-index : place_power T generator index ≡ H.member top
  pub exponent : Fin T.places → Fin index
  pub part : Fin T.places → Fin H.table.places
  pub splits : (x : Fin T.places) → T.product (place_power T generator (to_nat (exponent x))) (H.member (part x)) ≡ x
  pub one_exponent : (a b : Fin index) (m n : Fin H.table.places)
      → T.product (place_power T generator (to_nat a)) (H.member m) ≡ T.product (place_power T generator (to_nat b)) (H.member n) → a ≡ b

-- the matrices of the conjugate family: the phases are those of n * g and g * conj n
unfoldable pub conjugate : {R : Ring} {T : FactorSystem R} {H : Subgroup T} (Q : CyclicQuotient H) {d : ℕ} → Representation H.table d → Fin H.table.places → Matrix R d d
conjugate {R} {T} {H} Q D n = scale R (R.mul (T.phase (H.member n) Q.generator) (T.phase-invertible Q.generator (H.member (Q.conj n))).inverse) (D.at (Q.conj n))

-- the phase of the e-th power: the product of the phases of g with g^a for a below e
unfoldable pub power_phase : {R : Ring} (T : FactorSystem R) → Fin T.places → ℕ → R.Carrier
power_phase {R} T g zero = R.one
power_phase {R} T g (suc e) = R.mul (power_phase T g e) (T.phase g (place_power T g e))

-- the matrix u stands for the generator: it takes the conjugate family to the family, and its power is that of the generator
pub record StandsForGenerator {R : Ring} {T : FactorSystem R} {H : Subgroup T} (Q : CyclicQuotient H) {d : ℕ} (D : Representation H.table d) (u : Matrix R d d) : Type 0 where
  pub intertwines : IsIntertwiner (conjugate Q D) D.at u
  pub power : matrix_power u Q.index ≡ scale R (power_phase T Q.generator Q.index) (D.at Q.top)

-- the same up to a number: the power of u is c times that of the generator
pub record HasScalar {R : Ring} {T : FactorSystem R} {H : Subgroup T} (Q : CyclicQuotient H) {d : ℕ} (D : Representation H.table d) (u : Matrix R d d) (c : R.Carrier) : Type 0 where
  pub intertwines : IsIntertwiner (conjugate Q D) D.at u
  pub power : matrix_power u Q.index ≡ scale R (R.mul c (power_phase T Q.generator Q.index)) (D.at Q.top)

-- E is D at the members, and u at the generator
pub record IsExtension {R : Ring} {T : FactorSystem R} {H : Subgroup T} (Q : CyclicQuotient H) {d : ℕ} (D : Representation H.table d) (u : Matrix R d d) (E : Representation T d) : Type 0 where
  pub at-member : (n : Fin H.table.places) → E.at (H.member n) ≡ D.at n
  pub at-generator : E.at Q.generator ≡ u

-- E is induced from D: the members keep a block of E and act on it as D, and its translates by the powers of the generator
-- add up to all
pub record IsInduced {R : Ring} {T : FactorSystem R} {H : Subgroup T} (Q : CyclicQuotient H) {d e : ℕ} (D : Representation H.table d) (E : Representation T e) : Type 0 where
  pub into : Matrix R e d
  pub out : Matrix R d e
  pub out-into : out · into ≡ unit R d
  pub member-into : (n : Fin H.table.places) → E.at (H.member n) · into ≡ into · D.at n
  pub out-member : (n : Fin H.table.places) → out · E.at (H.member n) ≡ D.at n · out
  pub all_blocks : total Q.index (λ a. matrix_power (E.at Q.generator) (to_nat a) · (into · out) · matrix_power (back E Q.generator) (to_nat a)) ≡ unit R e
