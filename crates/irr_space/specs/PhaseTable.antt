-- Factor systems whose phases are powers of z (Bradley and Cracknell, section 3.7): a finite group with an exponent for each product.
--   PhaseTable h             products l(i,j) and exponents x(i,j) of z on h places, of an order N
--   phases_at T              the factor system over the numbers of order N, with the phases z^x(i,j)
--   phases_over T M          the same over the numbers of an order M that N divides
--   IsTableOf s G k ops T    the table of the canonical operations ops of the little group of k: g_i g_j = (1|t) g_l, z^x = exp(2 pi i s k.t)
use Rattle.std.specs.Prelude.{ℕ, zero, suc, ◌≡◌, ◌<◌, ◌≤◌, ◌+◌, ◌*◌, ◌-◌, ◌%◌}
use Rattle.std.specs.Int.{◌∣◌}
use Rattle.std.proofs.Common.{ap, sym, ◌∙◌}
use Rattle.irr_algebra.specs.Fin.{Fin, to_nat}
use Rattle.irr_number.specs.Number.{numbers, root_power}
use Rattle.irr_number.specs.Lift.{lift}
use Rattle.irr_number.proofs.RootPowers.{root_power-mul, root_power-zero, root_power_same, root_power-inverse}
use Rattle.irr_theory.specs.FactorSystem.{FactorSystem}
use Rattle.irr_theory.specs.Scalars.{map_twisted}
use Rattle.irr_space.specs.Operation.{Operation, Vector, WaveVector, ◌⊙◌, translation}
use Rattle.irr_space.specs.SpaceGroup.{IsTranslation}
use Rattle.irr_space.specs.Reciprocal.{Sign, IsPhase, IsOrder}

-- the n-th power of a place
unfoldable pub place_power : {h : ℕ} (start : Fin h) (product : Fin h → Fin h → Fin h) → Fin h → ℕ → Fin h
place_power start product i zero = start
place_power start product i (suc n) = product i (place_power start product i n)

-- the exponents of a place with its powers below the n-th, added up
unfoldable pub exponents_below : {h : ℕ} (start : Fin h) (product : Fin h → Fin h → Fin h) (exponent : Fin h → Fin h → ℕ) → Fin h → ℕ → ℕ
exponents_below start product exponent i zero = 0
exponents_below start product exponent i (suc n) = exponents_below start product exponent i n + exponent i (place_power start product i n)

-- m is the order of a place: the least positive number whose power is the start
pub record IsPlaceOrder {h : ℕ} (start : Fin h) (product : Fin h → Fin h → Fin h) (i : Fin h) (m : ℕ) : Type 0 where
  pub positive : 0 < m
  pub power : place_power start product i m ≡ start
  pub least : (n : ℕ) → 0 < n → place_power start product i n ≡ start → m ≤ n

-- a group on h places with the unit at place 0, and exponents modulo the order that are a normalized 2-cocycle
pub record PhaseTable (h : ℕ) : Type 0 where
  pub order : ℕ
  pub order_positive : 0 < order
  pub start : Fin h
  pub start_first : to_nat start ≡ 0
  pub product : Fin h → Fin h → Fin h
  pub opposite : Fin h → Fin h
  pub exponent : Fin h → Fin h → ℕ
  pub start-product : (i : Fin h) → product start i ≡ i
  pub product-start : (i : Fin h) → product i start ≡ i
  pub product_assoc : (i j k : Fin h) → product (product i j) k ≡ product i (product j k)
  pub opposite-product : (i : Fin h) → product (opposite i) i ≡ start
  pub product-opposite : (i : Fin h) → product i (opposite i) ≡ start
  pub exponent_below : (i j : Fin h) → exponent i j < order
  pub exponent-start : (i : Fin h) → exponent i start ≡ 0
  pub start-exponent : (i : Fin h) → exponent start i ≡ 0
  pub exponent_assoc : (i j k : Fin h) → (exponent i j + exponent (product i j) k) % order ≡ (exponent j k + exponent i (product j k)) % order
  -- where m is the order of a place, it divides the order of z, and the exponents along the powers of the place
  pub order_divides : (i : Fin h) (m : ℕ) → IsPlaceOrder start product i m → m ∣ order
  pub exponents_divided : (i : Fin h) (m : ℕ) → IsPlaceOrder start product i m → m ∣ exponents_below start product exponent i m

-- the factor system of the phases z^x(i,j)
abbrev pub phases_at : {h : ℕ} (T : PhaseTable h) → FactorSystem (numbers T.order)
phases_at {h} T = record {
  places = h;
  start = T.start;
  product = T.product;
  opposite = T.opposite;
  phase = λ i j. root_power T.order (T.exponent i j);
  start-product = T.start-product;
  product-start = T.product-start;
  product_assoc = T.product_assoc;
  opposite-product = T.opposite-product;
  product-opposite = T.product-opposite;
  phase-start = λ i. ap (root_power T.order) (T.exponent-start i) ∙ root_power-zero T.order;
  start-phase = λ i. ap (root_power T.order) (T.start-exponent i) ∙ root_power-zero T.order;
  phase_assoc = λ i j k. root_power-mul T.order (T.exponent i j) (T.exponent (T.product i j) k)
      ∙ root_power_same T.order (T.exponent i j + T.exponent (T.product i j) k) (T.exponent j k + T.exponent i (T.product j k)) (T.exponent_assoc i j k)
      ∙ sym (root_power-mul T.order (T.exponent j k) (T.exponent i (T.product j k)));
  phase-invertible = λ i j. record { inverse = root_power T.order ((T.order - 1) * T.exponent i j); mul-inverse = root_power-inverse T.order T.order_positive (T.exponent i j) };
}

-- the same with z^x(i,j) as a number of order M
abbrev pub phases_over : {h : ℕ} (T : PhaseTable h) (M : ℕ) → T.order ∣ M → FactorSystem (numbers M)
phases_over T M v = map_twisted (lift T.order M T.order_positive v) (phases_at T)

pub record IsTableOf (s : Sign) (G : Operation → Type 0) (k : WaveVector) {h : ℕ} (ops : Fin h → Operation) (T : PhaseTable h) : Type 0 where
  pub is_order : IsOrder G k T.order
  pub quotient : Fin h → Fin h → Vector
  pub is_translation : (i j : Fin h) → IsTranslation G (quotient i j)
  pub products : (i j : Fin h) → ops i ⊙ ops j ≡ translation (quotient i j) ⊙ ops (T.product i j)
  pub phases : (i j : Fin h) → IsPhase s T.order k (quotient i j) (T.exponent i j)
