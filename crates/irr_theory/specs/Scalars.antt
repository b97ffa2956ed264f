-- Tables, families and lists seen over another ring: extension of scalars.
use Rattle.std.specs.Prelude.{ℕ}
use Rattle.std.proofs.Common.{sym, ◌∙◌, ap}
use Rattle.irr_algebra.specs.Ring.{Ring}
use Rattle.irr_algebra.specs.Homomorphism.{Homomorphism, map_matrix}
use Rattle.irr_algebra.proofs.Homomorphisms.{map-invertible, map_matrix-mul, map_matrix-unit, map_matrix-scale}
use Rattle.irr_theory.specs.FactorSystem.{FactorSystem, Representation}
use Rattle.irr_theory.specs.Representations.{Representations}

module _ {R S : Ring} (φ : Homomorphism R S) where
  -- the table with each phase mapped
  abbrev pub map_twisted : FactorSystem R → FactorSystem S
  map_twisted T = record {
    places = T.places;
    start = T.start;
    product = T.product;
    opposite = T.opposite;
    phase = λ i j. φ.map (T.phase i j);
    start-product = T.start-product;
    product-start = T.product-start;
    product_assoc = T.product_assoc;
    opposite-product = T.opposite-product;
    product-opposite = T.product-opposite;
    phase-start = λ i. ap φ.map (T.phase-start i) ∙ φ.map-one;
    start-phase = λ i. ap φ.map (T.start-phase i) ∙ φ.map-one;
    phase_assoc = λ i j k. sym (φ.map-mul (T.phase i j) (T.phase (T.product i j) k)) ∙ ap φ.map (T.phase_assoc i j k) ∙ φ.map-mul (T.phase j k) (T.phase i (T.product j k));
    phase-invertible = λ i j. map-invertible φ (T.phase-invertible i j);
  }

  -- the family with each entry mapped
  unfoldable pub map_family : {T : FactorSystem R} {d : ℕ} → Representation T d → Representation (map_twisted T) d
  map_family {T} {d} A = record {
    at = λ i. map_matrix φ (A.at i);
    at-start = ap (map_matrix φ) A.at-start ∙ map_matrix-unit φ d;
    at-product = λ i j. sym (map_matrix-mul φ (A.at i) (A.at j)) ∙ ap (map_matrix φ) (A.at-product i j) ∙ map_matrix-scale φ (T.phase i j) (A.at (T.product i j));
  }

  -- the list with each member mapped
  abbrev pub map_families : {T : FactorSystem R} → Representations T → Representations (map_twisted T)
  map_families L = record { count = L.count; size = L.size; member = λ m. map_family (L.member m) }
