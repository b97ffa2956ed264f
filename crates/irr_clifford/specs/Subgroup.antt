-- Subgroups of the places of a table.
use Rattle.std.specs.Prelude.{ℕ, ◌≡◌}
use Rattle.std.proofs.Common.{sym, ◌∙◌, ap, refl}
use Rattle.irr_algebra.specs.Ring.{Ring}
use Rattle.irr_algebra.specs.Fin.{Fin}
use Rattle.irr_algebra.specs.Matrix.{Matrix}
use Rattle.irr_theory.specs.FactorSystem.{FactorSystem, Representation}

-- a table whose places are places of T, with their products and phases
pub record Subgroup {R : Ring} (T : FactorSystem R) : Type 0 where
  pub table : FactorSystem R
  pub member : Fin table.places → Fin T.places
  pub member-start : member table.start ≡ T.start
  pub member-product : (i j : Fin table.places) → member (table.product i j) ≡ T.product (member i) (member j)
  pub member-phase : (i j : Fin table.places) → table.phase i j ≡ T.phase (member i) (member j)
  pub injective : (i j : Fin table.places) → member i ≡ member j → i ≡ j

-- the family's matrices at the members
abbrev pub restrict : {R : Ring} {T : FactorSystem R} {d : ℕ} (H : Subgroup T) → Representation T d → Fin H.table.places → Matrix R d d
restrict H A n = A.at (H.member n)

-- a list of places that is closed under the product: the number of each product in the list is given
pub record ClosedList {R : Ring} (T : FactorSystem R) : Type 0 where
  pub count : ℕ
  pub member : Fin count → Fin T.places
  pub start : Fin count
  pub product : Fin count → Fin count → Fin count
  pub opposite : Fin count → Fin count
  pub member-start : member start ≡ T.start
  pub member-product : (i j : Fin count) → member (product i j) ≡ T.product (member i) (member j)
  pub member-opposite : (i : Fin count) → member (opposite i) ≡ T.opposite (member i)
  pub injective : (i j : Fin count) → member i ≡ member j → i ≡ j

-- the table of such a list
abbrev pub restricted : {R : Ring} {T : FactorSystem R} → ClosedList T → FactorSystem R
restricted {R} {T} H = record {
  places = H.count;
  start = H.start;
  product = H.product;
  opposite = H.opposite;
  phase = λ i j. T.phase (H.member i) (H.member j);
  start-product = λ i. H.injective (H.product H.start i) i (H.member-product H.start i ∙ ap (λ x. T.product x (H.member i)) H.member-start ∙ T.start-product (H.member i));
  product-start = λ i. H.injective (H.product i H.start) i (H.member-product i H.start ∙ ap (T.product (H.member i)) H.member-start ∙ T.product-start (H.member i));
  product_assoc = λ i j k. H.injective (H.product (H.product i j) k) (H.product i (H.product j k))
      (H.member-product (H.product i j) k ∙ ap (λ x. T.product x (H.member k)) (H.member-product i j) ∙ T.product_assoc (H.member i) (H.member j) (H.member k)
      ∙ sym (H.member-product i (H.product j k) ∙ ap (T.product (H.member i)) (H.member-product j k)));
  opposite-product = λ i. H.injective (H.product (H.opposite i) i) H.start
      (H.member-product (H.opposite i) i ∙ ap (λ x. T.product x (H.member i)) (H.member-opposite i) ∙ T.opposite-product (H.member i) ∙ sym H.member-start);
  product-opposite = λ i. H.injective (H.product i (H.opposite i)) H.start
      (H.member-product i (H.opposite i) ∙ ap (T.product (H.member i)) (H.member-opposite i) ∙ T.product-opposite (H.member i) ∙ sym H.member-start);
  phase-start = λ i. ap (T.phase (H.member i)) H.member-start ∙ T.phase-start (H.member i);
  start-phase = λ i. ap (λ x. T.phase x (H.member i)) H.member-start ∙ T.start-phase (H.member i);
  phase_assoc = λ i j k.
      ap (λ x. R.mul (T.phase (H.member i) (H.member j)) (T.phase x (H.member k))) (H.member-product i j) ∙ T.phase_assoc (H.member i) (H.member j) (H.member k)
      ∙ ap (λ x. R.mul (T.phase (H.member j) (H.member k)) (T.phase (H.member i) x)) (sym (H.member-product j k));
  phase-invertible = λ i j. T.phase-invertible (H.member i) (H.member j);
}

-- and the list as a subgroup
abbrev pub subgroup_of : {R : Ring} {T : FactorSystem R} → ClosedList T → Subgroup T
subgroup_of H = record {
  table = restricted H;
  member = H.member;
  member-start = H.member-start;
  member-product = H.member-product;
  member-phase = λ i j. refl;
  injective = H.injective;
}
