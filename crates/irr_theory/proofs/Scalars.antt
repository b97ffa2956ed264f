-- Dimensions and full lists over a larger field.
use Rattle.std.proofs.Common.{◌≡◌, sym, ◌∙◌, ap, ap₂, subst, ℕ}
use mathlib.Core.Path.{fun_ext}
use Rattle.irr_algebra.specs.Ring.{Ring, whole}
use Rattle.irr_algebra.specs.Field.{Field}
use Rattle.irr_algebra.specs.Fin.{Fin}
use Rattle.irr_algebra.specs.Sum.{sum}
use Rattle.irr_algebra.specs.Matrix.{trace}
use Rattle.irr_algebra.specs.Homomorphism.{Homomorphism, map_matrix}
use Rattle.irr_algebra.specs.Action.{HasDimension}
use Rattle.irr_algebra.proofs.Fields.{whole_inj, mul_cancel}
use Rattle.irr_algebra.proofs.Homomorphisms.{map-whole, map-sum, map-trace, map_matrix-scale}
use Rattle.irr_algebra.proofs.Irreducible.{dimension-zero_inequivalent}
use Rattle.irr_theory.specs.FactorSystem.{FactorSystem, Representation}
use Rattle.irr_theory.specs.Representations.{Representations, IsFull, IsComplete}
use Rattle.irr_theory.specs.Traces.{back, trace_sum}
use Rattle.irr_theory.specs.Scalars.{map_twisted, map_family, map_families}
use Rattle.irr_theory.proofs.Inverses.{places-ne-zero}
use Rattle.irr_theory.proofs.Dimensions.{dimension-trace_sum}
use Rattle.irr_theory.proofs.Existence.{dimension_exists}
use Rattle.irr_theory.proofs.Completeness.{members-dimension, full-complete}

module _ {R S : Ring} (φ : Homomorphism R S) {T : FactorSystem R} where
  pub back-map_family : {d : ℕ} (A : Representation T d) (i : Fin T.places) → back (map_family φ A) i ≡ map_matrix φ (back A i)
  unfolding back map_family
  back-map_family A i = sym (map_matrix-scale φ (T.phase-invertible i (T.opposite i)).inverse (A.at (T.opposite i)))

  pub trace_sum-map_family : {a b : ℕ} (A : Representation T a) (B : Representation T b) → trace_sum (map_family φ A) (map_family φ B) ≡ φ.map (trace_sum A B)
  unfolding trace_sum map_family
  trace_sum-map_family A B = sym (map-sum φ T.places (λ i. R.mul (trace (B.at i)) (trace (back A i))) ∙ ap (sum S T.places) (fun_ext (λ i.
      φ.map-mul (trace (B.at i)) (trace (back A i)) ∙ ap₂ S.mul (map-trace φ (B.at i)) (map-trace φ (back A i) ∙ ap trace (sym (back-map_family A i))))))

module _ (F K : Field) (φ : Homomorphism F.ring K.ring) {T : FactorSystem F.ring} where
  -- the dimension of a space of intertwiners is the same over the larger field
  pub dimension-map_family : {a b n : ℕ} (A : Representation T a) (B : Representation T b) → HasDimension A.at B.at n → HasDimension (map_family φ A).at (map_family φ B).at n
  dimension-map_family {a} {b} {n} A B h =
      let k = dimension_exists K (map_family φ A) (map_family φ B) in
      subst (λ m. HasDimension (map_family φ A).at (map_family φ B).at m)
      (whole_inj K k.0 n (mul_cancel K (whole K.ring T.places) (whole K.ring k.0) (whole K.ring n) (places-ne-zero K (map_twisted φ T))
      (dimension-trace_sum K (map_family φ A) (map_family φ B) k.1 ∙ trace_sum-map_family φ A B ∙ ap φ.map (sym (dimension-trace_sum F A B h))
      ∙ φ.map-mul (whole F.ring T.places) (whole F.ring n) ∙ ap₂ K.mul (map-whole φ T.places) (map-whole φ n)))) k.1

  -- a full list stays full
  pub full-map_families : (L : Representations T) → IsFull L → IsFull (map_families φ L)
  full-map_families L full = record {
    positive = full.positive;
    simple = λ m. dimension-map_family (L.member m) (L.member m) (full.simple m);
    inequivalent = λ m n d e. dimension-zero_inequivalent K (map_family φ (L.member m)).at (map_family φ (L.member n)).at
        (dimension-map_family (L.member m) (L.member n) (members-dimension F L full m n d)) (full.positive n) e;
    squares = full.squares;
  }

  -- so it is complete over each larger field
  pub full-complete_over : (L : Representations T) → IsFull L → IsComplete (map_families φ L)
  full-complete_over L full = full-complete K (map_families φ L) (full-map_families L full)
