-- The parts of a representation, from what stands at each of its stars.
--   star_multiplicity    a dimension of intertwiners between small representations is a multiplicity
--   parts_of_stars       those that occur at the stars are all
use Rattle.std.proofs.Common.{◌≡◌, sym, ◌∙◌, ap, subst, refl, ℕ, suc, ◌<◌, ◌⊎◌, inl, inr}
use Rattle.std.specs.Int.{◌∣◌}
use Rattle.irr_algebra.specs.Fin.{Fin, to_nat}
use Rattle.irr_algebra.specs.Matrix.{Matrix}
use Rattle.irr_algebra.specs.Action.{HasDimension}
use Rattle.irr_algebra.proofs.Indices.{all_or_one, from_nat, to_nat-from_nat, to_nat-lt}
use Rattle.irr_number.specs.Number.{numbers}
use Rattle.irr_rational.specs.Rational.{rational_field}
use Rattle.irr_lattice.proofs.Vectors.{wave-ext}
use Rattle.irr_theory.specs.FactorSystem.{Representation}
use Rattle.irr_theory.specs.Representations.{Representations}
use Rattle.irr_space.specs.Operation.{Operation, WaveVector, wave_component}
use Rattle.irr_space.specs.Reciprocal.{Sign}
use Rattle.irr_space.specs.PhaseTable.{phases_at, phases_over}
use Rattle.irr_space.specs.CompleteList.{IsCompleteList, IsInOrder, over}
use Rattle.irr_cocycle.specs.SpaceGroupLaws.{IsGroup, HasCanonical}
use Rattle.irr_full.specs.GroupRepresentation.{IsRepresentation, HasDiagonal}
use Rattle.irr_full.specs.Star.{Star}
use Rattle.irr_full.specs.Part.{IsPartOf}
use Rattle.irr_full.specs.Parts.{Part, IsRepresentative, IsMultiplicity, ArePartsOf}
use Rattle.irr_full.specs.Stars.{Stars}
use Rattle.irr_full.specs.StarParts.{StarLists, ArePartsOfStars, member_part, star_part}
use Rattle.irr_full.proofs.FullExistence.{full_matrices, full_matrices-is_full}
use Rattle.irr_full.proofs.PartIntertwiners.{part-dimension}
use Rattle.irr_full.proofs.OneOrder.{multiplicity_at_order}
use Rattle.irr_full.proofs.OneMultiplicity.{part_of, one_part}
use Rattle.irr_full.proofs.PartsAddUp.{same_representative, same_count, occurring}

-- two wave vectors are the same, or not
same_wave_or_not : (k w : WaveVector) → (k ≡ w) ⊎ (k ≡ w → ⊥)
same_wave_or_not k w = elim (all_or_one 3 (λ i. wave_component k i ≡ wave_component w i)
    (λ i. wave_component k i ≡ wave_component w i → ⊥)
    (λ i. rational_field.decide (wave_component k i) (wave_component w i))) [
      | inl same ↦ inl (wave-ext k w same)
      | inr other ↦ inr (λ e. other.1 (ap (λ (v : WaveVector). wave_component v other.0) e))
    ]

module _ (G : Operation → Type 0) (group : IsGroup G) (chosen : HasCanonical G) (s : Sign) (M : ℕ) (positive : 0 < M)
    {e : ℕ} (A : Operation → Matrix (numbers M) e e)
    (is_representation : IsRepresentation G A) (has_diagonal : HasDiagonal G A) where
  -- intertwiners from the member m to the part of A at k
  pub star_multiplicity : {k : WaveVector} (S : Star s G k) (v : S.table.order ∣ M)
      (L : Representations (phases_at S.table)) → IsCompleteList S.table L → IsInOrder S.table L
      → {n : ℕ} (places : Fin n → Fin e) (B : Representation (phases_over S.table M v) n) → IsPartOf S M v A places B
      → (m : Fin L.count) (q : ℕ) → HasDimension (over S.table M v (L.member m)).at B.at q
      → IsMultiplicity s G positive A (member_part S L m q)
  star_multiplicity S v L complete ordered places B part m q h =
      let D = over S.table M v (L.member m) in
      let F = full_matrices G group chosen S M positive v D in
      let full = full_matrices-is_full G group chosen S M positive v D in
      multiplicity_at_order G group chosen s M positive A (member_part S L m q) S L complete ordered m refl refl v F
      full
      (part-dimension G group chosen S M positive v D F full A is_representation has_diagonal places B part q h)

  module _ (Z : Stars s G M A) (c : StarLists positive Z) {n : ℕ} (parts : Fin n → Part)
      (are : ArePartsOfStars c parts) where
    -- a part at the wave vector of a star is that of a member there
    at_star : (p : Part) → IsMultiplicity s G positive A p → (i : Fin Z.count) → Z.wave i ≡ p.wave
        → (m : Fin (c.list i).count) × (p ≡ star_part c i m)
    at_star p a i same = (
      m,
      one_part G group chosen s M positive A is_representation has_diagonal p
          (star_part c i m) a (c.multiplicity i m) (sym same) label,
    )
      where
        found : IsMultiplicity s G positive A (part_of (Z.wave i) p.label p.mult p.dim)
        found = subst (λ k. IsMultiplicity s G positive A (part_of k p.label p.mult p.dim)) (sym same) a

        counts : (c.list i).count ≡ found.list.count
        counts = same_count G group chosen (Z.star i) found.star (c.list i) found.list (c.complete i) (c.ordered i)
            found.is_complete found.in_order

        below : to_nat found.member < (c.list i).count
        below = subst (λ b. to_nat found.member < b) (sym counts) (to_nat-lt found.member)

        m : Fin (c.list i).count
        m = from_nat (c.list i).count (to_nat found.member) below

        label : p.label ≡ suc (to_nat (from_nat (c.list i).count (to_nat found.member) below))
        label = found.label ∙ ap suc (sym (to_nat-from_nat (c.list i).count (to_nat found.member) below))

    -- the star of a part that occurs
    star_of : (p : Part) → IsRepresentative G p.wave → IsMultiplicity s G positive A p → 0 < p.mult
        → (i : Fin Z.count) × (Z.wave i ≡ p.wave)
    star_of p least a occurs = elim (all_or_one Z.count (λ i. Z.wave i ≡ p.wave → ⊥) (λ i. Z.wave i ≡ p.wave)
        (λ i. elim (same_wave_or_not (Z.wave i) p.wave) [ inl same ↦ inr same | inr other ↦ inl other ])) [
          | inl none ↦ absurd (occurring G group chosen s M positive A is_representation has_diagonal Z p a occurs
              (λ (i, h). none i (same_representative G group (Z.wave i) p.wave (c.representative i) least h)))
          | inr found ↦ found
        ]

    listed : (p : Part) → 0 < p.mult → (i : Fin Z.count) → (m : Fin (c.list i).count) × (p ≡ star_part c i m)
        → (t : Fin n) × (parts t ≡ p)
    listed p occurs i (m, same) =
        let found = are.all i m (subst (λ (q : Part). 0 < q.mult) same occurs) in
        (found.0, found.1 ∙ sym same)

    pub parts_of_stars : ArePartsOf s G positive A parts
    parts_of_stars = record {
      representative = λ t. subst (λ (p : Part). IsRepresentative G p.wave) (sym (are.from_star t).2)
          (c.representative (are.from_star t).0);
      multiplicity = λ t. subst (IsMultiplicity s G positive A) (sym (are.from_star t).2)
          (c.multiplicity (are.from_star t).0 (are.from_star t).1);
      occurs = are.occurs;
      all = λ p least a occurs. let i = star_of p least a occurs in listed p occurs i.0 (at_star p a i.0 i.1);
      ordered = are.ordered;
    }
