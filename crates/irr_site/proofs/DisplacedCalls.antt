-- The call on the displacements of a site.
--   displaced_asked      what `parts_of` asks for
--   displaced_made       what is made of the answer
use Rattle.std.proofs.Common.{◌≡◌, sym, ◌∙◌, ap, subst, refl, ℕ, ◌*◌, ◌<◌, ◌≤◌, List, length, get_or, slice_index, Vec, arith}
use Rattle.std.specs.Prelude.{Option}
use Rattle.std.specs.Global.{Global}
use Rattle.std.proofs.lemmas.List.{get_or_default}
use Rattle.irr_algebra.specs.Fin.{Fin, to_nat}
use Rattle.irr_algebra.specs.Matrix.{trace}
use Rattle.irr_algebra.proofs.Indices.{to_nat-lt}
use Rattle.irr_number.specs.Number.{Number, numbers}
use Rattle.irr_rational.specs.Integer.{whole_matrix}
use Rattle.irr_space.specs.Operation.{Operation, Vector, WaveVector}
use Rattle.irr_seitz.specs.declared.op.Op.{Op}
use Rattle.irr_rep.specs.Twisted.{operation_places, phase_table, place_count}
use Rattle.irr_rep.specs.declared.table.Twisted.{Twisted}
use Rattle.irr_close.specs.declared.group.Group.{Group}
use Rattle.irr_little.specs.Places.{IsLittlePlace}
use Rattle.irr_little.specs.Table.{listed_operations}
use Rattle.irr_mult.specs.declared.star.SmallCharacter.{SmallCharacter}
use Rattle.irr_site.specs.Families.{AreFamilyParts, Frame, HasRows, IsFamilyRow}
use Rattle.irr_site.specs.FamilyParts.{IsDisplacedPart}
use Rattle.irr_site.specs.Products.{rotation_at}
use Rattle.irr_site.specs.Traces.{AreSumsOf, number_at}
use Rattle.irr_site.specs.declared.part.SiteParts.{SiteParts}
use Rattle.irr_site.specs.declared.rest.Rest.{Rest}
use Rattle.irr_site.proofs.FrameFits.{listed_all, repeated, repeated-at}
use Rattle.irr_site.proofs.FrameParts.{displaced_family, displaced_part, displaced_row, few_rows, part_row}
use Rattle.irr_site.proofs.SiteGroups.{get_same}

module _ {S : Type 0} {order : S → ℕ} {value : (n : ℕ) → S → Number n} {group : Group} {x : Vector} {k : WaveVector}
    {n : ℕ} {t : Twisted} {small : List (SmallCharacter S)} {rows : List (Vec (Option Rest) Global)}
    {cs : List (SmallCharacter S)} {sites : ℕ} (f : Frame order value group x k n t small rows cs sites)
    (places : ℕ) (same : f.orbit.places ≡ places) where
  -- the trace of the rotation at a place of the little group
  abbrev turned : ℕ → Op → Number n
  turned i d = trace (whole_matrix (numbers n) (rotation_at group (slice_index (operation_places t) i) d))

  abbrev row : ℕ → List (Number n)
  row i = repeated places (turned i f.none)

  below : (i : ℕ) → i < place_count t → slice_index (operation_places t) i < length group.ops.items
  below i l = listed_all (IsLittlePlace group k) (length group.ops.items) (operation_places t) f.little.places i 0
      (subst (λ m. i < m) f.little.count l)

  rows_are : (i p : ℕ) (d : Op) → i < place_count t → p < places → number_at n (row i) p ≡ turned i d
  rows_are i p d l m = repeated-at places p (turned i f.none) (numbers n).zero m
      ∙ ap (λ (g : Operation). trace (whole_matrix (numbers n) g.rotation)) (get_same group (slice_index (operation_places t) i) f.none d (below i l))

  reads : (i : Fin (place_count t)) (l : Fin f.orbit.places) → number_at n (row (to_nat i)) (to_nat l)
      ≡ trace (whole_matrix (numbers n) (listed_operations group (place_count t) (operation_places t) f.none i).rotation)
  reads i l = repeated-at places (to_nat l) (turned (to_nat i) f.none) (numbers n).zero (subst (λ m. to_nat l < m) same (to_nat-lt l))

  module _ (xs : List S) (sums : (row : ℕ → List (Number n))
      → ((i p : ℕ) (d : Op) → i < place_count t → p < places → number_at n (row i) p
      ≡ trace (whole_matrix (numbers n) (rotation_at group (slice_index (operation_places t) i) d)))
      → AreSumsOf order value n row rows xs) where
    pub displaced_asked : (M : ℕ) × (has : HasRows order value M (phase_table t) small)
        × IsFamilyRow order value (phase_table t) M has.divides xs
    displaced_asked = (
      n,
      f.small_rows,
      part_row f (displaced_family f) xs (few_rows f 3 (omega arith)) (displaced_row f row reads xs (sums row rows_are)),
    )

    pub displaced_made : (p : SiteParts) → p.label ≡ 0 → p.dim ≡ sites * 3
        → AreFamilyParts order value (phase_table t) small xs p.parts.items → IsDisplacedPart f p
    displaced_made = displaced_part f row reads xs (sums row rows_are)
