-- The first place of a table.
--   start_is_identity      the operation of the first place of the table of a little group is the identity
use Rattle.std.proofs.Common.{◌≡◌, sym, ◌∙◌, ap, ℕ}
use Rattle.irr_algebra.specs.Fin.{Fin}
use Rattle.irr_space.specs.Operation.{Operation, WaveVector, ◌⊙◌, identity, translation, IsInverse}
use Rattle.irr_space.specs.Reciprocal.{Sign}
use Rattle.irr_space.specs.CanonicalOperation.{IsNumbering}
use Rattle.irr_space.specs.Star.{IsInLittleGroup}
use Rattle.irr_space.specs.PhaseTable.{PhaseTable, IsTableOf}
use Rattle.irr_cocycle.specs.SpaceGroupLaws.{IsGroup}
use Rattle.irr_full.proofs.StarLaws.{canonical_unit}
use Rattle.irr_cocycle.proofs.Operations.{op-assoc, op-identity, rotation-translation}

-- g = e where g f = e f
pub right_cancel : (g e f i : Operation) → IsInverse f i → g ⊙ f ≡ e ⊙ f → g ≡ e
right_cancel g e f i inverse p = sym (op-identity g) ∙ ap (λ y. g ⊙ y) (sym inverse.right) ∙ sym (op-assoc g f i) ∙ ap (λ y. y ⊙ i) p ∙ op-assoc e f i ∙ ap (λ y. e ⊙ y) inverse.right ∙ op-identity e

module _ (G : Operation → Type 0) (group : IsGroup G) where
  pub start_is_identity : (s : Sign) (k : WaveVector) {h : ℕ} (ops : Fin h → Operation) → IsNumbering G (IsInLittleGroup G k) ops → (T : PhaseTable h) → IsTableOf s G k ops T → ops T.start ≡ identity
  start_is_identity s k ops numbering T table = canonical_unit G group (ops T.start) (numbering.canonical T.start)
      (ap (λ (f : Operation). f.rotation) is_translation ∙ rotation-translation (table.quotient T.start T.start))
    where
      is_translation : ops T.start ≡ translation (table.quotient T.start T.start)
      is_translation = let f = group.has_inverse (ops T.start) (numbering.member T.start).member in
          right_cancel (ops T.start) (translation (table.quotient T.start T.start)) (ops T.start) f.0 f.2
          (table.products T.start T.start ∙ ap (λ l. translation (table.quotient T.start T.start) ⊙ ops l) (T.start-product T.start))
