-- Lists put together, and the parts of a representation on a line.
--   gathered n f             the lists f i, one after another
--   part_of j q d            the part of the member j, of d rows, that stands q times: none where q is 0
--   parts_of q size          the parts of the members of these sizes, which stand q times, by label
--   AreCharactersOn .. T L cs   cs are the sizes and the characters of the members of the list L, each of at most 48 rows
use Rattle.std.specs.Prelude.{ℕ, zero, suc, ◌≡◌, ◌≤◌, List, [], ◌∷◌, ◌++◌, length, slice_index_or}
use Rattle.irr_algebra.specs.Fin.{Fin, to_nat}
use Rattle.irr_algebra.specs.Fin.Fin.{first, next}
use Rattle.irr_algebra.specs.Matrix.{trace}
use Rattle.irr_number.specs.Number.{Number}
use Rattle.irr_theory.specs.Representations.{Representations}
use Rattle.irr_space.specs.PhaseTable.{PhaseTable, phases_at}
use Rattle.irr_char.specs.Characters.{IsRowOf}
use Rattle.irr_mult.specs.declared.star.SmallCharacter.{SmallCharacter}
use Rattle.irr_compat.specs.declared.table.LinePart.{LinePart}

unfoldable pub gathered : {X : Type 0} (n : ℕ) → (Fin n → List X) → List X
gathered zero f = []
gathered (suc n) f = f first ++ gathered n (λ i. f (next i))

unfoldable pub part_of : ℕ → ℕ → ℕ → List LinePart
part_of j zero d = []
part_of j (suc q) d = record { label = suc j; mult = suc q; dim = d } ∷ []

abbrev pub parts_of : {n : ℕ} → (Fin n → ℕ) → (Fin n → ℕ) → List LinePart
parts_of {n} q size = gathered n (λ j. part_of (to_nat j) (q j) (size j))

pub record AreCharactersOn {S : Type 0} (order : S → ℕ) (value : (n : ℕ) → S → Number n) {h : ℕ} (T : PhaseTable h)
    (L : Representations (phases_at T)) (cs : List (SmallCharacter S)) : Type 0 where
  pub count : length cs ≡ L.count
  pub few : L.count ≤ 48
  pub small : (m : Fin L.count) → L.size m ≤ 48
  pub size : (m : Fin L.count) (e : SmallCharacter S) → (slice_index_or cs (to_nat m) e).dim ≡ L.size m
  pub row : (m : Fin L.count) (e : SmallCharacter S) → IsRowOf {h = h} order value T.order
      (λ i. trace ((L.member m).at i)) (slice_index_or cs (to_nat m) e).row.items
