-- The characters of the first members.
use Rattle.std.proofs.Common.{◌≡◌, ℕ, ◌<◌, get_or, length}
use Rattle.std.specs.Int.{◌∣◌}
use Rattle.irr_theory.specs.Representations.{Representations}
use Rattle.irr_space.specs.PhaseTable.{PhaseTable, phases_at}
use Rattle.irr_climb.specs.Families.{AreRead}
use Rattle.irr_mult.specs.declared.star.SmallCharacter.{SmallCharacter}
use Rattle.irr_mult.proofs.StarFacts.{IsCharacterAt}
use Rattle.irr_site.proofs.characters.small_characters.Given as goal

abbrev pub invariant-loop-family : goal.invariant-loop-family
invariant-loop-family g l = (length l.characters.items ≡ l.family-index)
    × ((h : ℕ) (T : PhaseTable h) (v : T.order ∣ T.order) (L : Representations (phases_at T))
    → AreRead T.order (phases_at T) L l.families
    → (j : ℕ) (e : SmallCharacter g.row.S.Denot) → j < l.family-index
    → IsCharacterAt g.S.Scalar.order_of g.S.Scalar.value T T.order v L j (get_or l.characters.items j e))
