-- Why there is no list of small representations.
--   IsRefusal T error        what an error shows
use Rattle.irr_space.specs.PhaseTable.{PhaseTable}
use Rattle.std.specs.Prelude.{ℕ}
use Rattle.irr_chain.specs.NormalSubgroup.{IsUnchained}
use Rattle.irr_climb.specs.declared.complete.ClimbError.{ClimbError}
use Rattle.irr_climb.specs.declared.complete.ClimbError.TheVariants.{Unchained, Memory}

-- the list of a refusal has no step
abbrev pub IsRefusal : {h : ℕ} (T : PhaseTable h) → ClimbError → Type 0
IsRefusal T (Unchained members) = IsUnchained T members.items
IsRefusal T Memory = Unit {0}
