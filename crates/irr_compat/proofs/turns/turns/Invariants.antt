-- The turns so far.
use Rattle.std.proofs.Common.{◌≡◌, ◌<◌, ℕ, length, get_or}
use Rattle.irr_kvec.specs.WaveMeaning.{wave_vector}
use Rattle.irr_compat.specs.Turns.{IsTurn}
use Rattle.irr_compat.specs.declared.turns.Turn.{Turn}
use Rattle.irr_compat.proofs.turns.turns.Given as goal

abbrev pub invariant-loop-a : goal.invariant-loop-a
invariant-loop-a l = (length l.turns.items ≡ l.a)
    × ((j : ℕ) (t : Turn) → j < l.a → IsTurn l.group l.line l.table (wave_vector l.first) (wave_vector l.point) j (get_or l.turns.items j t))
