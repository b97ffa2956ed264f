-- No place so far has the number.
use Rattle.std.proofs.Common.{◌≡◌, ◌<◌, ℕ, slice_index}
use Rattle.irr_rep.specs.Twisted.{operation_places}
use Rattle.irr_compat.proofs.turns.position.Given as goal

abbrev pub invariant-loop-place : goal.invariant-loop-place
invariant-loop-place l = (j : ℕ) → j < l.place → slice_index (operation_places l.table) j ≡ l.number → ⊥
