-- The images so far are in the group.
use Rattle.std.proofs.Common.{ℕ, ◌<◌}
use Rattle.std.specs.List.{HoldsAt}
use Rattle.irr_seitz.specs.OperationMeaning.{operation}
use Rattle.irr_subduce.specs.Subgroup.{HasImage}
use Rattle.irr_subduce.proofs.images.first_outside.Given as goal

abbrev pub invariant-loop-i : goal.invariant-loop-i
invariant-loop-i l = (j : ℕ) → j < l.i → HoldsAt (λ g. HasImage l.group l.setting (operation g)) l.gens j
