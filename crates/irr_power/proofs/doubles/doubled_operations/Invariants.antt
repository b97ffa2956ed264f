-- The squares so far.
use Rattle.std.proofs.Common.{get_or, ℕ}
use Rattle.irr_seitz.specs.OperationMeaning.{operation}
use Rattle.irr_seitz.specs.declared.op.Op.{Op}
use Rattle.irr_close.specs.StandsFor.{stands_for}
use Rattle.irr_star.specs.Sizes.{HasSmallVector}
use Rattle.irr_side.specs.ArmTraces.{AreEach}
use Rattle.irr_power.specs.Doubles.{IsDouble}
use Rattle.irr_power.proofs.doubles.doubled_operations.Given as goal

abbrev pub invariant-loop-place : goal.invariant-loop-place
invariant-loop-place l = AreEach (λ p (x : Op). (stands_for l.group (operation x) × HasSmallVector x)
    × ((n : ℕ) → IsDouble l.group (get_or l.places p n) x)) l.place-index l.squares.items
