-- The images so far.
use Rattle.std.proofs.Common.{get_or}
use Rattle.irr_seitz.specs.declared.op.Op.{Op}
use Rattle.irr_side.specs.ArmTraces.{AreEach}
use Rattle.irr_subduce.proofs.OperationImages.{IsMade}
use Rattle.irr_subduce.proofs.meetings.images.Given as goal

abbrev pub invariant-loop-op : goal.invariant-loop-op
invariant-loop-op l = AreEach (λ n (f : Op). (g : Op) → IsMade l.group l.sub (get_or l.op-items n g) f) l.op-index l.images.items
