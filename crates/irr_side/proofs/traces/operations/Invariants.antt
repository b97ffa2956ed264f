-- The operations so far.
use Rattle.std.proofs.Common.{◌≡◌, get_or, slice_index}
use Rattle.irr_seitz.specs.declared.op.Op.{Op}
use Rattle.irr_side.specs.ArmTraces.{AreEach}
use Rattle.irr_side.proofs.traces.operations.Given as goal

abbrev pub invariant-loop-place : goal.invariant-loop-place
invariant-loop-place l = AreEach (λ n (o : Op). (d : Op) → o ≡ get_or l.group.ops.items (slice_index l.place-items n) d)
    l.place-index l.listed.items
