-- The first operations.
use Rattle.std.proofs.Common.{ℕ, ◌≡◌, ◌<◌, length, get_or, slice_index}
use Rattle.irr_seitz.specs.declared.op.Op.{Op}
use Rattle.irr_top.proofs.report.operations.Given as goal

abbrev pub invariant-loop-i : goal.invariant-loop-i
invariant-loop-i l = record {
  count : length l.ops.items ≡ l.i;
  ops : (a : ℕ) (d : Op) → a < l.i → get_or l.ops.items a d ≡ get_or l.group.ops.items (slice_index l.t.places.items a) d;
}
