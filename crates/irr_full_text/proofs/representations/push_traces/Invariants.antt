-- The traces so far.
use Rattle.std.proofs.Common.{◌≡◌, ◌++◌, take}
use Rattle.std.specs.Prelude.{codes}
use Rattle.std.specs.List.{flat_map}
use Rattle.irr_full_text.specs.Lines.{trace_word}
use Rattle.irr_full_text.specs.Reading.{Reading}
use Rattle.irr_full_text.proofs.representations.push_traces.Given as goal

abbrev pub invariant-loop-op : goal.invariant-loop-op
invariant-loop-op g l = (e : Reading l.full) → l.text.items ≡ (l.fn.text.items ++ codes "char")
    ++ flat_map (trace_word e.number e.matrix) (take l.op-index l.ops)
