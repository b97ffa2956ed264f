-- The lines so far.
use Rattle.std.proofs.Common.{◌≡◌, ◌++◌, map, take}
use Rattle.std.specs.List.{flat_map}
use Rattle.irr_subduce.specs.Restrictions.{rep_content}
use Rattle.irr_subduce.specs.SubduceText.{rep_lines}
use Rattle.irr_subduce.proofs.text.push_reps.Given as goal

abbrev pub invariant-loop-rep : goal.invariant-loop-rep
invariant-loop-rep l = l.text.items ≡ l.fn.text.items ++ flat_map rep_lines (map rep_content (take l.rep-index l.reps))
