-- The lines so far.
use Rattle.std.proofs.Common.{◌≡◌, ◌++◌, map, take}
use Rattle.std.specs.List.{flat_map}
use Rattle.irr_mult.specs.StarParts.{part_of}
use Rattle.irr_subduce.specs.SubduceText.{part_line}
use Rattle.irr_subduce.proofs.text.push_parts.Given as goal

abbrev pub invariant-loop-part : goal.invariant-loop-part
invariant-loop-part l = l.text.items ≡ l.fn.text.items ++ flat_map part_line (map part_of (take l.part-index l.parts))
