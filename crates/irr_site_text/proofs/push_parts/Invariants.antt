-- The lines of the parts so far.
use Rattle.std.proofs.Common.{◌≡◌, ◌++◌, take}
use Rattle.std.specs.List.{flat_map}
use Rattle.irr_site_text.specs.SiteText.{part_line}
use Rattle.irr_site_text.proofs.push_parts.Given as goal

abbrev pub invariant-loop-part : goal.invariant-loop-part
invariant-loop-part l = l.text.items ≡ l.fn.text.items ++ flat_map part_line (take l.part-index l.parts)
