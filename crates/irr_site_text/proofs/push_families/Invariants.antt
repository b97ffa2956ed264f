-- The lines so far.
use Rattle.std.proofs.Common.{◌≡◌, ◌++◌, take}
use Rattle.irr_report.specs.Printed.{numbered}
use Rattle.irr_site.specs.Content.{family_content}
use Rattle.irr_site.specs.declared.part.SiteParts.{SiteParts}
use Rattle.irr_site_text.specs.SiteText.{induced_lines}
use Rattle.irr_site_text.proofs.push_families.Given as goal

abbrev pub invariant-loop-i : goal.invariant-loop-i
invariant-loop-i l = l.text.items ≡ l.fn.text.items ++ numbered (λ k (f : SiteParts). induced_lines k (family_content f)) 1 (take l.i l.families)
