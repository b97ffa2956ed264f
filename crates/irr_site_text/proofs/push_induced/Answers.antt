use Rattle.std.proofs.Common.{◌∙◌, ap, ℕ, List, ◌++◌}
use Rattle.std.specs.Prelude.{codes}
use Rattle.irr_report.specs.Printed.{numbered}
use Rattle.irr_site.specs.Content.{family_content}
use Rattle.irr_site.specs.declared.part.SiteParts.{SiteParts}
use Rattle.irr_site_text.specs.SiteText.{induced_lines}
use Rattle.irr_site_text.proofs.Texts.{counted_parts}
use Rattle.irr_site_text.proofs.push_induced.Goals as goal

pub returns : goal.returns
returns c = c.in_ok-push_families.ensures
    ∙ ap (λ (t : List ℕ). t ++ numbered (λ k (f : SiteParts). induced_lines k (family_content f)) 1 c.args.families.now)
    (c.in_ok-extend_from_slice.ensures.items
    ∙ ap (λ (t : List ℕ). c.args.text.now.items ++ t) (c.as_bytes.ensures.value ∙ c.in_ok-format.ensures.ok))
    ∙ counted_parts family_content induced_lines c.args.text.now.items (codes "reps ") c.args.families.now
