-- One more line.
use Rattle.std.proofs.Common.{◌∙◌}
use Rattle.irr_report.proofs.Pieces.{numbered_none, numbered_step}
use Rattle.irr_site.specs.Content.{family_content}
use Rattle.irr_site.specs.declared.part.SiteParts.{SiteParts}
use Rattle.irr_site_text.specs.SiteText.{induced_lines}
use Rattle.irr_site_text.proofs.push_families.Goals as goal

pub loop-i-init : goal.loop-i-init
loop-i-init c = numbered_none (λ k (f : SiteParts). induced_lines k (family_content f)) c.args.text.now.items

pub loop-i-preserved : goal.loop-i-preserved
loop-i-preserved c = c.in_ok-push_family.ensures ∙ numbered_step (λ k (f : SiteParts). induced_lines k (family_content f)) c.args.text.now.items c.loop-i.text.items
    c.args.families.now c.loop-i.i c.index-families-i.result c.loop-i-test.true c.index-families-i.is c.loop-i.invariant
