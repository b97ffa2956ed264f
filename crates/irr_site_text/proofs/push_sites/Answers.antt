use Rattle.std.proofs.Common.{◌∙◌, ap, ℕ, List, ◌++◌}
use Rattle.std.specs.Prelude.{codes}
use Rattle.irr_rat.specs.VectorMeaning.{vector}
use Rattle.irr_rat.specs.declared.vec3.Vec3.{Vec3}
use Rattle.irr_report.specs.Printed.{numbered}
use Rattle.irr_site_text.specs.SiteText.{site_line}
use Rattle.irr_site_text.proofs.Texts.{counted_parts}
use Rattle.irr_site_text.proofs.push_sites.Goals as goal

pub returns : goal.returns
returns c = c.in_ok-push_points.ensures
    ∙ ap (λ (t : List ℕ). t ++ numbered (λ k (x : Vec3). site_line k (vector x)) 1 c.args.points.now)
    (c.in_ok-extend_from_slice.ensures.items
    ∙ ap (λ (t : List ℕ). c.args.text.now.items ++ t) (c.as_bytes.ensures.value ∙ c.in_ok-format.ensures.ok))
    ∙ counted_parts vector site_line c.args.text.now.items (codes "sites ") c.args.points.now
