-- The parts of the text, one after another.
use Rattle.std.proofs.Common.{◌∙◌, ap, ap₂, List, ℕ, ◌++◌, map}
use Rattle.std.specs.Prelude.{codes}
use Rattle.irr_rat.specs.VectorMeaning.{vector}
use Rattle.irr_rat.specs.declared.vec3.Vec3.{Vec3}
use Rattle.irr_seitz.specs.OperationMeaning.{operation}
use Rattle.irr_seitz.specs.declared.op.Op.{Op}
use Rattle.irr_seitz.specs.PhaseMeaning.{sign_of}
use Rattle.irr_heading.specs.Heading.{heading}
use Rattle.irr_kvec.specs.WaveMeaning.{wave_vector}
use Rattle.irr_site.specs.Content.{family_content}
use Rattle.irr_site.specs.declared.part.SiteParts.{SiteParts}
use Rattle.irr_site_text.specs.SiteText.{displacement_lines, family_lines, first_lines, operation_lines, site_lines}
use Rattle.irr_site_text.proofs.text_site.Goals as goal

pub returns : goal.returns
returns c =
    let sites = c.args.sites.now in
    let head = heading (codes "site") c.args.version (sign_of c.args.phase) in
    let first = first_lines c.args.order (wave_vector c.args.wave.now) (vector c.args.x.now) in
    c.in_ok-extend_from_slice.ensures.items ∙ ap (λ (t : List ℕ). t ++ codes "end\n")
    (c.in_ok-push_displacement.ensures ∙ ap (λ (t : List ℕ). t ++ displacement_lines (family_content sites.displace))
    (c.in_ok-push_induced.ensures ∙ ap₂ (λ (t : List ℕ) (fs : List SiteParts). t ++ family_lines (map family_content fs))
    (c.in_ok-push_sites.ensures ∙ ap₂ (λ (t : List ℕ) (xs : List Vec3). t ++ site_lines (map vector xs))
    (c.in_ok-push_group.ensures ∙ ap₂ (λ (t : List ℕ) (ops : List Op). t ++ operation_lines (map operation ops))
    (c.in_ok-push_first.ensures ∙ ap (λ (t : List ℕ). t ++ first)
    (c.in_ok-push_heading.ensures ∙ ap (λ (t : List ℕ). t ++ head) c.new-text.ensures.items))
    c.deref.ensures.value) c.deref-2.ensures.value) c.deref-3.ensures.value))
