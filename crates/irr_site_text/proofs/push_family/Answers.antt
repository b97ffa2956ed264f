use Rattle.std.proofs.Common.{◌∙◌, ap, ap₂, ℕ, List, ◌++◌}
use Rattle.std.specs.Prelude.{codes, ◌∷◌}
use Rattle.std.specs.Fmt.{decimal}
use Rattle.std.specs.List.{flat_map}
use Rattle.irr_text.specs.ReportText.{line, next_word}
use Rattle.irr_site.specs.declared.part.SmallPart.{SmallPart}
use Rattle.irr_site_text.specs.SiteText.{part_line}
use Rattle.irr_site_text.proofs.Texts.{end_parts, family_parts}
use Rattle.irr_site_text.proofs.push_family.Goals as goal

pub returns : goal.returns
returns c =
    let family = c.args.family.now in
    let before = c.args.text.now.items in
    c.in_ok-push_parts.ensures ∙ ap₂ (λ (t : List ℕ) (xs : List SmallPart). t ++ flat_map part_line xs)
    (c.in_ok-extend_from_slice.ensures.items
    ∙ ap (λ (t : List ℕ). before ++ t) (c.as_bytes.ensures.value ∙ c.in_ok-format.ensures.ok)
    ∙ family_parts before (decimal c.args.number) (decimal family.dim)) c.deref.ensures.value
    ∙ end_parts before (line (codes "rep" ++ next_word (84 ∷ decimal c.args.number) ++ next_word (codes "dim")
    ++ next_word (decimal family.dim))) (flat_map part_line family.parts.items)
