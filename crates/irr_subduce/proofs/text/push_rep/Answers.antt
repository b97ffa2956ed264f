-- The line of the entry, and those of its parts.
use Rattle.std.proofs.Common.{◌≡◌, ◌∙◌, ap, ap₂, ℕ, List, ◌++◌, map}
use Rattle.std.specs.Fmt.{decimal}
use Rattle.std.specs.List.{flat_map}
use Rattle.irr_mult.specs.StarParts.{part_of}
use Rattle.irr_mult.specs.declared.part.Part.{Part}
use Rattle.irr_subduce.specs.SubduceText.{label_word, part_line}
use Rattle.irr_text.specs.ReportText.{line, next_word}
use Rattle.std.specs.Prelude.{codes}
use Rattle.irr_subduce.proofs.Texts.{end_parts, rep_parts}
use Rattle.irr_subduce.proofs.text.push_rep.Goals as goal

pub returns : goal.returns
returns c =
    let rep = c.args.rep.now in
    let before = c.args.text.now.items in
    c.in_ok-push_parts.ensures ∙ ap₂ (λ (t : List ℕ) (xs : List Part). t ++ flat_map part_line (map part_of xs))
    (c.in_ok-extend_from_slice.ensures.items
    ∙ ap (λ (t : List ℕ). before ++ t) (c.as_bytes.ensures.value ∙ c.in_ok-format.ensures.ok)
    ∙ rep_parts before (decimal rep.label) (decimal rep.dim)) c.deref.ensures.value
    ∙ end_parts before (line (codes "rep" ++ label_word rep.label ++ next_word (codes "dim") ++ next_word (decimal rep.dim)))
    (flat_map part_line (map part_of rep.parts.items))
