-- The line of each square, and those of its parts.
use Rattle.std.proofs.Common.{◌∙◌, ap, ap₂, ℕ, List, ◌++◌, map}
use Rattle.std.specs.Prelude.{codes}
use Rattle.std.specs.Fmt.{decimal}
use Rattle.std.specs.List.{flat_map}
use Rattle.irr_text.specs.ReportText.{line, next_word}
use Rattle.irr_mult.specs.StarParts.{part_of}
use Rattle.irr_mult.specs.declared.part.Part.{Part}
use Rattle.irr_product.specs.ProductText.{label_word, part_line}
use Rattle.irr_power.proofs.SquareTexts.{all_parts, antisymmetric_parts, symmetric_parts}
use Rattle.irr_power.proofs.text.push_square.Goals as goal

pub returns : goal.returns
returns c =
    let square = c.args.square.now in
    let before = c.args.text.now.items in
    let sym = line (codes "sym" ++ label_word square.label ++ next_word (codes "dim") ++ next_word (decimal square.sym_dim)) in
    let anti = line (codes "anti" ++ label_word square.label ++ next_word (codes "dim") ++ next_word (decimal square.anti_dim)) in
    c.in_ok-push_parts-2.ensures ∙ ap₂ (λ (t : List ℕ) (xs : List Part). t ++ flat_map part_line (map part_of xs))
    (c.in_ok-extend_from_slice-2.ensures.items
    ∙ ap (λ (t : List ℕ). c.push_parts.new.text.items ++ t) (c.as_bytes-2.ensures.value ∙ c.in_ok-format-2.ensures.ok)
    ∙ antisymmetric_parts c.push_parts.new.text.items (decimal square.label) (decimal square.anti_dim)
    ∙ ap (λ (t : List ℕ). t ++ anti)
    (c.in_ok-push_parts.ensures ∙ ap₂ (λ (t : List ℕ) (xs : List Part). t ++ flat_map part_line (map part_of xs))
    (c.in_ok-extend_from_slice.ensures.items
    ∙ ap (λ (t : List ℕ). before ++ t) (c.as_bytes.ensures.value ∙ c.in_ok-format.ensures.ok)
    ∙ symmetric_parts before (decimal square.label) (decimal square.sym_dim)) c.deref.ensures.value))
    c.deref-2.ensures.value
    ∙ all_parts before sym (flat_map part_line (map part_of square.sym.items)) anti (flat_map part_line (map part_of square.anti.items))
