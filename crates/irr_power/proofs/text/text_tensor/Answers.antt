-- The parts of the text, one after another.
use Rattle.std.proofs.Common.{◌∙◌, ap, ap₂, ℕ, List, ◌++◌, map}
use Rattle.std.specs.Prelude.{codes}
use Rattle.std.specs.Fmt.{decimal}
use Rattle.std.specs.List.{flat_map}
use Rattle.irr_text.specs.ReportText.{line, next_word}
use Rattle.irr_seitz.specs.PhaseMeaning.{sign_of}
use Rattle.irr_heading.specs.Heading.{heading}
use Rattle.irr_input.specs.Command.{form_word}
use Rattle.irr_mult.specs.StarParts.{part_of}
use Rattle.irr_mult.specs.declared.part.Part.{Part}
use Rattle.irr_product.specs.ProductText.{part_line}
use Rattle.irr_power.proofs.SquareTexts.{size_parts}
use Rattle.irr_power.proofs.text.text_tensor.Goals as goal

pub returns : goal.returns
returns c =
    let first = heading (codes "tensor") c.args.version (sign_of c.args.phase) in
    let form = line (codes "form" ++ next_word (form_word c.args.form)) in
    let dim = c.args.tensor.now.dim in
    c.in_ok-extend_from_slice-2.ensures.items ∙ ap (λ (t : List ℕ). t ++ codes "end\n")
    (c.in_ok-push_parts.ensures ∙ ap₂ (λ (t : List ℕ) (xs : List Part). t ++ flat_map part_line (map part_of xs))
    (c.in_ok-extend_from_slice.ensures.items
    ∙ ap (λ (t : List ℕ). c.push_form.new.text.items ++ t) (c.as_bytes.ensures.value ∙ c.in_ok-format.ensures.ok)
    ∙ ap (λ (t : List ℕ). t ++ (codes "order " ++ (decimal c.args.order ++ (codes "\ndim " ++ (decimal dim ++ codes "\n")))))
    (c.in_ok-push_form.ensures ∙ ap (λ (t : List ℕ). t ++ form)
    (c.in_ok-push_heading.ensures ∙ ap (λ (t : List ℕ). t ++ first) c.new-text.ensures.items))
    ∙ size_parts (first ++ form) (decimal c.args.order) (decimal dim)) c.deref.ensures.value)
