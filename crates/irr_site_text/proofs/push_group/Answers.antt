use Rattle.std.proofs.Common.{◌∙◌, ap, ℕ, List, ◌++◌}
use Rattle.std.specs.Prelude.{codes}
use Rattle.irr_seitz.specs.OperationMeaning.{operation}
use Rattle.irr_report.specs.Printed.{numbered, operation_text}
use Rattle.irr_site_text.specs.SiteText.{operation_line}
use Rattle.irr_site_text.proofs.Texts.{counted_parts}
use Rattle.irr_site_text.proofs.push_group.Goals as goal

pub returns : goal.returns
returns c = c.in_ok-push_operations.ensures ∙ ap (λ (t : List ℕ). t ++ numbered operation_text 1 c.args.ops.now)
    (c.in_ok-extend_from_slice.ensures.items
    ∙ ap (λ (t : List ℕ). c.args.text.now.items ++ t) (c.as_bytes.ensures.value ∙ c.in_ok-format.ensures.ok))
    ∙ counted_parts operation operation_line c.args.text.now.items (codes "ops ") c.args.ops.now
