-- The text of tensors.
use Rattle.std.proofs.Common.{◌≡◌, subst}
use Rattle.irr_seitz.specs.PhaseMeaning.{sign_of}
use Rattle.irr_close.specs.StandsFor.{stands_for}
use Rattle.irr_power.specs.Tensors.{origin, tensor_entry}
use Rattle.irr_power.specs.TensorText.{tensor_text}
use Rattle.irr_top.proofs.SquareTexts.{not_refused}
use Rattle.irr_top.proofs.TensorTexts.{tensor_text_at}
use Rattle.irr_top.proofs.tensor.tensors_text.Goals as goal

pub unreachable-requires : goal.unreachable-requires
unreachable-requires c =
    let r = rw c.in-Err-OrderTooLarge.field-0-is at c.in-Err-OrderTooLarge.ensures.refused in
    absurd (not_refused (stands_for c.args.group.now) origin c.args.order c.requires.order c.requires.within r)

pub returns-in_ok-text-in-Ok : goal.returns-in_ok-text-in-Ok
returns-in_ok-text-in-Ok c = tensor_text_at c.args.group.now c.args.form c.args.order c.requires.order c.in-Ok.tensor c.in-Ok.ensures.tensor
    c.in_ok-text-in-Ok.text.items
    (subst (λ p. c.in_ok-text-in-Ok.text.items ≡ tensor_text 1 (sign_of p) record {
      form = c.args.form;
      order = c.args.order;
      tensor = tensor_entry c.in-Ok.tensor;
    }) c.phase.ensures c.in_ok-text-in-Ok.ensures)
