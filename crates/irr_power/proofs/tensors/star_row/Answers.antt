-- The operations have small entries.
use Rattle.std.proofs.Common.{sym, subst, List}
use Rattle.std.specs.List.{All}
use Rattle.irr_seitz.specs.OperationMeaning.{operation}
use Rattle.irr_seitz.specs.Rotation.{IsWithin}
use Rattle.irr_seitz.specs.declared.op.Op.{Op}
use Rattle.irr_power.specs.FormTraces.{IsFormRow}
use Rattle.irr_power.proofs.FormSpaces.{within_nine}
use Rattle.irr_power.proofs.tensors.star_row.Goals as goal

pub form_row-requires-clause-within : goal.form_row-requires-clause-within
form_row-requires-clause-within g c = subst (λ (os : List Op). All (λ o. IsWithin 9 (operation o).rotation) os) (sym c.as_slice.ensures.value)
    (λ n d l. within_nine c.args.group.now _ (c.in_ok-ops.ensures.members n d l).0)

pub returns : goal.returns
returns g c = record {
  ops = c.in_ok-ops.ops.items;
  numbering = c.in_ok-ops.ensures.numbering;
  is_row = subst (λ (os : List Op). IsFormRow g.S.Scalar.order_of g.S.Scalar.value c.args.order.now.n c.args.form os c.in_ok-row.row.items)
      c.as_slice.ensures.value c.in_ok-row.ensures;
}
