-- The sizes of the factors, and what the product keeps.
use Rattle.std.proofs.Common.{sym, ◌∙◌, ap, subst, ◌≤◌}
use Rattle.irr_algebra.specs.Fin.{Fin}
use Rattle.irr_space.specs.Operation.{Operation, Rotation, ◌⊙◌}
use Rattle.irr_seitz.specs.OperationMeaning.{operation}
use Rattle.irr_gen.specs.Signed.{row_size}
use Rattle.irr_gen.proofs.SignedRows.{small_entries, row-product}
use Rattle.irr_gen.proofs.Quarters.{few_quarters, small_numbers, quarters-product}
use Rattle.irr_gen.proofs.symmetry.product.Goals as goal

pub compose-made-requires-clause-entries : goal.compose-made-requires-clause-entries
compose-made-requires-clause-entries c = small_entries (operation c.args.op.now).rotation c.requires.left.rows

pub compose-made-requires-clause-other_entries : goal.compose-made-requires-clause-other_entries
compose-made-requires-clause-other_entries c = small_entries (operation c.args.other.now).rotation c.requires.right.rows

pub compose-made-requires-clause-denominator : goal.compose-made-requires-clause-denominator
compose-made-requires-clause-denominator c = λ m l. few_quarters c.args.op.now.den c.args.other.now.den m c.requires.left.quarters c.requires.right.quarters l

pub compose-made-requires-clause-numerators : goal.compose-made-requires-clause-numerators
compose-made-requires-clause-numerators c = small_numbers c.args.op.now c.requires.left

pub compose-made-requires-clause-other_numerators : goal.compose-made-requires-clause-other_numerators
compose-made-requires-clause-other_numerators c = small_numbers c.args.other.now c.requires.right

pub returns-clause-signed : goal.returns-clause-signed
unfolding ◌⊙◌
returns-clause-signed c = record {
  rows = subst (λ (R : Rotation). (i : Fin 3) → row_size R i ≤ 1)
      (sym (c.reduce.ensures.rotation ∙ ap (λ (g : Operation). g.rotation) c.compose-made.ensures))
      (row-product (operation c.args.op.now).rotation (operation c.args.other.now).rotation c.requires.left.rows c.requires.right.rows);
  in_cell = c.reduce.ensures.in_cell;
  quarters = quarters-product c.args.op.now c.args.other.now c.compose-made.result c.reduce.result c.requires.left c.requires.right c.compose-made.ensures
      c.reduce.ensures.whole;
}
