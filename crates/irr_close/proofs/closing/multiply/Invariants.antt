-- The list has grown from the one that was lent, and has the products with the generators so far.
use Rattle.irr_seitz.specs.OperationMeaning.{operation}
use Rattle.irr_close.specs.Closing.{HasProducts, IsPartial, IsLonger}
use Rattle.irr_close.proofs.closing.multiply.Given as goal

abbrev pub invariant-loop-generator : goal.invariant-loop-generator
invariant-loop-generator l = record {
  longer : IsLonger l.fn.ops.items l.ops.items;
  partial : IsPartial l.generators l.ops.items;
  products : HasProducts l.ops.items (operation l.op).rotation l.generators l.generator-index;
}
