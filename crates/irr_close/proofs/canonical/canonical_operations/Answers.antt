use Rattle.std.proofs.Common.{sym, subst, rules}
use Rattle.irr_space.specs.CanonicalOperation.{IsInCell}
use Rattle.irr_seitz.specs.OperationMeaning.{operation}
use Rattle.irr_seitz.specs.declared.op.Op.{Op}
use Rattle.irr_close.proofs.CanonicalLists.{more_canonical, canonical_small}
use Rattle.irr_close.proofs.canonical.canonical_operations.Goals as goal

pub canonical_operation-requires-clause-op : goal.canonical_operation-requires-clause-op
canonical_operation-requires-clause-op c = subst (λ (g : Op). IsInCell (operation g).vector) (sym c.op-item.is)
    (c.requires.ops c.loop-op.op-index c.op-item.result c.loop-op-test.true).in_cell

pub canonical_operation-requires-clause-small : goal.canonical_operation-requires-clause-small
canonical_operation-requires-clause-small c =
    (canonical_small c.args.ops.now c.args.centrings.now c.op-item.result c.loop-op.op-index c.requires.denominator c.loop-op-test.true
    c.op-item.is).0

pub canonical_operation-requires-clause-denominator : goal.canonical_operation-requires-clause-denominator
canonical_operation-requires-clause-denominator c =
    (canonical_small c.args.ops.now c.args.centrings.now c.op-item.result c.loop-op.op-index c.requires.denominator c.loop-op-test.true
    c.op-item.is).1

pub loop-op-preserved : goal.loop-op-preserved
loop-op-preserved c = more_canonical c.args.centrings.now c.args.ops.now c.loop-op.made.items c.push.new.self.items c.op-item.result
    c.canonical_operation.result c.loop-op.op-index c.loop-op.invariant c.loop-op-test.true c.op-item.is c.canonical_operation.ensures (search rules)
