-- The group is that of the generators.
use Rattle.std.proofs.Common.{sym, subst, List}
use Rattle.std.specs.List.{All}
use Rattle.irr_seitz.specs.OperationMeaning.{operation}
use Rattle.irr_seitz.specs.declared.op.Op.{Op}
use Rattle.irr_triplet.specs.Readable.{IsReadable}
use Rattle.irr_top.proofs.tests.numbers.characters.Goals as goal

pub closed-requires : goal.closed-requires
closed-requires g c = record {
  readable = subst (λ (gs : List Op). All (λ x. IsReadable (operation x)) gs) (sym c.deref.ensures.value) c.in-Some.ensures;
}

pub small_text-requires-clause-group : goal.small_text-requires-clause-group
small_text-requires-clause-group g c = (c.deref.result.now, c.in-Some-closed.ensures)
