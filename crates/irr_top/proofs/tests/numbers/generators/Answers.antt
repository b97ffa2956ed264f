-- Each order up to the limit is admitted, and what was read is readable.
use Rattle.std.proofs.Common.{sym, subst, List}
use Rattle.std.specs.List.{All}
use Rattle.irr_seitz.specs.OperationMeaning.{operation}
use Rattle.irr_triplet.specs.Readable.{IsReadable}
use Rattle.irr_input.specs.declared.input.GenLine.{GenLine}
use Rattle.irr_top.proofs.tests.numbers.generators.Goals as goal

pub read_input-requires : goal.read_input-requires
read_input-requires g c = g.met.S.Lift.admits_each

pub listed-requires : goal.listed-requires
listed-requires g c = record {
  readable = subst (λ (gs : List GenLine). All (λ x. IsReadable (operation x.op)) gs) (sym c.deref.ensures.value) c.in-Ok.ensures.readable;
}
