-- The operations are those on the lines.
use Rattle.std.proofs.Common.{sym, subst, List}
use Rattle.std.specs.List.{All}
use Rattle.std.proofs.lemmas.List.Elements.{All-map}
use Rattle.irr_seitz.specs.OperationMeaning.{operation}
use Rattle.irr_seitz.specs.declared.op.Op.{Op}
use Rattle.irr_triplet.specs.Readable.{IsReadable}
use Rattle.irr_input.specs.declared.input.GenLine.{GenLine}
use Rattle.irr_top.proofs.tests.numbers.listed.Goals as goal

pub returns-in-Ok : goal.returns-in-Ok
returns-in-Ok c = subst (λ (gs : List Op). All (λ x. IsReadable (operation x)) gs) (sym c.in-Ok.ensures)
    (All-map (λ x. IsReadable (operation x)) (λ (g : GenLine). g.op) c.args.lines.now c.requires.readable)
