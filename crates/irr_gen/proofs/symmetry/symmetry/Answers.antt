-- The rows are those of axes, and the vector is in quarters.
use Rattle.std.proofs.Common.{sym, subst, lit<}
use Rattle.irr_space.specs.CanonicalOperation.{IsInCell}
use Rattle.irr_gen.proofs.SignedRows.{rows_signed}
use Rattle.irr_gen.proofs.Quarters.{in_cell_of_numbers, quarters_of}
use Rattle.irr_gen.proofs.symmetry.symmetry.Goals as goal

pub returns-clause-signed : goal.returns-clause-signed
returns-clause-signed c = record {
  rows = rows_signed c.args.x c.args.y c.args.z c.row.result c.row-2.result c.row-3.result c.row.ensures c.row-2.ensures c.row-3.ensures;
  in_cell = subst IsInCell (sym c.new-shift.ensures) (in_cell_of_numbers c.args.quarters 4 (lit< tt) c.requires.first c.requires.second c.requires.third);
  quarters = quarters_of c.args.quarters c.new-shift.result.num c.new-shift.result.den c.new-shift.result.lowest c.new-shift.ensures;
}
