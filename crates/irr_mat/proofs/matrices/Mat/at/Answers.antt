-- The entry stands at its place.
use Rattle.std.proofs.Common.{◌+◌, ◌*◌, sym}
use Rattle.std.proofs.lemmas.Option.{slice_get_read}
use Rattle.irr_mat.proofs.Entries.{entry-is, place-lt}
use Rattle.irr_mat.proofs.matrices.Mat.at.Goals as goal

pub returns-clause-entry : goal.returns-clause-entry
returns-clause-entry g c = λ n.
    let a = c.args.self.now in
    let i = c.args.i in
    let j = c.args.j in
    entry-is g.S.Scalar.value n a.rows a.cols a.entries.items i j c.index.result.now
    (slice_get_read a.entries.items (a.rows * a.cols) (i * a.cols + j) c.index.result.now (sym a.filled) (place-lt i a.cols j a.rows c.requires.row c.requires.column) c.index.ensures)
