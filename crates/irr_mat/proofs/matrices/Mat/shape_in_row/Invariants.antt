-- No block stands in the row so far.
use Rattle.std.proofs.Common.{ℕ, ◌≡◌, ◌<◌, get_or, None}
use Rattle.irr_mat.proofs.matrices.Mat.shape_in_row.Given as goal

abbrev pub invariant-loop-part : goal.invariant-loop-part
invariant-loop-part g l = (b : ℕ) → b < l.part-index → get_or l.row b None ≡ None
