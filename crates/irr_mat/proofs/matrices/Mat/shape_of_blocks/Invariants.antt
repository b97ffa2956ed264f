-- No block stands in the rows so far.
use Rattle.std.proofs.Common.{ℕ, ◌≡◌, ◌<◌, map, None}
use Rattle.irr_mat.specs.Blocks.{part_at}
use Rattle.irr_mat.proofs.matrices.Mat.shape_of_blocks.Given as goal

abbrev pub invariant-loop-row : goal.invariant-loop-row
invariant-loop-row g l = (a b : ℕ) → a < l.row-index → part_at (map (λ row. row.items) l.parts) a b ≡ None
