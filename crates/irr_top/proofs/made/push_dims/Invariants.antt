-- The dimensions so far.
use Rattle.std.proofs.Common.{◌≡◌, ◌++◌, take}
use Rattle.irr_top.specs.SummaryText.{dims_text}
use Rattle.irr_top.proofs.made.push_dims.Given as goal

abbrev pub invariant-loop-dim : goal.invariant-loop-dim
invariant-loop-dim l = l.text.items ≡ l.fn.text.items ++ dims_text (take l.dim-index l.dims)
