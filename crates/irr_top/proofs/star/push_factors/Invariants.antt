-- The rows so far.
use Rattle.std.proofs.Common.{◌≡◌, ◌++◌}
use Rattle.irr_rep.specs.Twisted.{phase_table}
use Rattle.irr_top.specs.StarText.{factors}
use Rattle.irr_top.proofs.FirstPieces.{first_pieces}
use Rattle.irr_top.proofs.star.push_factors.Given as goal

abbrev pub invariant-loop-i : goal.invariant-loop-i
invariant-loop-i l = l.text.items ≡ l.fn.text.items ++ first_pieces l.i (factors (phase_table l.t))
