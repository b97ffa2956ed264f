-- The entries of the row so far.
use Rattle.std.proofs.Common.{◌≡◌, ◌++◌, ◌+◌}
use Rattle.std.specs.Prelude.{codes}
use Rattle.std.specs.Fmt.{decimal}
use Rattle.irr_algebra.specs.Fin.{Fin, to_nat}
use Rattle.irr_rep.specs.Twisted.{phase_table, place_count}
use Rattle.irr_top.specs.StarText.{factor}
use Rattle.irr_top.proofs.FirstPieces.{first_pieces}
use Rattle.irr_top.proofs.star.push_row.Given as goal

abbrev pub invariant-loop-j : goal.invariant-loop-j
invariant-loop-j l = (p : Fin (place_count l.t)) → to_nat p ≡ l.i
    → l.text.items ≡ (l.fn.text.items ++ (codes "factor " ++ decimal (l.i + 1))) ++ first_pieces l.j (factor (phase_table l.t) p)
