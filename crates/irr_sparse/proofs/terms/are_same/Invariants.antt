-- The terms so far are the same.
use Rattle.std.proofs.Common.{◌≡◌, take}
use Rattle.irr_sparse.proofs.terms.are_same.Given as goal

abbrev pub invariant-loop-i : goal.invariant-loop-i
invariant-loop-i l = take l.i l.xs ≡ take l.i l.ys
