-- The sum so far.
use Rattle.std.proofs.Common.{◌≡◌, ◌≤◌, ◌*◌, sum_by, take}
use Rattle.irr_check.proofs.pairs.sum_of_squares.Given as goal

abbrev pub invariant-loop-rep : goal.invariant-loop-rep
invariant-loop-rep g l = (l.sum ≡ sum_by (λ t. t.family.dim * t.family.dim) (take l.rep-index l.reps)) × (l.sum ≤ l.rep-index * 2304)
