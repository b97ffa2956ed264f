-- The terms so far are the same.
use Rattle.std.proofs.Common.{ℕ, ◌<◌}
use Rattle.irr_char.specs.Rows.{IsSameTerm}
use Rattle.irr_char.proofs.TermLists.{term_at}
use Rattle.irr_char.proofs.numbers.compare_numbers.Given as goal

abbrev pub invariant-loop-k : goal.invariant-loop-k
invariant-loop-k l = (i : ℕ) → i < l.k → IsSameTerm l.x.den l.y.den (term_at l.xs i) (term_at l.ys i)
