-- The families so far are apart from those behind them.
use Rattle.std.proofs.Common.{ℕ, ◌<◌, length}
use Rattle.irr_rep.specs.Twisted.{phase_table}
use Rattle.irr_check.specs.Pairs.{AreApartBelow}
use Rattle.irr_check.proofs.pairs.first_pair.Given as goal

abbrev pub invariant-loop-first : goal.invariant-loop-first
invariant-loop-first g l = (a : ℕ) → a < l.first → AreApartBelow (phase_table l.t) l.reps a (length l.reps)
