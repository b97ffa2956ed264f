use Rattle.std.proofs.Common.{ℕ, ◌<◌, ◌≤◌, ◌-◌, length}
use Rattle.irr_space.specs.Reciprocal.{IsReciprocal, times}
use Rattle.irr_kvec.specs.WaveMeaning.{wave_of}
use Rattle.irr_kvec.specs.Centrings.{LatticeOf}
use Rattle.irr_kvec.proofs.periods.period.Given as goal

-- no multiple so far is reciprocal, and one to come is
abbrev pub invariant-loop-factor : goal.invariant-loop-factor
invariant-loop-factor l = record {
  positive : 0 < l.factor;
  before : l.factor ≤ length l.centrings;
  none : (n : ℕ) → n < l.factor → 0 < n → IsReciprocal (LatticeOf l.centrings) (times n (wave_of l.k.num 1)) → ⊥;
}

abbrev pub decreases-loop-factor : goal.decreases-loop-factor
decreases-loop-factor l = length l.centrings - l.factor
