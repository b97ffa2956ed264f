use Rattle.std.proofs.Common.{ℕ, ◌<◌, ◌≤◌, ◌-◌, length}
use Rattle.irr_space.specs.Reciprocal.{AreEquivalent}
use Rattle.irr_kvec.specs.WaveMeaning.{wave_of}
use Rattle.irr_kvec.specs.Centrings.{LatticeOf}
use Rattle.irr_kvec.proofs.Steps.{candidate, number_of}
use Rattle.irr_kvec.proofs.reduction.least_steps.Given as goal

-- no candidate so far is equivalent, and one to come is
abbrev pub invariant-loop-number : goal.invariant-loop-number
invariant-loop-number l = record {
  before : l.number ≤ number_of (length l.centrings) l.cells;
  none : (y : ℕ) → y < l.number → AreEquivalent (LatticeOf l.centrings) (wave_of (candidate (length l.centrings) y) 1) (wave_of l.cells 1) → ⊥;
}

abbrev pub decreases-loop-number : goal.decreases-loop-number
decreases-loop-number l = number_of (length l.centrings) l.cells - l.number
