-- The wave vector is equivalent to that of no arm so far.
use Rattle.std.proofs.Common.{ℕ, ◌<◌, get_or}
use Rattle.irr_space.specs.Reciprocal.{AreEquivalent}
use Rattle.irr_kvec.specs.WaveMeaning.{wave_vector}
use Rattle.irr_kvec.specs.Centrings.{LatticeOf}
use Rattle.irr_little.specs.declared.arms.Arm.{Arm}
use Rattle.irr_little.proofs.arms.is_new.Given as goal

abbrev pub invariant-loop-arm : goal.invariant-loop-arm
invariant-loop-arm l = (j : ℕ) (d : Arm) → j < l.arm-index → ¬ (AreEquivalent (LatticeOf l.centrings) (wave_vector (get_or l.arms j d).wave)
    (wave_vector l.wave))
