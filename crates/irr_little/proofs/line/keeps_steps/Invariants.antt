-- The steps so far are kept.
use Rattle.std.proofs.Common.{◌≡◌, ◌<◌, ℕ, get_or}
use Rattle.irr_algebra.specs.Matrix.{◌⊖◌}
use Rattle.irr_space.specs.Operation.{turned}
use Rattle.irr_seitz.specs.OperationMeaning.{operation}
use Rattle.irr_kvec.specs.WaveMeaning.{wave_vector}
use Rattle.irr_kvec.specs.declared.wave.Wave.{Wave}
use Rattle.irr_little.proofs.line.keeps_steps.Given as goal

abbrev pub invariant-loop-i : goal.invariant-loop-i
invariant-loop-i l = (j : ℕ) (d : Wave) → j < l.i → turned (wave_vector (get_or l.points j d) ⊖ wave_vector (get_or l.points 0 d)) (operation l.op)
    ≡ wave_vector (get_or l.points j d) ⊖ wave_vector (get_or l.points 0 d)
