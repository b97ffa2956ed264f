-- The arms so far are those to which the operations so far carry the wave vector.
use Rattle.irr_kvec.specs.WaveMeaning.{wave_vector}
use Rattle.irr_little.proofs.Stars.{ArmsSoFar}
use Rattle.irr_little.proofs.arms.star.Given as goal

abbrev pub invariant-loop-place : goal.invariant-loop-place
invariant-loop-place l = ArmsSoFar l.group (wave_vector l.k) l.place l.arms.items
