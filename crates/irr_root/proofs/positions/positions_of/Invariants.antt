-- The positions so far.
use Rattle.irr_root.specs.Positions.{ArePositionsIn}
use Rattle.irr_root.proofs.positions.positions_of.Given as goal

abbrev pub invariant-loop-place : goal.invariant-loop-place
invariant-loop-place l = ArePositionsIn l.members l.place l.positions.items
