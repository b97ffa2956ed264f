-- The multiples so far.
use Rattle.irr_rep.proofs.MultiplesSoFar.{AreMultiplesSoFar}
use Rattle.irr_rep.proofs.cleared.multiples.Given as goal

abbrev pub invariant-loop-m : goal.invariant-loop-m
invariant-loop-m g l = AreMultiplesSoFar l.f.dim l.number l.f.mats.items l.m-index l.multiples.items
