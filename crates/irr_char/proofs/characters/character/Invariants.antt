-- The traces so far.
use Rattle.irr_char.proofs.Traces.{TracesSoFar}
use Rattle.irr_char.proofs.characters.character.Given as goal

abbrev pub invariant-loop-m : goal.invariant-loop-m
invariant-loop-m g l = TracesSoFar l.f.dim l.f.mats.items l.m-index l.traces.items
