-- The entries so far.
use Rattle.std.proofs.Common.{List}
use Rattle.irr_space.specs.Operation.{Operation, WaveVector}
use Rattle.irr_kvec.specs.declared.wave.Wave.{Wave}
use Rattle.irr_close.specs.declared.group.Group.{Group}
use Rattle.irr_subduce.specs.Meetings.{AreEntries, HasMeetings}
use Rattle.irr_subduce.specs.declared.sub.Sub.{Sub}
use Rattle.irr_subduce.proofs.entries.entries.Given as goal

abbrev pub invariant-loop-a : goal.invariant-loop-a
invariant-loop-a g l = (group : Group) (sub : Sub) (image : Operation → Operation) (k : WaveVector) (ws : List Wave)
    (s : HasMeetings {V = g.S.Scalar} group sub image k l.order.n l.side ws l.stars l.meetings)
    → AreEntries sub image l.order.n s.given.is_side l.a l.entries.items
