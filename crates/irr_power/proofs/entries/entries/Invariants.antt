-- The entries so far.
use Rattle.std.proofs.Common.{List}
use Rattle.irr_space.specs.Operation.{WaveVector}
use Rattle.irr_kvec.specs.declared.wave.Wave.{Wave}
use Rattle.irr_close.specs.declared.group.Group.{Group}
use Rattle.irr_power.specs.Meetings.{AreEntries, Setting}
use Rattle.irr_power.proofs.entries.entries.Given as goal

abbrev pub invariant-loop-member : goal.invariant-loop-member
invariant-loop-member g l = (group : Group) (k : WaveVector) (sums : List Wave)
    (s : Setting {V = g.S.Scalar} group k l.order.n l.side sums l.stars l.meetings)
    → AreEntries l.order.n s.given.is_side l.member l.entries.items
