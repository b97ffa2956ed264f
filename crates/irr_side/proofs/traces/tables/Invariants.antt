-- The tables so far.
use Rattle.std.proofs.Common.{get_or, Vec, Global}
use Rattle.irr_star.specs.declared.full.Full.{Full}
use Rattle.irr_side.specs.ArmTraces.{AreArmRows, AreEach}
use Rattle.irr_side.proofs.traces.tables.Given as goal

abbrev pub invariant-loop-full : goal.invariant-loop-full
invariant-loop-full g l = AreEach (λ m (rows : Vec (Vec g.row.S.Denot Global) Global). (full : Full g.row.S.Denot g.S.Scalar)
    → AreArmRows {V = g.S.Scalar} (get_or l.fulls m full) l.ops l.order.n rows.items) l.full-index l.tables.items
