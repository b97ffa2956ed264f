-- One more position.
use Rattle.std.proofs.Common.{sym, subst, ◌+◌}
use Rattle.irr_root.specs.Positions.{ArePositionsIn}
use Rattle.irr_root.proofs.PlacePositions.{placed-next, placed-none}
use Rattle.irr_root.proofs.positions.positions_of.Goals as goal

pub loop-place-init : goal.loop-place-init
loop-place-init c = subst (ArePositionsIn c.args.members.now 0) (sym c.new-positions.ensures.items) (placed-none c.args.members.now)

pub loop-place-preserved : goal.loop-place-preserved
loop-place-preserved c =
    subst (ArePositionsIn c.args.members.now (c.loop-place.place + 1)) (sym c.in_ok-push.ensures.items)
    (placed-next c.args.members.now c.loop-place.place c.loop-place.positions.items c.position_in-position.result c.loop-place.invariant
    c.position_in-position.ensures.within c.position_in-position.ensures.position)
