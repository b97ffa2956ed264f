-- The row m or a later one is the conjugate's.
use Rattle.std.proofs.Common.{◌-◌, map, length}
use Rattle.irr_rep.specs.Twisted.{place_count}
use Rattle.irr_climb.proofs.RowSearch.{IsComing}
use Rattle.irr_climb.proofs.step.Step.turn.Given as goal

abbrev pub invariant-loop-m : goal.invariant-loop-m
invariant-loop-m g l = IsComing g.S.Scalar.order_of g.S.Scalar.value (place_count l.self.inner) (map (λ row. row.items) l.rows) l.conjugate.items l.m

abbrev pub decreases-loop-m : goal.decreases-loop-m
decreases-loop-m g l = length l.rows - l.m
