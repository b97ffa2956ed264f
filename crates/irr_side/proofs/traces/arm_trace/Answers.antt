-- The trace over the order of the full representation, lifted.
use Rattle.std.proofs.Common.{◌≡◌, sym, subst}
use Rattle.std.specs.Int.{◌∣◌}
use Rattle.irr_seitz.specs.OperationMeaning.{operation}
use Rattle.irr_side.proofs.LiftedTraces.{lifted_trace, liftable}
use Rattle.irr_side.proofs.traces.arm_trace.Goals as goal

pub arm_part-requires-clause-induced : goal.arm_part-requires-clause-induced
arm_part-requires-clause-induced g c = c.requires.member.induced

pub arm_part-requires-clause-member : goal.arm_part-requires-clause-member
arm_part-requires-clause-member g c = c.requires.member.member

pub arm_part-requires-clause-small : goal.arm_part-requires-clause-small
arm_part-requires-clause-small g c = c.requires.member.small

pub lift-requires-clause-divides : goal.lift-requires-clause-divides
lift-requires-clause-divides g c = subst (λ n. n ∣ c.args.order.now.n) (sym c.in_ok-trace.ensures.order) c.requires.member.divides

pub lift-requires-clause-size : goal.lift-requires-clause-size
lift-requires-clause-size g c =
    let f = c.requires.member.induced in
    let x = c.in_ok-trace.trace in
    let n = g.S.Scalar.order_of x in
    let admitted = g.met.S.Scalar.order_admitted x in
    liftable c.args.full.now f x c.in_ok-trace.ensures.order
    (c.in_ok-trace.ensures.size f.group f.wave f.star f.number f.divides f.size f.small f.induced)
    (g.met.S.Scalar.admitted_positive n admitted) (g.met.S.Scalar.admitted_limited n admitted)

pub returns : goal.returns
returns g c = lifted_trace c.args.full.now c.args.arm (operation c.args.op.now) c.args.order.now.n c.args.order.now.positive
    c.in_ok-trace.trace c.in_ok-lifted.lifted c.in_ok-trace.ensures.order c.in_ok-trace.ensures.trace c.in_ok-trace.ensures.size
    c.in_ok-lifted.ensures.order c.in_ok-lifted.ensures.value
