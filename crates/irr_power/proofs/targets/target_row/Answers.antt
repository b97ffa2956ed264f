-- One more number.
use Rattle.std.proofs.Common.{rules, ◌≡◌, subst, length, get_or, ℕ}
use Rattle.irr_space.specs.Operation.{◌⊙◌, translation}
use Rattle.irr_seitz.specs.OperationMeaning.{operation}
use Rattle.irr_seitz.specs.declared.op.Op.{Op}
use Rattle.irr_side.specs.ArmTraces.{AreEach}
use Rattle.irr_power.specs.Targets.{IsTarget}
use Rattle.irr_side.proofs.EachItems.{each_none, each_of_list}
use Rattle.irr_side.proofs.LiftedTraces.{member_at}
use Rattle.irr_power.proofs.targets.target_row.Goals as goal

pub loop-op-init : goal.loop-op-init
loop-op-init g c = each_none _ c.new-row.result.items c.new-row.ensures.items

pub block-block-requires-clause-member : goal.block-block-requires-clause-member
block-block-requires-clause-member g c = (member_at c.args.full.now.group c.args.ops.now c.requires.members
    c.loop-op.op-index c.op-item.result c.loop-op-test.true c.op-item.is).0

pub block-block-requires-clause-small : goal.block-block-requires-clause-small
block-block-requires-clause-small g c = (member_at c.args.full.now.group c.args.ops.now c.requires.members
    c.loop-op.op-index c.op-item.result c.loop-op-test.true c.op-item.is).1

pub loop-op-preserved : goal.loop-op-preserved
loop-op-preserved g c = each_of_list
    (λ (o : Op) (n : ℕ). IsTarget {V = g.S.Scalar} c.args.full.now c.args.arm (operation o) n)
    c.args.ops.now c.loop-op.op-index c.loop-op-test.true c.op-item.result c.op-item.is c.loop-op.row.items
    c.push.new.self.items c.block-block.result.row c.in_ok-push.ensures.items c.loop-op.invariant
    (record {
      target = λ group k U M v d D is i e.
          let b = c.block-block.ensures.block group k U M v d D is i e in
          (b.to, b.row-number, (translation b.shift ⊙ U.operation b.inner, b.little, b.carries));
    })

pub returns : goal.returns
returns g c =
    let done : c.loop-op.op-index ≡ length c.args.ops.now = search rules in
    subst (λ m. AreEach (λ p (n : ℕ). (o : Op) → IsTarget {V = g.S.Scalar} c.args.full.now c.args.arm
    (operation (get_or c.args.ops.now p o)) n) m c.loop-op.row.items) done c.loop-op.invariant
