-- The trace of the block of an arm that stays, or 0.
use Rattle.std.proofs.Common.{◌≡◌, sym, ◌∙◌, subst}
use Rattle.irr_algebra.proofs.Indices.{to_nat_inj}
use Rattle.irr_number.specs.Number.{numbers}
use Rattle.irr_canonical.specs.RootSum.{IsRootSum}
use Rattle.irr_seitz.specs.OperationMeaning.{operation}
use Rattle.irr_star.proofs.ArmTraces.{few_kept, few_none, kept_trace, moved_trace}
use Rattle.irr_star.proofs.EntryReads.{admitted}
use Rattle.irr_star.proofs.MadeBlocks.{in_group, order_positive}
use Rattle.irr_star.proofs.StarLists.{arm_index}
use Rattle.irr_star.proofs.traces.arm_part.Goals as goal

pub zero-requires : goal.zero-requires
zero-requires g c =
    let e = c.requires.induced in
    record {
      admitted = admitted c.args.full.now e.group e.star e.number e.divides e.small e.induced g.S.Scalar.admits
          g.met.S.Scalar.order_admitted;
    }

pub returns-then-block-arm-clause-trace : goal.returns-then-block-arm-clause-trace
returns-then-block-arm-clause-trace g c group k U M v d D is A of i e =
    subst (λ n. g.S.Scalar.value n c.in_ok-none.none ≡ (numbers n).zero) is.order c.in_ok-none.ensures.value
    ∙ sym (moved_trace group U M (order_positive c.args.full.now group U M v D is) v D (operation c.args.op.now)
    (in_group c.args.full.now group U M v D is c.args.op.now c.requires.member c.requires.small) i c.block-block.result
    (c.block-block.ensures.block group k U M v d D is i e) A of (λ q. c.if-block-arm.true (q ∙ e)))

pub returns-then-block-arm-clause-size : goal.returns-then-block-arm-clause-size
returns-then-block-arm-clause-size g c group k U M v d D is = few_none M d (g.S.Scalar.value M c.in_ok-none.none)
    (subst (λ n. g.S.Scalar.value n c.in_ok-none.none ≡ (numbers n).zero) is.order c.in_ok-none.ensures.value)

pub returns-clause-trace : goal.returns-clause-trace
returns-clause-trace g c group k U M v d D is A of i e =
    let at = c.block-block.ensures.block group k U M v d D is i e in
    c.in_ok-part.ensures.trace group k U M v d D is at.inner at.inner-number
    ∙ sym (kept_trace group U M (order_positive c.args.full.now group U M v D is) v D (operation c.args.op.now)
    (in_group c.args.full.now group U M v D is c.args.op.now c.requires.member c.requires.small) i c.block-block.result
    at A of
    (to_nat_inj at.to i (at.row-number ∙ c.if-block-arm.false ∙ sym e)))

pub returns-clause-size : goal.returns-clause-size
returns-clause-size g c group k U M v d D is =
    let i = arm_index group c.args.full.now.arms.items U is.arms c.args.arm c.requires.arm in
    let at = c.block-block.ensures.block group k U M v d D is i.0 i.1 in
    subst (IsRootSum M d 1) (sym (c.in_ok-part.ensures.trace group k U M v d D is at.inner at.inner-number))
    (few_kept group U M (order_positive c.args.full.now group U M v D is) v D (operation c.args.op.now)
    (in_group c.args.full.now group U M v D is c.args.op.now c.requires.member c.requires.small) i.0
    c.block-block.result at)
