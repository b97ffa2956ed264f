-- The sums, and their halves.
use Rattle.std.proofs.Common.{sym, subst}
use Rattle.irr_power.specs.Halves.{difference_of, sum_of}
use Rattle.irr_side.specs.ArmTraces.{AreMembers, HasMembers}
use Rattle.irr_power.proofs.MadeRows.{asked, pairs, square_row}
use Rattle.irr_power.proofs.rows.square_rows.Goals as goal

pub arm_rows-requires : goal.arm_rows-requires
arm_rows-requires g c = subst (λ os. HasMembers c.args.order.now.n os c.args.full.now) (sym c.as_slice-ops.ensures.value) c.requires.members

pub arm_rows-requires-2 : goal.arm_rows-requires-2
arm_rows-requires-2 g c = subst (λ os. HasMembers c.args.order.now.n os c.args.full.now) (sym c.as_slice-squares.ensures.value)
    c.requires.double_members

pub target_rows-requires-clause-induced : goal.target_rows-requires-clause-induced
target_rows-requires-clause-induced g c = c.requires.members.induced

pub target_rows-requires-clause-members : goal.target_rows-requires-clause-members
target_rows-requires-clause-members g c = subst (AreMembers c.args.full.now.group) (sym c.as_slice-ops.ensures.value) c.requires.members.members

pub part_row-requires-clause-rows : goal.part_row-requires-clause-rows
part_row-requires-clause-rows g c = (asked c.args.order.now.n c.args.full.now c.args.meeting.now c.requires
    c.as_slice-ops.result.now c.as_slice-squares.result.now c.as_slice-classes.result.now
    c.as_slice-ops.ensures.value c.as_slice-squares.ensures.value c.as_slice-classes.ensures.value
    c.in_ok-arms.arms.items c.as_slice-rows.result.now c.as_slice-rows.ensures.value c.in_ok-arms.ensures
    c.in_ok-doubles.doubles.items c.as_slice-doubled.result.now c.as_slice-doubled.ensures.value c.in_ok-doubles.ensures
    c.in_ok-targets.targets.items c.as_slice-taken.result.now c.as_slice-taken.ensures.value c.in_ok-targets.ensures).0

pub return_row-requires-clause-rows : goal.return_row-requires-clause-rows
return_row-requires-clause-rows g c = (asked c.args.order.now.n c.args.full.now c.args.meeting.now c.requires
    c.as_slice-ops.result.now c.as_slice-squares.result.now c.as_slice-classes.result.now
    c.as_slice-ops.ensures.value c.as_slice-squares.ensures.value c.as_slice-classes.ensures.value
    c.in_ok-arms.arms.items c.as_slice-rows.result.now c.as_slice-rows.ensures.value c.in_ok-arms.ensures
    c.in_ok-doubles.doubles.items c.as_slice-doubled.result.now c.as_slice-doubled.ensures.value c.in_ok-doubles.ensures
    c.in_ok-targets.targets.items c.as_slice-taken.result.now c.as_slice-taken.ensures.value c.in_ok-targets.ensures).1

pub half_sums-requires : goal.half_sums-requires
half_sums-requires g c = (
  c.args.order.now.n,
  pairs c.args.order.now.n c.args.full.now c.args.meeting.now c.requires
      c.as_slice-ops.result.now c.as_slice-squares.result.now c.as_slice-classes.result.now
      c.as_slice-ops.ensures.value c.as_slice-squares.ensures.value c.as_slice-classes.ensures.value
      c.in_ok-arms.arms.items c.as_slice-rows.result.now c.as_slice-rows.ensures.value c.in_ok-arms.ensures
      c.in_ok-doubles.doubles.items c.as_slice-doubled.result.now c.as_slice-doubled.ensures.value c.in_ok-doubles.ensures
      c.in_ok-targets.targets.items c.as_slice-taken.result.now c.as_slice-taken.ensures.value c.in_ok-targets.ensures
      c.in_ok-products.products.items c.as_slice-sums.result.now c.in_ok-returns.returns.items c.as_slice-turned.result.now
      c.as_slice-sums.ensures.value c.as_slice-turned.ensures.value c.in_ok-products.ensures c.in_ok-returns.ensures,
)

pub half_differences-requires : goal.half_differences-requires
half_differences-requires g c = (
  c.args.order.now.n,
  pairs c.args.order.now.n c.args.full.now c.args.meeting.now c.requires
      c.as_slice-ops.result.now c.as_slice-squares.result.now c.as_slice-classes.result.now
      c.as_slice-ops.ensures.value c.as_slice-squares.ensures.value c.as_slice-classes.ensures.value
      c.in_ok-arms.arms.items c.as_slice-rows.result.now c.as_slice-rows.ensures.value c.in_ok-arms.ensures
      c.in_ok-doubles.doubles.items c.as_slice-doubled.result.now c.as_slice-doubled.ensures.value c.in_ok-doubles.ensures
      c.in_ok-targets.targets.items c.as_slice-taken.result.now c.as_slice-taken.ensures.value c.in_ok-targets.ensures
      c.in_ok-products.products.items c.as_slice-sums.result.now c.in_ok-returns.returns.items c.as_slice-turned.result.now
      c.as_slice-sums.ensures.value c.as_slice-turned.ensures.value c.in_ok-products.ensures c.in_ok-returns.ensures,
)

pub returns : goal.returns
returns g c = (
  square_row c.args.order.now.n c.args.full.now c.args.meeting.now c.requires
      c.as_slice-ops.result.now c.as_slice-squares.result.now c.as_slice-classes.result.now
      c.as_slice-ops.ensures.value c.as_slice-squares.ensures.value c.as_slice-classes.ensures.value
      c.in_ok-arms.arms.items c.as_slice-rows.result.now c.as_slice-rows.ensures.value c.in_ok-arms.ensures
      c.in_ok-doubles.doubles.items c.as_slice-doubled.result.now c.as_slice-doubled.ensures.value c.in_ok-doubles.ensures
      c.in_ok-targets.targets.items c.as_slice-taken.result.now c.as_slice-taken.ensures.value c.in_ok-targets.ensures
      c.in_ok-products.products.items c.as_slice-sums.result.now c.in_ok-returns.returns.items c.as_slice-turned.result.now
      c.as_slice-sums.ensures.value c.as_slice-turned.ensures.value c.in_ok-products.ensures c.in_ok-returns.ensures
      c.args.order.now.positive sum_of c.in_ok-sym.sym.items (c.in_ok-sym.ensures c.args.order.now.n),
  square_row c.args.order.now.n c.args.full.now c.args.meeting.now c.requires
      c.as_slice-ops.result.now c.as_slice-squares.result.now c.as_slice-classes.result.now
      c.as_slice-ops.ensures.value c.as_slice-squares.ensures.value c.as_slice-classes.ensures.value
      c.in_ok-arms.arms.items c.as_slice-rows.result.now c.as_slice-rows.ensures.value c.in_ok-arms.ensures
      c.in_ok-doubles.doubles.items c.as_slice-doubled.result.now c.as_slice-doubled.ensures.value c.in_ok-doubles.ensures
      c.in_ok-targets.targets.items c.as_slice-taken.result.now c.as_slice-taken.ensures.value c.in_ok-targets.ensures
      c.in_ok-products.products.items c.as_slice-sums.result.now c.in_ok-returns.returns.items c.as_slice-turned.result.now
      c.as_slice-sums.ensures.value c.as_slice-turned.ensures.value c.in_ok-products.ensures c.in_ok-returns.ensures
      c.args.order.now.positive difference_of c.in_ok-anti.anti.items (c.in_ok-anti.ensures c.args.order.now.n),
)
