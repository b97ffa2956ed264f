use Rattle.std.proofs.Common.{sym, subst, rules}
use Rattle.irr_rat.specs.VectorMeaning.{vector}
use Rattle.irr_close.specs.Centring.{IsReducedOperation, IsTurnRefusal}
use Rattle.irr_close.proofs.Keeping.{longer_trans}
use Rattle.irr_close.proofs.Settling.{cell_small, cell_in, translation_generator, one_generator, turn_over, turn_rotations, turn_from, more_turned}
use Rattle.irr_close.proofs.centring.turn.Goals as goal

pub gather-requires-clause-op : goal.gather-requires-clause-op
gather-requires-clause-op c = subst IsReducedOperation (sym c.op-item.is) (c.requires.kept c.loop-op.op-index c.op-item.result c.loop-op-test.true)

pub gather-requires-clause-factors : goal.gather-requires-clause-factors
gather-requires-clause-factors c =
    one_generator c.translation_by.result (translation_generator c.translation_by.result c.index.result.now c.translation_by.ensures.translation
    c.translation_by.ensures.denominator (cell_in c.args.centrings.now.items c.index.result.now c.args.i c.requires.in_cell c.requires.place
    c.index.ensures) (cell_small c.args.centrings.now.items c.index.result.now c.args.i c.requires.in_cell c.requires.place c.index.ensures))

pub gather-requires-clause-denominator : goal.gather-requires-clause-denominator
gather-requires-clause-denominator c = turn_over c.args.kept.now c.args.centrings.now.items c.op-item.result c.translation_by.result
    c.index.result.now c.args.i c.loop-op.op-index c.requires.denominator c.requires.place c.index.ensures c.loop-op-test.true c.op-item.is
    c.translation_by.ensures.denominator

pub gather-requires-clause-rotations : goal.gather-requires-clause-rotations
gather-requires-clause-rotations c = turn_rotations c.args.kept.now c.op-item.result c.translation_by.result (vector c.index.result.now)
    c.loop-op.op-index c.loop-op-test.true c.op-item.is c.translation_by.ensures.translation

pub returns-in_err-gather-clause-refused : goal.returns-in_err-gather-clause-refused
returns-in_err-gather-clause-refused c =
    let r : IsTurnRefusal c.args.kept.now c.args.centrings.now.items c.in_err-gather.field-0.0 = record {
      is = λ gs inv all p. c.in_err-gather.ensures.refused.is gs
          (turn_from gs c.args.kept.now c.args.centrings.now.items c.op-item.result c.translation_by.result c.index.result.now c.args.i
          c.loop-op.op-index inv all p c.requires.place c.index.ensures c.loop-op-test.true c.op-item.is c.translation_by.ensures.translation
          c.translation_by.ensures.denominator
          (translation_generator c.translation_by.result c.index.result.now c.translation_by.ensures.translation
          c.translation_by.ensures.denominator (cell_in c.args.centrings.now.items c.index.result.now c.args.i c.requires.in_cell c.requires.place
          c.index.ensures) (cell_small c.args.centrings.now.items c.index.result.now c.args.i c.requires.in_cell c.requires.place
          c.index.ensures)))
          (c.loop-op.invariant.lattice gs inv all p);
    } in
    search rules

pub loop-op-preserved : goal.loop-op-preserved
loop-op-preserved c = record {
  longer = longer_trans c.args.centrings.now.items c.loop-op.centrings.items c.gather.new.centrings.items c.loop-op.invariant.longer
      c.in_ok-gather.ensures.longer;
  turned = more_turned c.args.kept.now c.args.centrings.now.items c.loop-op.centrings.items c.gather.new.centrings.items c.op-item.result
      c.translation_by.result c.index.result.now c.args.i c.loop-op.op-index c.loop-op-test.true c.op-item.is c.requires.place c.index.ensures
      c.translation_by.ensures.translation
      c.in_ok-gather.ensures.longer c.in_ok-gather.ensures.quotients c.loop-op.invariant.turned;
  lattice = λ gs inv all p. c.in_ok-gather.ensures.lattice gs
      (turn_from gs c.args.kept.now c.args.centrings.now.items c.op-item.result c.translation_by.result c.index.result.now c.args.i c.loop-op.op-index
      inv all p c.requires.place c.index.ensures c.loop-op-test.true c.op-item.is c.translation_by.ensures.translation
      c.translation_by.ensures.denominator (translation_generator c.translation_by.result c.index.result.now c.translation_by.ensures.translation
      c.translation_by.ensures.denominator (cell_in c.args.centrings.now.items c.index.result.now c.args.i c.requires.in_cell c.requires.place
      c.index.ensures) (cell_small c.args.centrings.now.items c.index.result.now c.args.i c.requires.in_cell c.requires.place c.index.ensures)))
      (c.loop-op.invariant.lattice gs inv all p);
}
