use Rattle.std.proofs.Common.{sym, subst, rules}
use Rattle.irr_seitz.specs.OperationMeaning.{operation}
use Rattle.irr_seitz.specs.declared.op.Op.{Op}
use Rattle.irr_algebra.specs.Matrix.{◌·◌}
use Rattle.irr_close.specs.Closing.{IsGenerator, HasRotation}
use Rattle.irr_close.specs.Centring.{IsGatherRefusal}
use Rattle.irr_close.proofs.Keeping.{longer_trans}
use Rattle.irr_close.proofs.Lattice.{one_factor, more_quotients, centring_of_quotient, with_centring-longer, with_centring-partial, refused_centring}
use Rattle.irr_close.proofs.centring.gather.Goals as goal

pub quotient-requires-clause-factor : goal.quotient-requires-clause-factor
quotient-requires-clause-factor c = subst IsGenerator (sym c.factor-item.is)
    (c.requires.factors c.loop-factor.factor-index c.factor-item.result c.loop-factor-test.true)

pub quotient-requires-clause-denominator : goal.quotient-requires-clause-denominator
quotient-requires-clause-denominator c = one_factor c.args.kept.now c.args.op.now c.args.factors.now c.factor-item.result c.loop-factor.factor-index
    c.requires.denominator c.loop-factor-test.true c.factor-item.is

pub quotient-requires-clause-rotation : goal.quotient-requires-clause-rotation
quotient-requires-clause-rotation c = subst (λ (s : Op). HasRotation c.args.kept.now ((operation c.args.op.now).rotation · (operation s).rotation))
    (sym c.factor-item.is)
    (c.requires.rotations c.loop-factor.factor-index c.factor-item.result c.loop-factor-test.true)

pub returns-in_err-add-clause-refused : goal.returns-in_err-add-clause-refused
returns-in_err-add-clause-refused c =
    let r : IsGatherRefusal c.args.kept.now c.args.op.now c.args.factors.now c.args.centrings.now.items c.in_err-add.field-0.0 = record {
      is = λ gs from p. refused_centring gs c.loop-factor.centrings.items c.quotient.result c.in_err-add.field-0.0
          (c.loop-factor.invariant.lattice gs from p)
          (centring_of_quotient gs c.args.kept.now c.args.op.now c.args.factors.now c.factor-item.result c.loop-factor.factor-index c.quotient.result
          from c.loop-factor-test.true c.factor-item.is
          c.quotient.ensures.is c.quotient.ensures.in_cell c.quotient.ensures.divides) c.in_err-add.ensures.refused;
    } in
    search rules

pub loop-factor-preserved : goal.loop-factor-preserved
loop-factor-preserved c = record {
  longer = longer_trans c.args.centrings.now.items c.loop-factor.centrings.items c.add.new.centrings.items c.loop-factor.invariant.longer
      (with_centring-longer c.loop-factor.centrings.items c.quotient.result c.add.new.centrings.items c.in_ok-add.ensures.kept);
  quotients = more_quotients c.args.kept.now c.loop-factor.centrings.items c.add.new.centrings.items c.args.op.now c.args.factors.now
      c.factor-item.result c.quotient.result c.loop-factor.factor-index
      c.factor-item.is c.loop-factor-test.true c.quotient.ensures.is c.in_ok-add.ensures.kept c.loop-factor.invariant.quotients;
  lattice = λ gs from p. with_centring-partial gs c.loop-factor.centrings.items c.quotient.result c.add.new.centrings.items
      (c.loop-factor.invariant.lattice gs from p)
      (centring_of_quotient gs c.args.kept.now c.args.op.now c.args.factors.now c.factor-item.result c.loop-factor.factor-index c.quotient.result from
      c.loop-factor-test.true c.factor-item.is
      c.quotient.ensures.is c.quotient.ensures.in_cell c.quotient.ensures.divides) c.in_ok-add.ensures.kept;
}
