use Rattle.std.proofs.Common.{length}
use Rattle.irr_rational.specs.Ratio.{entry}
use Rattle.irr_kvec.proofs.ReducedForms.{count_positive}
use Rattle.irr_little.proofs.Wrapping.{wrapped_equivalent, wrapped_lowest}
use Rattle.irr_real.proofs.waves.wrapped.Goals as goal

pub cell-requires-clause-positive : goal.cell-requires-clause-positive
cell-requires-clause-positive c = c.args.k.now.lowest.positive

pub cell-requires-clause-small : goal.cell-requires-clause-small
cell-requires-clause-small c = c.requires.limits.denominator

pub cell-requires-clause-some : goal.cell-requires-clause-some
cell-requires-clause-some c = count_positive c.args.centrings.now c.requires.centrings c.args.k.now.num

pub cell-requires-clause-few : goal.cell-requires-clause-few
cell-requires-clause-few c = c.requires.centrings.few

pub invariant_of-result : goal.invariant_of-result
invariant_of-result c = record {
  lowest = wrapped_lowest (entry c.args.k.now.num) (entry c.rests-num.result) c.args.k.now.den c.cell.result
      (length c.args.centrings.now) c.args.k.now.lowest
      c.cell.ensures.positive c.cell.ensures.value c.rests-num.ensures.value;
}

pub returns-clause-equivalent : goal.returns-clause-equivalent
returns-clause-equivalent c = wrapped_equivalent c.args.centrings.now c.requires.centrings c.args.k.now.num
    c.rests-num.result c.args.k.now.den
    c.cell.result c.args.k.now.lowest.positive
    c.cell.ensures.positive c.cell.ensures.value c.rests-num.ensures.value
