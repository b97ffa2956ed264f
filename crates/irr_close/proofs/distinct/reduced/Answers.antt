use Rattle.std.proofs.Common.{arith}
use Rattle.irr_close.proofs.Denominators.{small_numerators}
use Rattle.irr_close.proofs.distinct.reduced.Goals as goal

pub returns : goal.returns
returns c = record {
  rotation = c.reduce.ensures.rotation;
  in_cell = c.reduce.ensures.in_cell;
  whole = c.reduce.ensures.whole;
  numerators = λ i. let h = small_numerators c.reduce.result.num c.reduce.result.den c.reduce.result.lowest.positive c.reduce.ensures.in_cell i in
      omega arith;
}
