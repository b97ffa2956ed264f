use Rattle.irr_rat.specs.VectorMeaning.{vector}
use Rattle.irr_mult.proofs.WaveOrder.{waves_match}
use Rattle.irr_mult.proofs.comparison.compare.Goals as goal

pub returns : goal.returns
returns c = waves_match c.cmp.result c.args.a.now c.args.b.now (vector c.components.result) (vector c.components-2.result)
    c.components.ensures c.components-2.ensures c.cmp.ensures
