use Rattle.irr_kvec.specs.WaveMeaning.{wave_vector}
use Rattle.irr_mult.proofs.WaveOrder.{below-equal, below-greater, below-less}
use Rattle.irr_mult.proofs.comparison.is_below.Goals as goal

pub returns-in-Less : goal.returns-in-Less
returns-in-Less c = below-less c.compare.result (wave_vector c.args.a.now) (wave_vector c.args.b.now) c.compare.ensures
    c.in-Less.is

pub returns-in-Equal : goal.returns-in-Equal
returns-in-Equal c = below-equal c.compare.result (wave_vector c.args.a.now) (wave_vector c.args.b.now)
    c.compare.ensures c.in-Equal.is

pub returns-in-Greater : goal.returns-in-Greater
returns-in-Greater c = below-greater c.compare.result (wave_vector c.args.a.now) (wave_vector c.args.b.now)
    c.compare.ensures c.in-Greater.is
