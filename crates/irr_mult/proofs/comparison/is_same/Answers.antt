use Rattle.irr_kvec.specs.WaveMeaning.{wave_vector}
use Rattle.irr_mult.proofs.WaveOrder.{same-equal, same-greater, same-less}
use Rattle.irr_mult.proofs.comparison.is_same.Goals as goal

pub returns-in-Less : goal.returns-in-Less
returns-in-Less c = same-less c.compare.result (wave_vector c.args.a.now) (wave_vector c.args.b.now) c.compare.ensures
    c.in-Less.is

pub returns-in-Equal : goal.returns-in-Equal
returns-in-Equal c = same-equal c.compare.result (wave_vector c.args.a.now) (wave_vector c.args.b.now)
    c.compare.ensures c.in-Equal.is

pub returns-in-Greater : goal.returns-in-Greater
returns-in-Greater c = same-greater c.compare.result (wave_vector c.args.a.now) (wave_vector c.args.b.now)
    c.compare.ensures c.in-Greater.is
