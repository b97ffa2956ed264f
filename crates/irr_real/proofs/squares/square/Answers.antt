-- The place and the phase of a square.
use Rattle.irr_kvec.specs.WaveMeaning.{wave_vector}
use Rattle.irr_rat.specs.VectorMeaning.{vector}
use Rattle.irr_real.proofs.SquarePlaces.{square_is, square_listed, turns_over}
use Rattle.irr_real.proofs.squares.square.Goals as goal

pub place_of-requires : goal.place_of-requires
place_of-requires c = square_listed c.args.group.now (wave_vector c.args.k.now) c.args.t.now c.requires.table
    c.args.place c.requires.place
    c.requires.reverses c.doubled-both.result.op (vector c.doubled-both.result.shift) c.doubled-both.ensures.product

pub theta-exponent-requires-clause-whole : goal.theta-exponent-requires-clause-whole
theta-exponent-requires-clause-whole c = turns_over c.args.group.now (wave_vector c.args.k.now) c.args.t.now
    c.requires.table c.args.place
    c.requires.place c.requires.reverses c.doubled-both.result.op (vector c.doubled-both.result.shift)
    c.doubled-both.ensures.product
    c.args.n c.requires.divides

pub returns-clause-exponent : goal.returns-clause-exponent
returns-clause-exponent c = c.theta-exponent.ensures.below

pub returns-clause-square : goal.returns-clause-square
returns-clause-square c = square_is c.args.group.now (wave_vector c.args.k.now) c.args.t.now c.requires.table
    c.args.place
    c.requires.place c.requires.reverses c.doubled-both.result.op (vector c.doubled-both.result.shift)
    c.doubled-both.ensures.product
    c.args.n c.place_of.result c.theta-exponent.result c.place_of.ensures.within c.place_of.ensures.number
    c.theta-exponent.ensures
