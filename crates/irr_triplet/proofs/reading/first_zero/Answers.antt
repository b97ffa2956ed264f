use Rattle.irr_triplet.proofs.TripletParting.{three_zeros}
use Rattle.irr_triplet.proofs.reading.first_zero.Goals as goal

pub returns : goal.returns
returns c = three_zeros c.args.parts.now c.or-2.result c.or.result c.or.ensures c.or-2.ensures
