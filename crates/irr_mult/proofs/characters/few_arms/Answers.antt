-- A star has few arms.
use Rattle.std.proofs.Common.{arith}
use Rattle.irr_kvec.specs.WaveMeaning.{wave_vector}
use Rattle.irr_mult.proofs.StarFacts.{few_arms}
use Rattle.irr_mult.proofs.characters.few_arms.Goals as goal

pub overflow_cast-result : goal.overflow_cast-result
overflow_cast-result c =
    let few = few_arms c.args.group.now (wave_vector c.args.wave.now) c.args.wave.now c.args.arms.now c.requires in
    omega (arith, few)

pub returns-clause-few : goal.returns-clause-few
returns-clause-few c = few_arms c.args.group.now (wave_vector c.args.wave.now) c.args.wave.now c.args.arms.now
    c.requires
