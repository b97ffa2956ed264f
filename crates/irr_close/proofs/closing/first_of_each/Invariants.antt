-- The generators so far have their rotations in the list.
use Rattle.irr_close.specs.Closing.{AreSeeds}
use Rattle.irr_close.proofs.closing.first_of_each.Given as goal

abbrev pub invariant-loop-generator : goal.invariant-loop-generator
invariant-loop-generator l = AreSeeds l.generators l.seeds.items l.generator-index
