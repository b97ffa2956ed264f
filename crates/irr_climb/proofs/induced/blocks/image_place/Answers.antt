-- The place of x g^b.
use Rattle.irr_clifford.specs.Formulas.{coset}
use Rattle.irr_climb.proofs.InducedBlocks.{coset_number}
use Rattle.irr_climb.proofs.induced.blocks.image_place.Goals as goal

pub returns-clause-image : goal.returns-clause-image
returns-clause-image c M is p a e f =
    c.table.ensures.product p (coset is.quotient a) e (coset_number is a c.args.b c.generator_power.result f (c.generator_power.ensures.power M is))
