use Rattle.std.proofs.Common.{◌∙◌, ap, unsigned_abs}
use Rattle.std.specs.Int.{w128}
use Rattle.std.proofs.lemmas.Int.{to_z-of_z}
use Rattle.irr_kvec.proofs.Products.{divisible}
use Rattle.irr_kvec.proofs.reciprocal.is_divisible.Goals as goal

pub returns : goal.returns
returns c = divisible c.args.number c.args.den c.unsigned_abs.result c.from.result c.requires
    (c.unsigned_abs.ensures.value ∙ ap unsigned_abs (to_z-of_z w128 c.args.number c.ranges.number)) c.from.ensures
