use Rattle.std.proofs.Common.{sym, ◌∙◌, ap₂, subst, ◌*◌, ◌↔◌, IsTrue}
use Rattle.std.specs.Int.{w128}
use Rattle.std.proofs.lemmas.Int.{to_z-of_z}
use Rattle.irr_rational.specs.Rational.{IsWhole, ratio}
use Rattle.irr_kvec.proofs.Products.{dot-listed}
use Rattle.irr_kvec.proofs.reciprocal.is_whole_along.Goals as goal

pub returns : goal.returns
returns c = subst (λ x. IsTrue c.is_divisible.result ↔ IsWhole x)
    (ap₂ ratio (to_z-of_z w128 c.product.result (record { sfits = c.product.type_inv }) ∙ c.product.ensures) (ap₂ ◌*◌ c.from.ensures c.from-2.ensures)
    ∙ sym (dot-listed c.args.num.now c.args.along.now.num c.args.den c.args.along.now.den c.requires.positive c.args.along.now.lowest.positive))
    c.is_divisible.ensures
