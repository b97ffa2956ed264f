use Rattle.std.proofs.Common.{sym, ◌∙◌, ap, subst, arith}
use Rattle.irr_space.specs.Operation.{Operation, ◌⊙◌}
use Rattle.irr_seitz.specs.OperationMeaning.{operation}
use Rattle.irr_close.proofs.Denominators.{IsOver, small_numerators, over_product, over_of_divides, over_modulo, divides_of_over}
use Rattle.irr_close.proofs.closing.product.Goals as goal

pub compose-requires-clause-numerators : goal.compose-requires-clause-numerators
compose-requires-clause-numerators c = λ i. let h = small_numerators c.args.op.now.num c.args.op.now.den c.args.op.now.lowest.positive
    c.requires.in_cell i in let s = c.requires.small in omega (arith, h, s)

pub returns-clause-rotation : goal.returns-clause-rotation
unfolding ◌⊙◌
returns-clause-rotation c = c.reduce.ensures.rotation ∙ ap (λ (g : Operation). g.rotation) c.compose.ensures

pub returns-clause-divides : goal.returns-clause-divides
returns-clause-divides c = λ D p h k. divides_of_over c.reduce.result.num c.reduce.result.den D c.reduce.result.lowest
    (over_modulo D (operation c.compose.result).vector (operation c.reduce.result).vector
    (subst (λ (g : Operation). IsOver D g.vector) (sym c.compose.ensures) (over_product D (operation c.args.op.now) (operation c.args.generator.now)
    (over_of_divides c.args.op.now.num c.args.op.now.den D c.args.op.now.lowest.positive h)
    (over_of_divides c.args.generator.now.num c.args.generator.now.den D c.args.generator.now.lowest.positive k)))
    c.reduce.ensures.whole)
