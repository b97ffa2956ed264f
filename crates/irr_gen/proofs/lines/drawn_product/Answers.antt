-- The factors are drawn.
use Rattle.std.proofs.Common.{◌∙◌, ap, map, subst₂}
use Rattle.irr_seitz.specs.OperationMeaning.{operation}
use Rattle.irr_gen.specs.Symmetry.{IsReducedProduct}
use Rattle.irr_gen.specs.MadeInput.{drawn_line}
use Rattle.irr_gen.proofs.lines.drawn_product.Goals as goal

pub returns-clause-product : goal.returns-clause-product
returns-clause-product c = subst₂ (λ g h. IsReducedProduct g h (operation c.product.result)) c.drawn_line-first.ensures.line
    (c.drawn_line-second.ensures.line ∙ ap (λ s. drawn_line s (map operation c.args.lines.now)) c.drawn_line-first.ensures.next) c.product.ensures.product
