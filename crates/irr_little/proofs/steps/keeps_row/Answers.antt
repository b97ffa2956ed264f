use Rattle.irr_little.proofs.StepNumbers.{kept_row}
use Rattle.irr_little.proofs.steps.keeps_row.Goals as goal

pub returns : goal.returns
returns c = let k = kept_row c.args.row.now c.row_product.result c.args.op.now c.row_product.ensures in
    (λ t. k.0 (c.are_same.ensures.0 t), λ e. c.are_same.ensures.1 (k.1 e))
