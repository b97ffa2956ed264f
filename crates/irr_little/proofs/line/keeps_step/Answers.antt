use Rattle.std.proofs.Common.{◌∙◌}
use Rattle.irr_algebra.specs.Matrix.{◌⊖◌}
use Rattle.irr_seitz.specs.OperationMeaning.{operation}
use Rattle.irr_kvec.specs.WaveMeaning.{wave_vector}
use Rattle.irr_little.proofs.StepNumbers.{kept_multiple}
use Rattle.irr_little.proofs.line.keeps_step.Goals as goal

pub returns : goal.returns
returns c = let k = kept_multiple c.args.order c.requires.positive (wave_vector c.args.to.now ⊖ wave_vector c.args.from.now) (operation c.args.op.now)
    c.whole_step.result c.whole_step.ensures.value in
    (λ t. k.0 (c.keeps_row.ensures.0 t), λ e. c.keeps_row.ensures.1 (k.1 e))
