use Rattle.std.proofs.Common.{◌∙◌}
use Rattle.irr_algebra.specs.Fin.Fin.{first, next}
use Rattle.irr_kvec.proofs.WaveAnswers.{same_component}
use Rattle.irr_kvec.proofs.read.wave_of_parts.Goals as goal

pub returns-clause-value : goal.returns-clause-value
returns-clause-value c =
    let v = c.in_ok-vector.vector in
    let parts = c.in_ok-vector.ensures.components in
    record {
      x = same_component v.num v.den first ∙ parts.0 ∙ c.value_of_quotient-x.ensures.value;
      y = same_component v.num v.den (next first) ∙ parts.1 ∙ c.value_of_quotient-y.ensures.value;
      z = same_component v.num v.den (next (next first)) ∙ parts.2 ∙ c.value_of_quotient-z.ensures.value;
    }
