use Rattle.std.proofs.Common.{◌∙◌, ap, ℤ}
use Rattle.std.specs.Int.{w64}
use Rattle.std.proofs.lemmas.Int.{to_z-of_z}
use Rattle.irr_algebra.specs.Fin.{to_nat}
use Rattle.irr_rational.specs.Rational.{ratio}
use Rattle.irr_setting_text.proofs.values.Fractions.numerators.Goals as goal

pub returns-clause-values : goal.returns-clause-values
unfolding to_nat
returns-clause-values c = (
  ap (λ (n : ℤ). ratio n c.args.den) (to_z-of_z w64 c.numerator_over.result (record { sfits = c.numerator_over.type_inv })) ∙ c.numerator_over.ensures.value,
  ap (λ (n : ℤ). ratio n c.args.den) (to_z-of_z w64 c.numerator_over-2.result (record { sfits = c.numerator_over-2.type_inv })) ∙ c.numerator_over-2.ensures.value,
  ap (λ (n : ℤ). ratio n c.args.den) (to_z-of_z w64 c.numerator_over-3.result (record { sfits = c.numerator_over-3.type_inv })) ∙ c.numerator_over-3.ensures.value,
)
