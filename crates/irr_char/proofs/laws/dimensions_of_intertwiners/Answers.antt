-- Dimensions of spaces of intertwiners over each order.
use Rattle.irr_number.specs.Lift.{lift}
use Rattle.irr_number.proofs.NumberField.{number_field}
use Rattle.irr_theory.proofs.Dimensions.{dimension-trace_sum}
use Rattle.irr_theory.proofs.Scalars.{dimension-map_family}
use Rattle.irr_char.proofs.laws.dimensions_of_intertwiners.Goals as goal

pub returns : goal.returns
returns c = record {
  by_traces = λ h T M v p a b n A B d. dimension-trace_sum (number_field M p) A B d;
  over_multiples = λ h T M v p a b n A B d. dimension-map_family (number_field T.order T.order_positive) (number_field M p)
      (lift T.order M T.order_positive v) A B d;
}
