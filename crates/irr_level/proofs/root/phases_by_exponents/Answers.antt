-- Phases as powers of z.
use Rattle.irr_level.proofs.Phases.{conjugate_at, conjugate_trace_at, own_order, phase_at, power_phase_at}
use Rattle.irr_level.proofs.root.phases_by_exponents.Goals as goal

pub returns : goal.returns
returns c = record {
  phase = λ h T M v i j. phase_at T M v i j;
  own_order = λ h T x. own_order T x;
  power = λ h T M v g e. power_phase_at T M v g e;
  conjugate = λ h T M v H Q d D n. conjugate_at T M v Q D n;
  conjugate_trace = λ h T M v H Q d D n. conjugate_trace_at T M v Q D n;
}
