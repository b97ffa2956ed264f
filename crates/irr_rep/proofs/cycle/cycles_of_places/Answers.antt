-- The cycles of the places.
use Rattle.irr_rep.proofs.ElementOrders.{place_order}
use Rattle.irr_rep.proofs.Cycles.{cycle_over, exponents_over}
use Rattle.irr_rep.proofs.cycle.cycles_of_places.Goals as goal

pub returns : goal.returns
returns c = record {
  order = λ h T g. place_order T g;
  exponents = λ h T M v positive. exponents_over T M positive v;
  cycle = λ h T M v positive g m order. cycle_over T M positive v g m order;
}
