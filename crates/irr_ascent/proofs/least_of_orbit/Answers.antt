-- The least of an orbit.
use Rattle.irr_ascent.proofs.Orbit.{least_of_two, least_of_three}
use Rattle.irr_ascent.proofs.least_of_orbit.Goals as goal

pub returns : goal.returns
returns g c = record {
  two = λ n turn p l e. least_of_two turn p e l;
  three = λ n turn p l e. least_of_three turn p e l;
}
