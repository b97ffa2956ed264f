-- Eigenspaces by means of powers.
use Rattle.irr_eigen.proofs.RootsOfOne.{eigenspaces_of_power}
use Rattle.irr_eigen.proofs.eigenspaces_of_power.Goals as goal

pub returns : goal.returns
returns g c = λ n d v t z ne h e. eigenspaces_of_power g.N.InField.field n v t z ne h e
