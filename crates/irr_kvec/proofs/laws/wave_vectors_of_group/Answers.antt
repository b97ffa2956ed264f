use Rattle.irr_algebra.specs.Matrix.{◌⊖◌}
use Rattle.irr_space.specs.SpaceGroup.{Generated}
use Rattle.irr_kvec.proofs.GroupLattices.{reciprocal_same, reduced_in_group, period_in_group}
use Rattle.irr_kvec.proofs.laws.wave_vectors_of_group.Goals as goal

pub returns-clause-equivalent : goal.returns-clause-equivalent
returns-clause-equivalent c = λ gens cs h a b. reciprocal_same (Generated gens) cs h (a ⊖ b)

pub returns-clause-reduced : goal.returns-clause-reduced
returns-clause-reduced c = λ gens cs h k r. reduced_in_group (Generated gens) cs h k r

pub returns-clause-period : goal.returns-clause-period
returns-clause-period c = λ gens cs h k q. period_in_group (Generated gens) cs h k q
