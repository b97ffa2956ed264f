use Rattle.irr_space.specs.SpaceGroup.{Generated}
use Rattle.irr_close.specs.Standing.{StandFor}
use Rattle.irr_close.specs.StandsFor.{stands_for}
use Rattle.irr_close.proofs.Along.{canonical_along, numbering_along, centrings_along, exponent_along}
use Rattle.irr_close.proofs.Members.{canonical_of}
use Rattle.irr_close.proofs.Untruncated.{untruncated}
use Rattle.irr_close.proofs.laws.groups_of_generators.Goals as goal

pub returns-clause-canonical : goal.returns-clause-canonical
unfolding stands_for
returns-clause-canonical c = λ group generators same g h.
    let t = canonical_of group.ops.items group.centrings.items (untruncated group.ops.items group.centrings.items group.form) g ((same g).1 h) in
    (t.0, canonical_along (StandFor group.ops.items group.centrings.items) (Generated generators) same t.0 t.1, t.2)

pub returns-clause-numbering : goal.returns-clause-numbering
returns-clause-numbering c = λ group generators same h ops n. numbering_along (stands_for group) (Generated generators) same h ops n

pub returns-clause-centrings : goal.returns-clause-centrings
returns-clause-centrings c = λ group generators same cs h. centrings_along (stands_for group) (Generated generators) same cs h

pub returns-clause-exponent : goal.returns-clause-exponent
returns-clause-exponent c = λ group generators same n h. exponent_along (stands_for group) (Generated generators) same n h
