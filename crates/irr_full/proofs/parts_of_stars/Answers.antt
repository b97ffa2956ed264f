-- Parts from stars.
use Rattle.irr_space.specs.SpaceGroup.{Generated}
use Rattle.irr_full.proofs.PartsOfStars.{parts_of_stars, star_multiplicity}
use Rattle.irr_full.proofs.parts_of_stars.Goals as goal

pub returns-clause-multiplicity : goal.returns-clause-multiplicity
returns-clause-multiplicity c = λ generators group chosen s M positive e A is_representation has_diagonal k S v L complete ordered n places B part m q h.
    star_multiplicity (Generated generators) group chosen s M positive A is_representation has_diagonal S v L complete ordered places B part m q h

pub returns-clause-parts : goal.returns-clause-parts
returns-clause-parts c = λ generators group chosen s M positive e A is_representation has_diagonal Z lists n parts are.
    parts_of_stars (Generated generators) group chosen s M positive A is_representation has_diagonal Z lists parts are
