-- Part by part.
use Rattle.irr_space.specs.SpaceGroup.{Generated}
use Rattle.irr_close.specs.StandsFor.{stands_for}
use Rattle.irr_full_text.proofs.Along.{content_along}
use Rattle.irr_full_text.proofs.laws.contents_of_generated_groups.Goals as goal

pub returns : goal.returns
returns c = λ group generators same s k content is. content_along (stands_for group) (Generated generators) same s k
    content is
