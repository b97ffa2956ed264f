-- The group that generators of an input generate.
--   group_of gens            the group that the generators generate
--   IsGroupOf group gens     the generators can be read, the group stands for the operations that they generate, and
--                            the sign of its phase is minus
use Rattle.std.specs.Prelude.{◌↔◌, ◌≡◌, List}
use Rattle.std.specs.List.{All}
use Rattle.irr_space.specs.Operation.{Operation}
use Rattle.irr_space.specs.SpaceGroup.{Generated}
use Rattle.irr_seitz.specs.OperationMeaning.{operation}
use Rattle.irr_seitz.specs.declared.op.Op.{Op}
use Rattle.irr_seitz.specs.declared.phase.Phase.TheVariants.{Minus}
use Rattle.irr_triplet.specs.Readable.{IsReadable}
use Rattle.irr_close.specs.Limits.{operations}
use Rattle.irr_close.specs.StandsFor.{stands_for}
use Rattle.irr_close.specs.declared.group.Group.{Group}

-- the group that operations generate
abbrev pub group_of : List Op → Operation → Type 0
group_of gens = Generated (operations gens)

pub record IsGroupOf (group : Group) (gens : List Op) : Type 0 where
  pub readable : All (λ g. IsReadable (operation g)) gens
  pub stands : (g : Operation) → stands_for group g ↔ group_of gens g
  pub phase : group.phase ≡ Minus
