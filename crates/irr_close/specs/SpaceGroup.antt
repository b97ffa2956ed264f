-- What is known of each group.
--   IsSpaceGroup group     its operations are a group, their rotations have determinant 1 or -1, and as many times each centring as
--                          there are is whole
use Rattle.std.specs.Prelude.{◌≡◌, unsigned_abs}
use Rattle.std.specs.List.{All}
use Rattle.irr_seitz.specs.Rotation.{determinant}
use Rattle.irr_seitz.specs.OperationMeaning.{operation}
use Rattle.irr_kvec.specs.Centrings.{IsCentringList}
use Rattle.irr_cocycle.specs.SpaceGroupLaws.{IsGroup}
use Rattle.irr_close.specs.StandsFor.{stands_for}
use Rattle.irr_close.specs.declared.group.Group.{Group}

pub record IsSpaceGroup (group : Group) : Type 0 where
  pub is_group : IsGroup (stands_for group)
  pub unimodular : All (λ g. unsigned_abs (determinant (operation g).rotation) ≡ 1) group.ops.items
  pub centrings : IsCentringList group.centrings.items
