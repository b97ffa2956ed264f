-- Lists that stand for a group.
--   AreGenerated ops cs     operations and translations stand for what some generators generate
use Rattle.std.specs.Prelude.{◌↔◌, List}
use Rattle.irr_space.specs.Operation.{Operation}
use Rattle.irr_space.specs.SpaceGroup.{Generated}
use Rattle.irr_rat.specs.declared.vec3.Vec3.{Vec3}
use Rattle.irr_seitz.specs.declared.op.Op.{Op}
use Rattle.irr_close.specs.Standing.{StandFor}

pub record AreGenerated (ops : List Op) (cs : List Vec3) : Type 0 where
  pub generators : List Operation
  pub same : (g : Operation) → StandFor ops cs g ↔ Generated generators g
