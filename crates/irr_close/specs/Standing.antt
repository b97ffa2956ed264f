-- Which operations kept operations and translations stand for.
--   StandFor ops cs g     g has the rotation of a kept operation and differs from it by a whole vector and a translation of the list
use Rattle.std.specs.Prelude.{ℕ, ◌≡◌, ◌<◌, List, length}
use Rattle.std.specs.List.{HoldsAt}
use Rattle.irr_algebra.specs.Matrix.{◌⊖◌}
use Rattle.irr_space.specs.Operation.{Operation}
use Rattle.irr_rat.specs.declared.vec3.Vec3.{Vec3}
use Rattle.irr_seitz.specs.OperationMeaning.{operation}
use Rattle.irr_seitz.specs.declared.op.Op.{Op}
use Rattle.irr_close.specs.Centring.{HasTranslation}

abbrev pub StandFor : List Op → List Vec3 → Operation → Type 0
StandFor ops cs g = (k : ℕ) × (k < length ops)
    × HoldsAt (λ m. (g.rotation ≡ (operation m).rotation) × HasTranslation cs (g.vector ⊖ (operation m).vector)) ops k
