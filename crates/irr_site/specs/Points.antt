-- Points in the program, and the operations that fix them.
--   IsPoint x                    numerators of at most 1,000,000 and a denominator of at most 1,000
--   fixing g x                   the operation with the rotation of g that fixes x
--   IsSitePlace group x p        it is in the group, for the canonical operation with the number p
--   AreSitePlaces group x xs     xs are these numbers, in increasing order
--   AreFixing group x xs ops     ops are the operations for the numbers xs
use Rattle.std.specs.Prelude.{ℕ, ◌≡◌, ◌<◌, ◌≤◌, List, length, slice_index, slice_index_or}
use Rattle.std.specs.List.{HoldsAt}
use Rattle.irr_algebra.specs.Matrix.{◌·◌, ◌⊖◌}
use Rattle.irr_rational.specs.Integer.{whole_matrix}
use Rattle.irr_rational.specs.Rational.{rationals}
use Rattle.irr_space.specs.Operation.{Operation, Vector}
use Rattle.irr_rat.specs.declared.vec3.Vec3.{Vec3}
use Rattle.irr_seitz.specs.OperationMeaning.{operation, AreWithin}
use Rattle.irr_seitz.specs.declared.op.Op.{Op}
use Rattle.irr_close.specs.StandsFor.{stands_for}
use Rattle.irr_close.specs.declared.group.Group.{Group}
use Rattle.irr_little.specs.Places.{AreListed}

pub record IsPoint (x : Vec3) : Type 0 where
  pub numerators : AreWithin 1000000 x.num
  pub denominator : x.den ≤ 1000

-- (R|x - Rx)
unfoldable pub fixing : Operation → Vector → Operation
fixing g x = record { rotation = g.rotation; vector = x ⊖ (whole_matrix rationals g.rotation · x) }

abbrev pub IsSitePlace : Group → Vector → ℕ → Type 0
IsSitePlace group x p = HoldsAt (λ g. stands_for group (fixing (operation g) x)) group.ops.items p

abbrev pub AreSitePlaces : Group → Vector → List ℕ → Type 0
AreSitePlaces group x xs = AreListed (IsSitePlace group x) (length group.ops.items) xs

pub record AreFixing (group : Group) (x : Vector) (xs : List ℕ) (ops : List Op) : Type 0 where
  pub count : length ops ≡ length xs
  pub each : (i : ℕ) (d : Op) → i < length xs
      → operation (slice_index_or ops i d) ≡ fixing (operation (slice_index_or group.ops.items (slice_index xs i) d)) x
