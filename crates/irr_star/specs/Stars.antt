-- The star that the arms and the little group's table of a program stand for.
--   AreArmsOf group arms S       S has these arms, with their operations
--   IsStarOf group arms t S      and the little group's operations, by the places of t
--   star_of group k arms t ..    the star of AreArms and IsLittleTable, with the table of t
use Rattle.std.specs.Prelude.{◌≡◌, ◌<◌, ◌≤◌, List, length, slice_index, slice_index_or}
use Rattle.irr_algebra.specs.Fin.{Fin, to_nat}
use Rattle.irr_space.specs.Operation.{WaveVector}
use Rattle.irr_space.specs.CanonicalOperation.{IsNumbering}
use Rattle.irr_seitz.specs.OperationMeaning.{operation}
use Rattle.irr_seitz.specs.PhaseMeaning.{sign_of}
use Rattle.irr_seitz.specs.declared.op.Op.{Op}
use Rattle.irr_kvec.specs.WaveMeaning.{wave_vector}
use Rattle.irr_rep.specs.Twisted.{operation_places, phase_table, place_count}
use Rattle.irr_rep.specs.declared.table.Twisted.{Twisted}
use Rattle.irr_close.specs.Canonical.{numbered}
use Rattle.irr_close.specs.StandsFor.{stands_for}
use Rattle.irr_close.specs.declared.group.Group.{Group}
use Rattle.irr_little.specs.Arms.{AreArms}
use Rattle.irr_little.specs.Table.{IsLittleTable, listed_operations}
use Rattle.irr_little.specs.declared.arms.Arm.{Arm}
use Rattle.irr_full.specs.Star.{Star, carrier}

-- as many arms, few, each with its wave vector and its operation
pub record AreArmsOf (group : Group) (arms : List Arm) {k : WaveVector}
    (S : Star (sign_of group.phase) (stands_for group) k) : Type 0 where
  pub count : length arms ≡ S.arms
  pub few : length arms ≤ 48
  pub wave : (i : Fin S.arms) (a : Arm) → wave_vector (slice_index_or arms (to_nat i) a).wave ≡ S.arm i
  pub below : (i : Fin S.arms) (a : Arm) → (slice_index_or arms (to_nat i) a).op < length group.ops.items
  pub carriers : (i : Fin S.arms) (a : Arm) (d : Op)
      → operation (slice_index_or group.ops.items (slice_index_or arms (to_nat i) a).op d) ≡ carrier S i

-- and as many operations of the little group, at the places of t
pub record IsStarOf (group : Group) (arms : List Arm) (t : Twisted) {k : WaveVector}
    (S : Star (sign_of group.phase) (stands_for group) k) : Type 0 where
  pub are_arms : AreArmsOf group arms S
  pub count : place_count t ≡ S.places
  pub below : (p : Fin S.places) → slice_index (operation_places t) (to_nat p) < length group.ops.items
  pub operations : (p : Fin S.places) (d : Op)
      → operation (slice_index_or group.ops.items (slice_index (operation_places t) (to_nat p)) d) ≡ S.operation p

-- d and a stand past the ends of the lists
abbrev pub star_of : (group : Group) (k : WaveVector) (arms : List Arm) (t : Twisted) (d : Op) (a : Arm)
    → IsNumbering (stands_for group) (λ _. Unit {0}) (numbered group.ops.items d)
    → AreArms group k arms → IsLittleTable group k (operation_places t) (phase_table t) → Star (sign_of group.phase)
    (stands_for group) k
star_of group k arms t d a canonical are_arms little = record {
  count = length group.ops.items;
  canonical = numbered group.ops.items d;
  canonical_numbering = canonical;
  arms = length arms;
  arm = λ i. wave_vector (slice_index_or arms (to_nat i) a).wave;
  number = are_arms.number;
  are_arms = are_arms.star d a;
  places = place_count t;
  operation = listed_operations group (place_count t) (operation_places t) d;
  numbering = little.numbering d;
  table = phase_table t;
  is_table = little.table d;
}
