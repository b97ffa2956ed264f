-- The table of a little group.
--   listed_operations group h xs d  the canonical operations with the h numbers xs, where d stands past the end
--   IsLittleTable group k xs T      T is the table of phases of the little group of k, whose operations have the numbers xs
--   IsLittleRefusal group k e       the order of k is above the limit; want of memory says nothing
use Rattle.std.specs.Prelude.{ℕ, ◌≡◌, ◌<◌, List, length, slice_index, slice_index_or}
use Rattle.irr_algebra.specs.Fin.{Fin, to_nat}
use Rattle.irr_space.specs.Operation.{Operation, WaveVector}
use Rattle.irr_space.specs.Reciprocal.{IsOrder}
use Rattle.irr_space.specs.CanonicalOperation.{IsNumbering}
use Rattle.irr_space.specs.Star.{IsInLittleGroup}
use Rattle.irr_space.specs.PhaseTable.{PhaseTable, IsTableOf}
use Rattle.irr_seitz.specs.OperationMeaning.{operation}
use Rattle.irr_seitz.specs.PhaseMeaning.{sign_of}
use Rattle.irr_seitz.specs.declared.op.Op.{Op}
use Rattle.irr_cyc.specs.declared.orders.TheConstants.{ORDER_LIMIT}
use Rattle.irr_close.specs.StandsFor.{stands_for}
use Rattle.irr_close.specs.declared.group.Group.{Group}
use Rattle.irr_little.specs.Places.{AreLittlePlaces}
use Rattle.irr_little.specs.declared.LittleError.{LittleError}
use Rattle.irr_little.specs.declared.LittleError.TheVariants.{OrderTooLarge, Memory}

abbrev pub listed_operations : (group : Group) (h : ℕ) (xs : List ℕ) → Op → Fin h → Operation
listed_operations group h xs d i = operation (slice_index_or group.ops.items (slice_index xs (to_nat i)) d)

pub record IsLittleTable (group : Group) (k : WaveVector) (xs : List ℕ) {h : ℕ} (T : PhaseTable h) : Type 0 where
  pub count : h ≡ length xs
  pub places : AreLittlePlaces group k xs
  pub numbering : (d : Op) → IsNumbering (stands_for group) (IsInLittleGroup (stands_for group) k) (listed_operations group h xs d)
  pub table : (d : Op) → IsTableOf (sign_of group.phase) (stands_for group) k (listed_operations group h xs d) T

abbrev pub IsLittleRefusal : Group → WaveVector → LittleError → Type 0
IsLittleRefusal group k (OrderTooLarge n) = IsOrder (stands_for group) k n × (ORDER_LIMIT < n)
IsLittleRefusal group k Memory = Unit {0}
