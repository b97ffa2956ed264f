-- The line group of points.
--   line_points n points d             the first n + 1 points, where d stands past the end
--   IsLinePlace group point p          the operation with the number p is in the line group
--   AreLinePlaces group point xs       xs are the numbers of the operations of the line group, in increasing order
--   IsLineGroupTable group point xs T  T is the table of phases of the line group, whose operations have the numbers xs
--   IsLineRefusal group points e       the order of some of the points in front is the first above the limit; want of memory
--                                      says nothing
use Rattle.std.specs.Prelude.{ℕ, suc, ◌≡◌, ◌<◌, ◌≤◌, List, length, slice_index_or}
use Rattle.std.specs.List.{HoldsAt}
use Rattle.irr_algebra.specs.Fin.{Fin, to_nat}
use Rattle.irr_space.specs.Operation.{WaveVector}
use Rattle.irr_space.specs.CanonicalOperation.{IsNumbering}
use Rattle.irr_space.specs.PhaseTable.{PhaseTable}
use Rattle.irr_seitz.specs.OperationMeaning.{operation}
use Rattle.irr_seitz.specs.PhaseMeaning.{sign_of}
use Rattle.irr_seitz.specs.declared.op.Op.{Op}
use Rattle.irr_cyc.specs.declared.orders.TheConstants.{ORDER_LIMIT}
use Rattle.irr_kvec.specs.WaveMeaning.{wave_vector}
use Rattle.irr_kvec.specs.declared.wave.Wave.{Wave}
use Rattle.irr_close.specs.StandsFor.{stands_for}
use Rattle.irr_close.specs.declared.group.Group.{Group}
use Rattle.irr_line.specs.LineGroup.{IsInLineGroup, IsLineOrder, IsLineTable}
use Rattle.irr_little.specs.Places.{AreListed}
use Rattle.irr_little.specs.Table.{listed_operations}
use Rattle.irr_little.specs.declared.LittleError.{LittleError}
use Rattle.irr_little.specs.declared.LittleError.TheVariants.{OrderTooLarge, Memory}

abbrev pub line_points : (n : ℕ) → List Wave → Wave → Fin (suc n) → WaveVector
line_points n points d i = wave_vector (slice_index_or points (to_nat i) d)

abbrev pub IsLinePlace : (group : Group) {n : ℕ} → (Fin (suc n) → WaveVector) → ℕ → Type 0
IsLinePlace group point p = HoldsAt (λ g. IsInLineGroup (stands_for group) point (operation g)) group.ops.items p

abbrev pub AreLinePlaces : (group : Group) {n : ℕ} → (Fin (suc n) → WaveVector) → List ℕ → Type 0
AreLinePlaces group point xs = AreListed (IsLinePlace group point) (length group.ops.items) xs

pub record IsLineGroupTable (group : Group) {n : ℕ} (point : Fin (suc n) → WaveVector) (xs : List ℕ) {h : ℕ}
    (T : PhaseTable h) : Type 0 where
  pub count : h ≡ length xs
  pub places : AreLinePlaces group point xs
  pub numbering : (d : Op) → IsNumbering (stands_for group) (IsInLineGroup (stands_for group) point)
      (listed_operations group h xs d)
  pub table : (d : Op) → IsLineTable (sign_of group.phase) (stands_for group) point (listed_operations group h xs d) T

-- the first i + 1 points have this order, and fewer ones none above the limit
pub record IsFirstAbove (group : Group) (points : List Wave) (order : ℕ) : Type 0 where
  pub last : ℕ
  pub inside : last < length points
  pub is_order : (d : Wave) → IsLineOrder (stands_for group) (line_points last points d) order
  pub above : ORDER_LIMIT < order
  pub first : (i m : ℕ) (d : Wave) → i < last → IsLineOrder (stands_for group) (line_points i points d) m → m ≤ ORDER_LIMIT

abbrev pub IsLineRefusal : Group → List Wave → LittleError → Type 0
IsLineRefusal group points (OrderTooLarge n) = IsFirstAbove group points n
IsLineRefusal group points Memory = Unit {0}
