-- The operations of a line group at one of its points.
--   IsPointOfLine group line table k l     `line` is the table of the line group of some points, of which k is the first and l is one,
--                                          and `table` that of the little group of l
--   IsTurn group line table k l a t        the operation at the place a of the line stands at the point where t says, and t has the
--                                          exponent of the phase of its vector at k - l
--   AreTurns group line table k l ts       so at each place
use Rattle.std.specs.Prelude.{ℕ, suc, ◌≡◌, ◌<◌, List, length, slice_index, slice_index_or}
use Rattle.irr_algebra.specs.Fin.{Fin}
use Rattle.irr_algebra.specs.Fin.Fin.{first}
use Rattle.irr_algebra.specs.Matrix.{◌⊖◌}
use Rattle.irr_space.specs.Operation.{WaveVector}
use Rattle.irr_space.specs.Reciprocal.{IsPhase}
use Rattle.irr_seitz.specs.OperationMeaning.{operation}
use Rattle.irr_seitz.specs.PhaseMeaning.{sign_of}
use Rattle.irr_seitz.specs.declared.op.Op.{Op}
use Rattle.irr_rep.specs.Twisted.{operation_places, phase_table, place_count}
use Rattle.irr_rep.specs.declared.table.Twisted.{Twisted}
use Rattle.irr_close.specs.declared.group.Group.{Group}
use Rattle.irr_little.specs.Line.{IsLineGroupTable}
use Rattle.irr_little.specs.Table.{IsLittleTable}
use Rattle.irr_compat.specs.declared.turns.Turn.{Turn}

pub record IsPointOfLine (group : Group) (line table : Twisted) (k l : WaveVector) : Type 0 where
  pub others : ℕ
  pub point : Fin (suc others) → WaveVector
  pub at_first : point first ≡ k
  pub place : Fin (suc others)
  pub at_place : point place ≡ l
  pub is_line : IsLineGroupTable group point (operation_places line) (phase_table line)
  pub is_little : IsLittleTable group l (operation_places table) (phase_table table)

pub record IsTurn (group : Group) (line table : Twisted) (k l : WaveVector) (a : ℕ) (t : Turn) : Type 0 where
  pub below : t.place < place_count table
  pub same : slice_index (operation_places table) t.place ≡ slice_index (operation_places line) a
  pub is_phase : (d : Op) → IsPhase (sign_of group.phase) (phase_table line).order (k ⊖ l)
      (operation (slice_index_or group.ops.items (slice_index (operation_places line) a) d)).vector t.exponent

pub record AreTurns (group : Group) (line table : Twisted) (k l : WaveVector) (ts : List Turn) : Type 0 where
  pub count : length ts ≡ place_count line
  pub turn : (a : ℕ) (t : Turn) → a < length ts → IsTurn group line table k l a (slice_index_or ts a t)
