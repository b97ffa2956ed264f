-- Types of the full representations that families of small ones induce, as they are found and printed.
--   IsTypeable t f                 f is a small family on the table t
--   IsTyped group k arms f row     row has the number of rows and the type of what f induces on a star of so many arms
--   AreTyped group k arms fs rows  so for the families of a list, in its order
--   row_text n row                 the line of the representation with the number n
--   head_text, rows_text           the lines before, and the whole text
use Rattle.std.specs.Prelude.{ℕ, ◌≡◌, ◌<◌, ◌*◌, List, ◌∷◌, ◌++◌, codes, length, slice_index_or}
use Rattle.std.specs.Int.{◌∣◌}
use Rattle.std.specs.Fmt.{decimal, signed_decimal}
use Rattle.irr_algebra.specs.Action.{IsSimple}
use Rattle.irr_theory.specs.FactorSystem.{Representation}
use Rattle.irr_space.specs.Operation.{WaveVector}
use Rattle.irr_space.specs.PhaseTable.{phases_at, phases_over}
use Rattle.irr_space.specs.CompleteList.{over}
use Rattle.irr_text.specs.WaveText.{wave_text}
use Rattle.irr_text.specs.ReportText.{line, next_word}
use Rattle.irr_seitz.specs.PhaseMeaning.{sign_of}
use Rattle.irr_cyc.specs.declared.scalars.Scalar.{Ghosts}
use Rattle.irr_rep.specs.Twisted.{phase_table}
use Rattle.irr_rep.specs.declared.family.Family.{Family}
use Rattle.irr_rep.specs.declared.table.Twisted.{Twisted}
use Rattle.irr_close.specs.StandsFor.{stands_for}
use Rattle.irr_close.specs.declared.group.Group.{Group}
use Rattle.irr_full.specs.Star.{Star}
use Rattle.irr_report.specs.Printed.{numbered}
use Rattle.irr_real.specs.Families.{IsFamilyOf, IsSmallFamily}
use Rattle.irr_real.specs.Answer.{IsTypeOf, IsTypeOverEach}
use Rattle.irr_top.specs.declared.real.TypedRep.{TypedRep}

abbrev pub IsTypeable : {X : Type 0} {V : Ghosts X} → Twisted → Family X V → Type 0
IsTypeable t f = (M : ℕ) × IsSmallFamily (phase_table t) M f

pub record IsTyped {X : Type 0} {V : Ghosts X} (group : Group) (k : WaveVector) (arms : ℕ) (f : Family X V)
    (row : TypedRep) : Type 0 where
  pub dim : row.dim ≡ arms * f.dim
  pub type_of : (U : Star (sign_of group.phase) (stands_for group) k) (M : ℕ) (v : U.table.order ∣ M) (d : ℕ)
      (D : Representation (phases_over U.table M v) d) → IsFamilyOf M D.at f → IsSimple D.at
      → IsTypeOf U M v D row.kind
  pub every_order : (U : Star (sign_of group.phase) (stands_for group) k) (M : ℕ) (v : U.table.order ∣ M) (d : ℕ)
      (D : Representation (phases_at U.table) d) → IsFamilyOf M (over U.table M v D).at f → IsSimple D.at
      → IsTypeOverEach U M v D row.kind

pub record AreTyped {X : Type 0} {V : Ghosts X} (group : Group) (k : WaveVector) (arms : ℕ) (fs : List (Family X V))
    (rows : List TypedRep) : Type 0 where
  pub count : length rows ≡ length fs
  pub each : (n : ℕ) (f : Family X V) (r : TypedRep) → n < length fs
      → IsTyped group k arms (slice_index_or fs n f) (slice_index_or rows n r)

abbrev pub row_text : ℕ → TypedRep → List ℕ
row_text n row = line (codes "rep" ++ next_word (83 ∷ decimal n) ++ next_word (codes "dim")
    ++ next_word (decimal row.dim)
    ++ next_word (codes "type") ++ next_word (signed_decimal row.kind))

abbrev pub head_text : WaveVector → ℕ → ℕ → List ℕ
head_text wave order count = line (codes "real 1") ++ line (codes "wave" ++ next_word (wave_text wave))
    ++ line (codes "order" ++ next_word (decimal order)) ++ line (codes "reps" ++ next_word (decimal count))

abbrev pub rows_text : WaveVector → ℕ → List TypedRep → List ℕ
rows_text wave order rows = head_text wave order (length rows) ++ numbered row_text 1 rows ++ line (codes "end")
