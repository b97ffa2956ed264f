-- What is asked of a star and of full representations that are printed.
--   IsPrintedStar group arms t S     arms, table and operations are those of a star of a reduced wave vector
--   AreFullsOf group S v L A fulls   the values stand for full representations A of the members of the list L
--   IsTextAt .. text                 the text is that of the star, generators, and these full representations
use Rattle.std.specs.Prelude.{ℕ, ◌≡◌, List, length, slice_index_or}
use Rattle.std.specs.Int.{◌∣◌}
use Rattle.irr_algebra.specs.Fin.{Fin, to_nat}
use Rattle.irr_algebra.specs.Matrix.{Matrix}
use Rattle.irr_algebra.specs.Pair.{times}
use Rattle.irr_number.specs.Number.{numbers}
use Rattle.irr_theory.specs.Representations.{Representations}
use Rattle.irr_space.specs.Operation.{Operation, WaveVector}
use Rattle.irr_space.specs.Reciprocal.{IsReduced}
use Rattle.irr_space.specs.PhaseTable.{phases_at}
use Rattle.irr_space.specs.CompleteList.{over}
use Rattle.irr_seitz.specs.OperationMeaning.{operation}
use Rattle.irr_seitz.specs.PhaseMeaning.{sign_of}
use Rattle.irr_seitz.specs.declared.op.Op.{Op}
use Rattle.irr_cyc.specs.declared.scalars.Scalar.{Ghosts}
use Rattle.irr_rep.specs.Twisted.{phase_table}
use Rattle.irr_rep.specs.declared.table.Twisted.{Twisted}
use Rattle.irr_close.specs.StandsFor.{stands_for}
use Rattle.irr_close.specs.declared.group.Group.{Group}
use Rattle.irr_little.specs.declared.arms.Arm.{Arm}
use Rattle.irr_full.specs.Star.{Star}
use Rattle.irr_full.specs.Full.{IsFullOf}
use Rattle.irr_star.specs.Stars.{IsStarOf}
use Rattle.irr_star.specs.Induced.{IsInduced}
use Rattle.irr_star.specs.declared.full.Full.{Full}
use Rattle.irr_full_text.specs.FullText.{AreGeneratorsOf, full_text, full_content}

-- the matrices of full representations, over the order of the table
abbrev pub Matrices : (group : Group) {k : WaveVector} (S : Star (sign_of group.phase) (stands_for group) k)
    → Representations (phases_at S.table) → Type 0
Matrices group S L = (m : Fin L.count) → Operation → Matrix (numbers S.table.order) (times S.arms (L.size m))
    (times S.arms (L.size m))

pub record IsPrintedStar (group : Group) (arms : List Arm) (t : Twisted) {k : WaveVector}
    (S : Star (sign_of group.phase) (stands_for group) k) : Type 0 where
  pub reduced : IsReduced (stands_for group) k k
  pub star : IsStarOf group arms t S
  pub order : (phase_table t).order ≡ S.table.order
  pub count : length group.ops.items ≡ S.count
  pub canonical : (i : Fin S.count) (d : Op) → operation (slice_index_or group.ops.items (to_nat i) d) ≡ S.canonical i

pub record AreFullsOf {X : Type 0} {V : Ghosts X} (group : Group) {k : WaveVector}
    (S : Star (sign_of group.phase) (stands_for group) k)
    (v : S.table.order ∣ S.table.order) (L : Representations (phases_at S.table)) (A : Matrices group S L)
    (fulls : List (Full X V)) : Type 0 where
  pub count : length fulls ≡ L.count
  pub induced : (m : Fin L.count) (f : Full X V) → IsInduced group S S.table.order v
      (over S.table S.table.order v (L.member m)) (slice_index_or fulls (to_nat m) f)
  pub is_full : (m : Fin L.count) → IsFullOf S S.table.order v (over S.table S.table.order v (L.member m)) (A m)

pub record IsTextAt (group : Group) {k : WaveVector} (S : Star (sign_of group.phase) (stands_for group) k)
    (L : Representations (phases_at S.table))
    (A : Matrices group S L) (text : List ℕ) : Type 0 where
  pub generators : List Operation
  pub are_generators : AreGeneratorsOf (stands_for group) S.canonical generators
  pub is_text : text ≡ full_text (full_content k S generators (λ m. times S.arms (L.size m)) A)
