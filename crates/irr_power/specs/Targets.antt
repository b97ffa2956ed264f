-- The arms to which operations take others.
--   IsTarget full i g n              g takes the arm i to the arm n
--   IsTargetRow full i ops row       row has these for the operations ops, in order
--   AreTargetRows full ops rows      rows are so for the arms, in order
use Rattle.std.specs.Prelude.{ℕ, ◌≡◌, List, length, slice_index_or, Vec}
use Rattle.std.specs.Global.{Global}
use Rattle.std.specs.Int.{◌∣◌}
use Rattle.irr_algebra.specs.Fin.{Fin, to_nat}
use Rattle.irr_theory.specs.FactorSystem.{Representation}
use Rattle.irr_space.specs.Operation.{Operation, WaveVector}
use Rattle.irr_space.specs.PhaseTable.{phases_over}
use Rattle.irr_seitz.specs.OperationMeaning.{operation}
use Rattle.irr_seitz.specs.PhaseMeaning.{sign_of}
use Rattle.irr_seitz.specs.declared.op.Op.{Op}
use Rattle.irr_cyc.specs.declared.scalars.Scalar.{Ghosts}
use Rattle.irr_close.specs.StandsFor.{stands_for}
use Rattle.irr_close.specs.declared.group.Group.{Group}
use Rattle.irr_full.specs.Star.{Star}
use Rattle.irr_star.specs.Induced.{IsInduced}
use Rattle.irr_star.specs.declared.full.Full.{Full}
use Rattle.irr_side.specs.ArmTraces.{AreEach}
use Rattle.irr_power.specs.Places.{IsTaken}

-- for whatever star and small representation stand behind it
pub record IsTarget {X : Type 0} {V : Ghosts X} (full : Full X V) (arm : ℕ) (g : Operation) (n : ℕ) : Type 0 where
  pub target : (group : Group) (k : WaveVector) (U : Star (sign_of group.phase) (stands_for group) k)
      (M : ℕ) (v : U.table.order ∣ M) (d : ℕ) (D : Representation (phases_over U.table M v) d)
      → IsInduced group U M v D full → (i : Fin U.arms) → to_nat i ≡ arm
      → (j : Fin U.arms) × (to_nat j ≡ n) × IsTaken U g i j

abbrev pub IsTargetRow : {X : Type 0} {V : Ghosts X} → Full X V → ℕ → List Op → List ℕ → Type 0
IsTargetRow {X} {V} full arm ops row = AreEach
    (λ p (n : ℕ). (g : Op) → IsTarget {V = V} full arm (operation (slice_index_or ops p g)) n) (length ops) row

abbrev pub AreTargetRows : {X : Type 0} {V : Ghosts X} → Full X V → List Op → List (Vec ℕ Global) → Type 0
AreTargetRows {X} {V} full ops rows = AreEach (λ i (row : Vec ℕ Global). IsTargetRow {V = V} full i ops row.items)
    (length full.arms.items) rows
