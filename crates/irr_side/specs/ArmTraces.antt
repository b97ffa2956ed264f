-- Traces of full representations, arm by arm, at the operations of a little group.
--   AreEach P k ys                ys are k items, and P n y for the item y with the number n
--   AreMembers group ops          operations of the group with small vectors
--   HasCellVector g                    no component of its vector is above 1 in absolute value
--   HasMember M g full            full is one of the group of g, which has a small vector, and its order divides M
--   HasMembers M ops full         full is one of the group of ops, and its order divides M
--   IsArmTrace full i g M x       x is the trace of the block of the arm i at g, over the numbers of order M
--   IsArmRow full i ops M row     row has these at the operations ops, in order
--   AreArmRows full ops M rows    rows are so for the arms, in order
--   AreTables fulls ops M ts      ts are so for the full representations, in order
use Rattle.std.specs.Prelude.{ℕ, ◌≡◌, ◌<◌, ◌≤◌, List, length, slice_index_or, unsigned_abs, Vec}
use Rattle.std.specs.Global.{Global}
use Rattle.std.specs.Int.{◌∣◌}
use Rattle.std.specs.List.{All}
use Rattle.irr_algebra.specs.Fin.{Fin, to_nat}
use Rattle.irr_algebra.specs.Matrix.{Matrix, trace}
use Rattle.irr_algebra.specs.Pair.{times}
use Rattle.irr_number.specs.Number.{numbers}
use Rattle.irr_canonical.specs.RootSum.{IsRootSum}
use Rattle.irr_rational.specs.Ratio.{entry}
use Rattle.irr_theory.specs.FactorSystem.{Representation}
use Rattle.irr_space.specs.Operation.{Operation, WaveVector}
use Rattle.irr_space.specs.PhaseTable.{phases_at}
use Rattle.irr_space.specs.CompleteList.{over}
use Rattle.irr_seitz.specs.OperationMeaning.{operation}
use Rattle.irr_seitz.specs.PhaseMeaning.{sign_of}
use Rattle.irr_seitz.specs.declared.op.Op.{Op}
use Rattle.irr_cyc.specs.declared.scalars.Scalar.{Ghosts}
use Rattle.irr_close.specs.StandsFor.{stands_for}
use Rattle.irr_close.specs.declared.group.Group.{Group}
use Rattle.irr_full.specs.Star.{Star}
use Rattle.irr_full.specs.Full.{IsFullOf, block}
use Rattle.irr_star.specs.Sizes.{HasSmallVector}
use Rattle.irr_star.specs.Induced.{IsFullRepresentation, IsInduced}
use Rattle.irr_star.specs.declared.full.Full.{Full}

pub record AreEach {Y : Type 0} (P : ℕ → Y → Type 0) (k : ℕ) (ys : List Y) : Type 0 where
  pub count : length ys ≡ k
  pub each : (n : ℕ) (y : Y) → n < k → P n (slice_index_or ys n y)

abbrev pub AreMembers : Group → List Op → Type 0
AreMembers group ops = All (λ g. stands_for group (operation g) × HasSmallVector g) ops

abbrev pub HasCellVector : Op → Type 0
HasCellVector g = (i : Fin 3) → unsigned_abs (entry g.num i) ≤ g.den

pub record HasMember {X : Type 0} {V : Ghosts X} (M : ℕ) (g : Op) (full : Full X V) : Type 0 where
  pub induced : IsFullRepresentation full
  pub member : stands_for full.group (operation g)
  pub small : HasSmallVector g
  pub divides : full.order.n ∣ M

pub record HasMembers {X : Type 0} {V : Ghosts X} (M : ℕ) (ops : List Op) (full : Full X V) : Type 0 where
  pub induced : IsFullRepresentation full
  pub members : AreMembers full.group ops
  pub divides : full.order.n ∣ M

-- for whatever star, small representation and full representation stand behind it; and it is a sum of few powers of z
pub record IsArmTrace {X : Type 0} {V : Ghosts X} (full : Full X V) (arm : ℕ) (g : Operation) (M : ℕ) (x : X) : Type 0 where
  pub order : V.order_of x ≡ M
  pub trace_at : (group : Group) (k : WaveVector) (U : Star (sign_of group.phase) (stands_for group) k)
      (v : U.table.order ∣ U.table.order) (u : U.table.order ∣ M) (d : ℕ) (D : Representation (phases_at U.table) d)
      → IsInduced group U U.table.order v (over U.table U.table.order v D) full → stands_for group g
      → (F : Operation → Matrix (numbers M) (times U.arms d) (times U.arms d)) → IsFullOf U M u (over U.table M u D) F
      → (i : Fin U.arms) → to_nat i ≡ arm
      → (V.value M x ≡ trace (block d (F g) i i)) × IsRootSum M d 1 (trace (block d (F g) i i))

abbrev pub IsArmRow : {X : Type 0} {V : Ghosts X} → Full X V → ℕ → List Op → ℕ → List X → Type 0
IsArmRow {X} {V} full arm ops M row = AreEach
    (λ p (x : X). (g : Op) → IsArmTrace {V = V} full arm (operation (slice_index_or ops p g)) M x) (length ops) row

abbrev pub AreArmRows : {X : Type 0} {V : Ghosts X} → Full X V → List Op → ℕ → List (Vec X Global) → Type 0
AreArmRows {X} {V} full ops M rows = AreEach (λ i (row : Vec X Global). IsArmRow {V = V} full i ops M row.items)
    (length full.arms.items) rows

abbrev pub AreTables : {X : Type 0} {V : Ghosts X} → List (Full X V) → List Op → ℕ → List (Vec (Vec X Global) Global)
    → Type 0
AreTables {X} {V} fulls ops M tables = AreEach (λ m (rows : Vec (Vec X Global) Global). (full : Full X V)
    → AreArmRows {V = V} (slice_index_or fulls m full) ops M rows.items) (length fulls) tables
