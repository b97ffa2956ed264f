-- The trace of the part of a restriction at an operation: the sum of the traces of the blocks of some arms.
--   PartAt M full arms g     arms are the numbers of arms of full, whose blocks are taken at the operation g
--   part_sum e               the sum of their traces
--   IsPartTrace .. x         x is that sum
--   IsPartRow .. arms ops row    row has these at the operations ops, in order
use Rattle.std.specs.Prelude.{ℕ, ◌≡◌, ◌<◌, ◌≤◌, List, length, slice_index_or}
use Rattle.std.specs.Int.{◌∣◌}
use Rattle.irr_algebra.specs.Fin.{Fin, to_nat}
use Rattle.irr_algebra.specs.Matrix.{Matrix, trace}
use Rattle.irr_algebra.specs.Pair.{times}
use Rattle.irr_algebra.specs.Sum.{sum}
use Rattle.irr_number.specs.Number.{Number, numbers}
use Rattle.irr_theory.specs.FactorSystem.{Representation}
use Rattle.irr_space.specs.Operation.{Operation, WaveVector}
use Rattle.irr_space.specs.PhaseTable.{phases_at}
use Rattle.irr_space.specs.CompleteList.{over}
use Rattle.irr_seitz.specs.OperationMeaning.{operation}
use Rattle.irr_seitz.specs.PhaseMeaning.{sign_of}
use Rattle.irr_seitz.specs.declared.op.Op.{Op}
use Rattle.irr_cyc.specs.declared.scalars.Scalar.{Ghosts}
use Rattle.irr_close.specs.StandsFor.{stands_for}
use Rattle.irr_close.specs.declared.group.Group.{Group}
use Rattle.irr_full.specs.Star.{Star}
use Rattle.irr_full.specs.Full.{IsFullOf, block}
use Rattle.irr_star.specs.Induced.{IsInduced}
use Rattle.irr_star.specs.declared.full.Full.{Full}
use Rattle.irr_mult.specs.Listing.{item}
use Rattle.irr_side.specs.ArmTraces.{AreEach, HasMember}

-- with a star, a small representation and the full one over the numbers of order M
pub record PartAt {X : Type 0} {V : Ghosts X} (M : ℕ) (full : Full X V) (arms : List ℕ) (g : Op) : Type 0 where
  pub has : HasMember M g full
  pub group : Group
  pub wave : WaveVector
  pub star : Star (sign_of group.phase) (stands_for group) wave
  pub own : star.table.order ∣ star.table.order
  pub divides : star.table.order ∣ M
  pub size : ℕ
  pub few_rows : size ≤ 48
  pub small : Representation (phases_at star.table) size
  pub induced : IsInduced group star star.table.order own (over star.table star.table.order own small) full
  pub member : stands_for group (operation g)
  pub at : Operation → Matrix (numbers M) (times star.arms size) (times star.arms size)
  pub is_full : IsFullOf star M divides (over star.table M divides small) at
  pub index : Fin (length arms) → Fin star.arms
  pub is : (t : Fin (length arms)) → to_nat (index t) ≡ item arms t
  pub few : length arms ≤ 48

unfoldable pub part_sum : {X : Type 0} {V : Ghosts X} {M : ℕ} {full : Full X V} {arms : List ℕ} {g : Op} → PartAt M full arms g → Number M
part_sum {M = M} {arms = arms} {g = g} e = sum (numbers M) (length arms)
    (λ t. trace (block e.size (e.at (operation g)) (e.index t) (e.index t)))

pub record IsPartTrace {X : Type 0} {V : Ghosts X} (M : ℕ) (full : Full X V) (arms : List ℕ) (g : Op) (x : X) : Type 0 where
  pub order : V.order_of x ≡ M
  pub value : (e : PartAt M full arms g) → V.value M x ≡ part_sum e

abbrev pub IsPartRow : {X : Type 0} {V : Ghosts X} → ℕ → Full X V → List ℕ → List Op → List X → Type 0
IsPartRow {X} {V} M full arms ops row = AreEach (λ p (x : X). (g : Op) → IsPartTrace {V = V} M full arms (slice_index_or ops p g) x)
    (length ops) row
