-- The blocks of the first columns.
use Rattle.std.proofs.Common.{ℕ, ◌≡◌, length}
use Rattle.std.specs.Int.{◌∣◌}
use Rattle.irr_theory.specs.FactorSystem.{Representation}
use Rattle.irr_space.specs.Operation.{WaveVector}
use Rattle.irr_space.specs.PhaseTable.{phases_over}
use Rattle.irr_seitz.specs.OperationMeaning.{operation}
use Rattle.irr_seitz.specs.PhaseMeaning.{sign_of}
use Rattle.irr_close.specs.StandsFor.{stands_for}
use Rattle.irr_close.specs.declared.group.Group.{Group}
use Rattle.irr_full.specs.Star.{Star}
use Rattle.irr_star.specs.Blocks.{IsBlockAt}
use Rattle.irr_star.specs.Induced.{IsInduced}
use Rattle.irr_star.proofs.FamilyItems.{ItemsSoFar}
use Rattle.irr_star.proofs.full.Full.blocks.Given as goal

abbrev pub invariant-loop-column : goal.invariant-loop-column
invariant-loop-column g l = record {
  count : length l.blocks.items ≡ l.column;
  so_far : (group : Group) (k : WaveVector) (U : Star (sign_of group.phase) (stands_for group) k) (M : ℕ)
      (v : U.table.order ∣ M)
      (d : ℕ) (D : Representation (phases_over U.table M v) d) → IsInduced group U M v D l.self
      → ItemsSoFar (λ j b. IsBlockAt U M (operation l.op) j b) l.column l.blocks.items;
}
