-- The list has grown from the one that was lent, and has the translation turned by the rotations so far.
use Rattle.std.proofs.Common.{ℕ, ◌<◌, List}
use Rattle.std.specs.List.{All, HoldsAt}
use Rattle.irr_space.specs.Operation.{translation}
use Rattle.irr_rat.specs.VectorMeaning.{vector}
use Rattle.irr_seitz.specs.OperationMeaning.{operation}
use Rattle.irr_seitz.specs.declared.op.Op.{Op}
use Rattle.irr_close.specs.Closing.{IsKept, IsLonger}
use Rattle.irr_close.specs.Centring.{AreInvertible, HasQuotient, IsPartialLattice}
use Rattle.irr_close.proofs.centring.turn.Given as goal

abbrev pub invariant-loop-op : goal.invariant-loop-op
invariant-loop-op l = record {
  longer : IsLonger l.fn.centrings.items l.centrings.items;
  turned : (j : ℕ) → j < l.op-index
      → HoldsAt (λ g. HoldsAt (λ c. HasQuotient l.kept l.centrings.items (operation g) (translation (vector c))) l.fn.centrings.items l.i) l.kept j;
  lattice : (gs : List Op) → AreInvertible gs → All (IsKept gs) l.kept → IsPartialLattice gs l.fn.centrings.items
      → IsPartialLattice gs l.centrings.items;
}
