-- The list has grown from the one that was lent, and has the differences with the translations so far.
use Rattle.std.proofs.Common.{ℕ, ◌<◌, List}
use Rattle.std.specs.List.{HoldsAt}
use Rattle.irr_seitz.specs.declared.op.Op.{Op}
use Rattle.irr_close.specs.Closing.{IsLonger}
use Rattle.irr_close.specs.Centring.{AreInvertible, HasBothDifferences, IsPartialLattice}
use Rattle.irr_close.proofs.centring.subtract.Given as goal

abbrev pub invariant-loop-j : goal.invariant-loop-j
invariant-loop-j l = record {
  longer : IsLonger l.fn.centrings.items l.centrings.items;
  differences : (k : ℕ) → k < l.j → HoldsAt (λ b. HasBothDifferences l.centrings.items l.chosen b) l.fn.centrings.items k;
  lattice : (gs : List Op) → AreInvertible gs → IsPartialLattice gs l.fn.centrings.items → IsPartialLattice gs l.centrings.items;
}
