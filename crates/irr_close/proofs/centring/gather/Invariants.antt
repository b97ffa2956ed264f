-- The list has grown from the one that was lent, and has the translations of the products with the factors so far.
use Rattle.std.proofs.Common.{ℕ, ◌<◌, List}
use Rattle.std.specs.List.{HoldsAt}
use Rattle.irr_seitz.specs.OperationMeaning.{operation}
use Rattle.irr_seitz.specs.declared.op.Op.{Op}
use Rattle.irr_close.specs.Closing.{IsLonger}
use Rattle.irr_close.specs.Centring.{AreFrom, HasQuotient, IsPartialLattice}
use Rattle.irr_close.proofs.centring.gather.Given as goal

abbrev pub invariant-loop-factor : goal.invariant-loop-factor
invariant-loop-factor l = record {
  longer : IsLonger l.fn.centrings.items l.centrings.items;
  quotients : (j : ℕ) → j < l.factor-index → HoldsAt (λ s. HasQuotient l.kept l.centrings.items (operation l.op) (operation s)) l.factors j;
  lattice : (gs : List Op) → AreFrom gs l.kept l.op l.factors → IsPartialLattice gs l.fn.centrings.items → IsPartialLattice gs l.centrings.items;
}
