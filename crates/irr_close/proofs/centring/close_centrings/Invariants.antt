-- The list has the translations of the products so far; then it is settled up to the next translation.
use Rattle.std.proofs.Common.{◌≤◌, ◌-◌, length}
use Rattle.irr_close.specs.Centring.{IsPartialLattice, IsGathered, IsSettled}
use Rattle.irr_close.proofs.centring.close_centrings.Given as goal

abbrev pub invariant-loop-op : goal.invariant-loop-op
invariant-loop-op l = record {
  lattice : IsPartialLattice l.generators l.centrings.items;
  gathered : IsGathered l.generators l.seeds l.kept l.centrings.items l.op-index;
}

abbrev pub invariant-loop-i : goal.invariant-loop-i
invariant-loop-i l = record {
  lattice : IsPartialLattice l.generators l.centrings.items;
  within : l.i ≤ length l.centrings.items;
  settled : IsSettled l.generators l.seeds l.kept l.centrings.items l.i;
}

abbrev pub decreases-loop-i : goal.decreases-loop-i
decreases-loop-i l = 32 - l.i
