-- The columns so far are those of the unit.
use Rattle.std.proofs.Common.{ℕ, ◌≡◌, ◌<◌, length, slice_index}
use Rattle.irr_rep.specs.Table.{entry}
use Rattle.irr_rep.proofs.table.unit_columns.Given as goal

abbrev pub invariant-loop-i : goal.invariant-loop-i
invariant-loop-i l = record {
  count : length l.columns.items ≡ l.i;
  columns : (k : ℕ) → k < l.i → (slice_index l.columns.items k < l.size) × (entry l.size l.products k (slice_index l.columns.items k) ≡ 0);
}
