-- The rows so far are those of the products, and of the phases.
use Rattle.std.proofs.Common.{◌≡◌, ◌+◌, ◌*◌, length}
use Rattle.irr_rep.proofs.Rows.{FilledRows}
use Rattle.irr_kvec.specs.WaveMeaning.{wave_vector}
use Rattle.irr_little.specs.Entries.{IsProductEntry, IsPhaseEntry}
use Rattle.irr_little.proofs.table.entries.Given as goal

abbrev pub invariant-loop-j : goal.invariant-loop-j
invariant-loop-j l = record {
  count : length l.products.items ≡ l.i-index * length l.places + l.j-index;
  rows : FilledRows (length l.places) (IsProductEntry l.group l.places) l.products.items;
  phase_count : length l.exponents.items ≡ l.i-index * length l.places + l.j-index;
  phases : FilledRows (length l.places) (IsPhaseEntry l.group (wave_vector l.k) l.order l.places) l.exponents.items;
}

abbrev pub invariant-loop-i : goal.invariant-loop-i
invariant-loop-i l = record {
  count : length l.products.items ≡ l.i-index * length l.places;
  rows : FilledRows (length l.places) (IsProductEntry l.group l.places) l.products.items;
  phase_count : length l.exponents.items ≡ l.i-index * length l.places;
  phases : FilledRows (length l.places) (IsPhaseEntry l.group (wave_vector l.k) l.order l.places) l.exponents.items;
}
