-- The rows so far are those of the products, and of exponents 0.
use Rattle.std.proofs.Common.{◌≡◌, ◌+◌, ◌*◌, length}
use Rattle.irr_rep.proofs.Rows.{FilledRows}
use Rattle.irr_site.specs.Tables.{IsPlaceProduct}
use Rattle.irr_site.proofs.table.entries.Given as goal

abbrev pub invariant-loop-j : goal.invariant-loop-j
invariant-loop-j l = record {
  count : length l.table.items ≡ l.i-index * length l.places + l.j-index;
  rows : FilledRows (length l.places) (IsPlaceProduct l.group l.places) l.table.items;
  exponent_count : length l.exponents.items ≡ l.i-index * length l.places + l.j-index;
  exponent_rows : FilledRows (length l.places) (λ a b x. x ≡ 0) l.exponents.items;
}

abbrev pub invariant-loop-i : goal.invariant-loop-i
invariant-loop-i l = record {
  count : length l.table.items ≡ l.i-index * length l.places;
  rows : FilledRows (length l.places) (IsPlaceProduct l.group l.places) l.table.items;
  exponent_count : length l.exponents.items ≡ l.i-index * length l.places;
  exponent_rows : FilledRows (length l.places) (λ a b x. x ≡ 0) l.exponents.items;
}
