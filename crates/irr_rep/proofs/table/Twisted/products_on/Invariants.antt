-- The rows so far are those of the products.
use Rattle.std.proofs.Common.{◌≡◌, ◌+◌, ◌*◌, length}
use Rattle.irr_rep.specs.Twisted.{IsMemberProduct}
use Rattle.irr_rep.proofs.Rows.{FilledRows}
use Rattle.irr_rep.proofs.table.Twisted.products_on.Given as goal

abbrev pub invariant-loop-j : goal.invariant-loop-j
invariant-loop-j l = record {
  count : length l.products.items ≡ l.i-index * length l.members + l.j-index;
  rows : FilledRows (length l.members) (IsMemberProduct l.self l.members) l.products.items;
}

abbrev pub invariant-loop-i : goal.invariant-loop-i
invariant-loop-i l = record {
  count : length l.products.items ≡ l.i-index * length l.members;
  rows : FilledRows (length l.members) (IsMemberProduct l.self l.members) l.products.items;
}
