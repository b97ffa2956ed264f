-- The rows so far are those of the products.
use Rattle.std.proofs.Common.{◌≡◌, ◌+◌, ◌*◌, length}
use Rattle.irr_rep.proofs.Rows.{FilledRows}
use Rattle.irr_site.specs.Products.{IsRotationProduct}
use Rattle.irr_site.proofs.products.products.Given as goal

abbrev pub invariant-loop-j : goal.invariant-loop-j
invariant-loop-j l = record {
  size : l.count ≡ length l.group.ops.items;
  count : length l.numbers.items ≡ l.i * length l.group.ops.items + l.j;
  rows : FilledRows (length l.group.ops.items) (IsRotationProduct l.group) l.numbers.items;
}

abbrev pub invariant-loop-i : goal.invariant-loop-i
invariant-loop-i l = record {
  size : l.count ≡ length l.group.ops.items;
  count : length l.numbers.items ≡ l.i * length l.group.ops.items;
  rows : FilledRows (length l.group.ops.items) (IsRotationProduct l.group) l.numbers.items;
}
