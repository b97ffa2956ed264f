-- The rows so far are those of the exponents.
use Rattle.std.proofs.Common.{◌≡◌, ◌+◌, ◌*◌, length}
use Rattle.irr_rep.specs.Twisted.{IsMemberExponent}
use Rattle.irr_rep.proofs.Rows.{FilledRows}
use Rattle.irr_rep.proofs.table.Twisted.exponents_on.Given as goal

abbrev pub invariant-loop-j : goal.invariant-loop-j
invariant-loop-j l = record {
  count : length l.exponents.items ≡ l.i-index * length l.members + l.j-index;
  rows : FilledRows (length l.members) (IsMemberExponent l.self l.members) l.exponents.items;
}

abbrev pub invariant-loop-i : goal.invariant-loop-i
invariant-loop-i l = record {
  count : length l.exponents.items ≡ l.i-index * length l.members;
  rows : FilledRows (length l.members) (IsMemberExponent l.self l.members) l.exponents.items;
}
