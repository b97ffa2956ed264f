-- The terms so far are added.
use Rattle.std.proofs.Common.{◌≡◌, ◌+◌, ◌*◌, ◌≤◌, take}
use Rattle.std.specs.Int.RustNames.{unsigned_abs}
use Rattle.irr_number.specs.Number.{numbers}
use Rattle.irr_cyc.specs.Terms.{terms_sum}
use Rattle.irr_sparse.specs.TermList.{AreTerms, row_sum, total}
use Rattle.irr_sparse.specs.Parts.{weight}
use Rattle.irr_sparse.proofs.terms.add_row.Given as goal

abbrev pub invariant-loop-exponent : goal.invariant-loop-exponent
invariant-loop-exponent l = record {
  terms : AreTerms l.n 0 l.sums.items;
  sum : terms_sum l.n l.sums.items ≡ (numbers l.n).add (terms_sum l.n l.initial.sums.items) (row_sum l.n l.times l.shift l.factor (take l.exponent-index l.terms));
  most : total l.sums.items ≤ total l.initial.sums.items + unsigned_abs l.times * total (take l.exponent-index l.terms) * weight l.parts;
}
