-- The rows so far are added.
use Rattle.std.proofs.Common.{◌≡◌, ◌*◌, ◌≤◌, take}
use Rattle.irr_number.specs.Number.{numbers}
use Rattle.irr_cyc.specs.Terms.{terms_sum}
use Rattle.irr_sparse.specs.TermList.{AreTerms, total}
use Rattle.irr_sparse.specs.Parts.{weight}
use Rattle.irr_sparse.proofs.combinations.product.Given as goal

abbrev pub invariant-loop-exponent : goal.invariant-loop-exponent
invariant-loop-exponent l = record {
  terms : AreTerms l.n 0 l.sums.items;
  sum : terms_sum l.n l.sums.items ≡ (numbers l.n).mul (terms_sum l.n (take l.exponent-index l.xs)) (terms_sum l.n l.ys);
  most : total l.sums.items ≤ total (take l.exponent-index l.xs) * total l.ys * weight l.parts.items;
}
