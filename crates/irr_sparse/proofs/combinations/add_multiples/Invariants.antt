-- The multiples so far are added.
use Rattle.std.proofs.Common.{◌≡◌, ◌+◌, ◌*◌, ◌≤◌, ℕ, take}
use Rattle.std.specs.Int.RustNames.{unsigned_abs}
use Rattle.irr_number.specs.Number.{numbers}
use Rattle.irr_rational.specs.Integer.{integer}
use Rattle.irr_cyc.specs.Terms.{terms_sum}
use Rattle.irr_sparse.specs.TermList.{AreTerms, total}
use Rattle.irr_sparse.proofs.combinations.add_multiples.Given as goal

abbrev pub invariant-loop-exponent : goal.invariant-loop-exponent
invariant-loop-exponent l = record {
  terms : (n : ℕ) → AreTerms n 0 l.initial.sums.items → AreTerms n 0 l.terms → AreTerms n 0 l.sums.items;
  sum : (n : ℕ) → terms_sum n l.sums.items ≡ (numbers n).add (terms_sum n l.initial.sums.items) ((numbers n).mul (integer (numbers n) l.times) (terms_sum n (take l.exponent-index l.terms)));
  most : total l.sums.items ≤ total l.initial.sums.items + total (take l.exponent-index l.terms) * unsigned_abs l.times;
}
