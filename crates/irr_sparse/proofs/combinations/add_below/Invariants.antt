-- The terms before the place are added.
use Rattle.std.proofs.Common.{◌≡◌, ◌+◌, ◌*◌, ◌-◌, ◌≤◌, ℕ, drop, length}
use Rattle.std.specs.Int.RustNames.{unsigned_abs}
use Rattle.irr_number.specs.Number.{numbers}
use Rattle.irr_rational.specs.Integer.{integer}
use Rattle.irr_cyc.specs.Terms.{terms_sum}
use Rattle.irr_sparse.specs.TermList.{AreTerms, total}
use Rattle.irr_sparse.proofs.combinations.add_below.Given as goal

abbrev pub invariant-loop-next : goal.invariant-loop-next
invariant-loop-next l = record {
  within : l.next ≤ length l.terms;
  terms : (n : ℕ) → AreTerms n 0 l.initial.sums.items → AreTerms n 0 l.terms → AreTerms n 0 l.sums.items;
  sum : (n : ℕ) → (numbers n).add (terms_sum n l.sums.items) ((numbers n).mul (integer (numbers n) l.times) (terms_sum n (drop l.next l.terms)))
      ≡ (numbers n).add (terms_sum n l.initial.sums.items) ((numbers n).mul (integer (numbers n) l.times) (terms_sum n (drop l.fn.from l.terms)));
  most : total l.sums.items + total (drop l.next l.terms) * unsigned_abs l.times ≤ total l.initial.sums.items + total (drop l.fn.from l.terms) * unsigned_abs l.times;
}

abbrev pub decreases-loop-next : goal.decreases-loop-next
decreases-loop-next l = length l.terms - l.next
