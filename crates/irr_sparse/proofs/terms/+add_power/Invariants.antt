-- The turns so far are added, and the list of the primes gets shorter.
use Rattle.std.proofs.Common.{◌≡◌, ◌+◌, ◌*◌, ◌-◌, ◌≤◌, neg_ℤ, length}
use Rattle.irr_number.specs.Number.{numbers}
use Rattle.irr_rational.specs.Integer.{integer}
use Rattle.irr_cyc.specs.Terms.{terms_sum}
use Rattle.std.specs.Int.RustNames.{unsigned_abs}
use Rattle.irr_sparse.specs.TermList.{AreTerms, total}
use Rattle.irr_sparse.specs.Parts.{weight}
use Rattle.irr_sparse.proofs.Tops.{others}
use Rattle.irr_sparse.proofs.terms.+add_power.Given as goal

abbrev pub invariant-loop-turns : goal.invariant-loop-turns
invariant-loop-turns l = record {
  terms : AreTerms l.n 0 l.terms.items;
  sum : terms_sum l.n l.terms.items ≡ (numbers l.n).add (terms_sum l.n l.initial.terms.items) ((numbers l.n).mul (integer (numbers l.n) (neg_ℤ l.coefficient)) (others l.n l.turns-end l.exponent (l.turns - 1)));
  most : total l.terms.items ≤ total l.initial.terms.items + unsigned_abs l.coefficient * weight l.rest * (l.turns - 1);
}

abbrev pub decreases-add_power : goal.decreases-add_power
decreases-add_power l = length l.parts.now
