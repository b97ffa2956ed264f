-- No terms are the form of 0.
use Rattle.std.proofs.Common.{sym, ◌∙◌, ap, subst, ℕ, ℤ, List, arith}
use Rattle.irr_sparse.specs.TermList.{AreTerms, IsLowest}
use Rattle.irr_sparse.specs.Value.{value_of}
use Rattle.irr_sparse.proofs.Forms.{none-lowest}
use Rattle.irr_sparse.proofs.Lists.{terms-none}
use Rattle.irr_sparse.proofs.Values.{value-none}
use Rattle.irr_sparse.proofs.numbers.SparseScalar.zero.Goals as goal

pub invariant_of-result : goal.invariant_of-result
invariant_of-result c = record {
  some = c.n.ensures.positive;
  few = c.n.ensures.limited;
  positive = omega arith;
  canonical = subst (λ (ts : List (ℕ × ℤ)). AreTerms c.n.result 0 ts) (sym c.new.ensures.items) (terms-none c.n.result 0);
  lowest = subst (λ (ts : List (ℕ × ℤ)). IsLowest ts 1) (sym c.new.ensures.items) none-lowest;
}

pub returns-clause-value : goal.returns-clause-value
returns-clause-value c = ap (λ (ts : List (ℕ × ℤ)). value_of c.args.order.now.n ts 1) c.new.ensures.items ∙ value-none c.args.order.now.n 1 (omega arith)
