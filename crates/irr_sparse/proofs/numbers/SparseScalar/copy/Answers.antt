-- The same terms are the same form.
use Rattle.std.proofs.Common.{◌≡◌, sym, ◌∙◌, ap, subst, ℕ, ℤ, List}
use Rattle.irr_sparse.specs.TermList.{AreTerms, IsLowest}
use Rattle.irr_sparse.specs.Value.{value_of}
use Rattle.irr_sparse.proofs.numbers.SparseScalar.copy.Goals as goal

pub invariant_of-result : goal.invariant_of-result
invariant_of-result c =
    let same : c.in_ok-terms.terms.items ≡ c.args.self.now.terms.items = c.in_ok-terms.ensures ∙ c.as_slice.ensures in
    record {
      some = c.args.self.now.some;
      few = c.args.self.now.few;
      positive = c.args.self.now.positive;
      canonical = subst (λ (ts : List (ℕ × ℤ)). AreTerms c.args.self.now.n 0 ts) (sym same) c.args.self.now.canonical;
      lowest = subst (λ (ts : List (ℕ × ℤ)). IsLowest ts c.args.self.now.den) (sym same) c.args.self.now.lowest;
    }

pub returns-clause-value : goal.returns-clause-value
returns-clause-value c = ap (λ (ts : List (ℕ × ℤ)). value_of c.args.self.now.n ts c.args.self.now.den) (c.in_ok-terms.ensures ∙ c.as_slice.ensures)
