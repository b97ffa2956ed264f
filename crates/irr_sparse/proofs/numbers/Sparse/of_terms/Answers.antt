-- Terms in lowest terms are a number's form.
use Rattle.std.proofs.Common.{◌≡◌, sym, ◌∙◌, ap, subst, ℕ, ℤ, List, ◌++◌, take, drop, length}
use Rattle.irr_sparse.specs.TermList.{AreTerms, IsLowest}
use Rattle.irr_sparse.specs.Value.{value_of}
use Rattle.irr_sparse.proofs.Products.{written-terms}
use Rattle.irr_sparse.proofs.numbers.Sparse.of_terms.Goals as goal

pub invariant_of-result : goal.invariant_of-result
invariant_of-result c =
    let back : take (length c.args.terms.items) (c.to_lowest_terms-den.new.terms ++ drop (length c.to_lowest_terms-den.new.terms) c.args.terms.items) ≡ c.to_lowest_terms-den.new.terms =
    written-terms c.args.terms.items c.to_lowest_terms-den.new.terms (length c.args.terms.items) (c.to_lowest_terms-den.auto.terms ∙ ap length c.as_mut_slice.ensures.value) in
    record {
      some = c.requires.some;
      few = c.requires.few;
      positive = c.to_lowest_terms-den.ensures.positive;
      canonical = subst (λ (ts : List (ℕ × ℤ)). AreTerms c.args.n 0 ts) (sym back) (c.to_lowest_terms-den.ensures.terms c.args.n (subst (λ (ts : List (ℕ × ℤ)). AreTerms c.args.n 0 ts) (sym c.as_mut_slice.ensures.value) c.requires.terms));
      lowest = subst (λ (ts : List (ℕ × ℤ)). IsLowest ts c.to_lowest_terms-den.result) (sym back) c.to_lowest_terms-den.ensures.lowest;
    }

pub returns-clause-value : goal.returns-clause-value
returns-clause-value c =
    let back : take (length c.args.terms.items) (c.to_lowest_terms-den.new.terms ++ drop (length c.to_lowest_terms-den.new.terms) c.args.terms.items) ≡ c.to_lowest_terms-den.new.terms =
    written-terms c.args.terms.items c.to_lowest_terms-den.new.terms (length c.args.terms.items) (c.to_lowest_terms-den.auto.terms ∙ ap length c.as_mut_slice.ensures.value) in
    ap (λ (ts : List (ℕ × ℤ)). value_of c.args.n ts c.to_lowest_terms-den.result) back
    ∙ c.to_lowest_terms-den.ensures.value c.args.n c.requires.some (subst (λ (ts : List (ℕ × ℤ)). AreTerms c.args.n 0 ts) (sym c.as_mut_slice.ensures.value) c.requires.terms)
    ∙ ap (λ (ts : List (ℕ × ℤ)). value_of c.args.n ts c.args.den) c.as_mut_slice.ensures.value
