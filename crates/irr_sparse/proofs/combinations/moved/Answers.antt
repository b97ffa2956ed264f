-- The terms at their new places.
use Rattle.std.proofs.Common.{sym, ◌∙◌, ap, subst, ℕ, ℤ, pos, List}
use Rattle.irr_algebra.proofs.Rings.{zero-add}
use Rattle.irr_number.specs.Number.{numbers}
use Rattle.irr_cyc.specs.Terms.{terms_sum}
use Rattle.irr_sparse.specs.Parts.{IsFreeOutside}
use Rattle.irr_sparse.specs.TermList.{AreTerms, row_sum}
use Rattle.irr_sparse.specs.declared.parts.Part.{Part}
use Rattle.irr_sparse.proofs.Lists.{terms-none}
use Rattle.irr_sparse.proofs.Sums.{sum-none}
use Rattle.irr_sparse.proofs.combinations.moved.Goals as goal

pub add_row-requires-clause-all : goal.add_row-requires-clause-all
add_row-requires-clause-all c = subst (λ (ps : List Part). (j : ℕ) → IsFreeOutside c.args.n ps j) (sym c.as_slice.ensures.value) c.parts_of-parts.ensures.all

pub add_row-requires-clause-terms : goal.add_row-requires-clause-terms
add_row-requires-clause-terms c = subst (λ (ts : List (ℕ × ℤ)). AreTerms c.args.n 0 ts) (sym c.new-sums.ensures.items) (terms-none c.args.n 0)

pub returns-clause-sum : goal.returns-clause-sum
returns-clause-sum c = c.in_ok-add_row.ensures.sum ∙ ap (λ (ts : List (ℕ × ℤ)). (numbers c.args.n).add (terms_sum c.args.n ts) (row_sum c.args.n (pos 1) 0 c.args.factor c.args.terms.now)) c.new-sums.ensures.items
    ∙ ap (λ x. (numbers c.args.n).add x (row_sum c.args.n (pos 1) 0 c.args.factor c.args.terms.now)) (sum-none c.args.n) ∙ zero-add (numbers c.args.n) (row_sum c.args.n (pos 1) 0 c.args.factor c.args.terms.now)
