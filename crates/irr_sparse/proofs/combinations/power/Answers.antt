-- The terms of one power.
use Rattle.std.proofs.Common.{◌≡◌, sym, ◌∙◌, ap, subst, ℕ, ℤ, pos, ◌<◌, List, [], ◌∷◌, arith}
use Rattle.irr_number.specs.Number.{root_power}
use Rattle.irr_cyc.specs.Terms.{terms_sum}
use Rattle.irr_sparse.specs.Parts.{IsFreeOutside}
use Rattle.irr_sparse.specs.TermList.{AreTerms}
use Rattle.irr_sparse.specs.declared.parts.Part.{Part}
use Rattle.irr_sparse.proofs.Lists.{terms-none}
use Rattle.irr_sparse.proofs.Products.{alone, sum-unit, terms-one}
use Rattle.irr_sparse.proofs.combinations.power.Goals as goal

pub add_power-requires-clause-free : goal.add_power-requires-clause-free
add_power-requires-clause-free c = (subst (λ (ps : List Part). (j : ℕ) → IsFreeOutside c.args.n ps j) (sym c.as_slice.ensures.value) c.parts_of-parts.ensures.all) c.args.exponent

pub add_power-requires-clause-terms : goal.add_power-requires-clause-terms
add_power-requires-clause-terms c = subst (λ (ts : List (ℕ × ℤ)). AreTerms c.args.n 0 ts) (sym c.new-sums.ensures.items) (terms-none c.args.n 0)

pub returns-clause-sum : goal.returns-clause-sum
returns-clause-sum c = alone c.args.n c.args.exponent c.new-sums.result.items (terms_sum c.args.n c.add_power.new.terms.items) c.new-sums.ensures.items c.in_ok-add_power.ensures.sum

-- 1 alone
one-terms : (n j : ℕ) (us : List (ℕ × ℤ)) → j < n → j ≡ 0 → us ≡ (0, pos 1) ∷ [] → AreTerms n 0 us
one-terms n j us lt z is = subst (AreTerms n 0) (sym is) (terms-one n (omega arith))

one-sum : (n j : ℕ) (us : List (ℕ × ℤ)) → j ≡ 0 → us ≡ (0, pos 1) ∷ [] → terms_sum n us ≡ root_power n j
one-sum n j us z is = ap (terms_sum n) is ∙ sum-unit n ∙ ap (root_power n) (sym z)

pub returns-then-exponent-eq0-clause-terms : goal.returns-then-exponent-eq0-clause-terms
returns-then-exponent-eq0-clause-terms c = one-terms c.args.n c.args.exponent c.from_buf.result.items c.requires.inside c.if-exponent-eq0.true c.from_buf.ensures.items

pub returns-then-exponent-eq0-clause-sum : goal.returns-then-exponent-eq0-clause-sum
returns-then-exponent-eq0-clause-sum c = one-sum c.args.n c.args.exponent c.from_buf.result.items c.if-exponent-eq0.true c.from_buf.ensures.items
