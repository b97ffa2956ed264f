-- One term more.
use Rattle.std.proofs.Common.{rules, ◌≡◌, sym, ◌∙◌, ap, subst, ℕ, ℤ, ◌+◌, ◌*◌, ◌<◌, ◌≤◌, ◌^◌, List, [], unsigned_abs, FitsSigned, to_z, of_z, arith}
use Rattle.std.proofs.lemmas.Int.{to_z-of_z}
use mir.Syntax.{w64}
use Rattle.irr_cyc.specs.Terms.{terms_sum}
use Rattle.irr_sparse.specs.Parts.{IsFreeOutside, weight}
use Rattle.irr_sparse.specs.TermList.{AreTerms, coefficient_at, total}
use Rattle.irr_sparse.specs.declared.parts.Part.{Part}
use Rattle.irr_sparse.proofs.Lists.{terms-none}
use Rattle.irr_sparse.proofs.Products.{collected-end, collected-most, collected-next, collected-small}
use Rattle.irr_sparse.proofs.combinations.collected.Goals as goal

nothing : (ts : List (ℕ × ℤ)) (k : ℕ) → ts ≡ [] → total ts ≤ k
nothing ts k e = let s : total ts ≡ 0 = ap total e in omega arith

pub loop-exponent-init : goal.loop-exponent-init
loop-exponent-init c = record {
  terms = subst (λ (ts : List (ℕ × ℤ)). AreTerms c.args.n 0 ts) (sym c.new-sums.ensures.items) (terms-none c.args.n 0);
  sum = ap (terms_sum c.args.n) c.new-sums.ensures.items;
  most = nothing c.new-sums.result.items (0 * weight c.parts_of-parts.result.items) c.new-sums.ensures.items;
}

pub add_whole-requires-clause-all : goal.add_whole-requires-clause-all
add_whole-requires-clause-all c = subst (λ (ps : List Part). (j : ℕ) → IsFreeOutside c.args.n ps j) (sym c.as_slice.ensures.value) c.parts_of-parts.ensures.all

pub add_whole-requires-clause-small : goal.add_whole-requires-clause-small
add_whole-requires-clause-small c =
    let fits : FitsSigned w64 (coefficient_at c.args.terms.now c.loop-exponent.exponent-index) = search rules in
    let r : to_z w64 (of_z w64 (coefficient_at c.args.terms.now c.loop-exponent.exponent-index)) ≡ (coefficient_at c.args.terms.now c.loop-exponent.exponent-index) = to_z-of_z w64 (coefficient_at c.args.terms.now c.loop-exponent.exponent-index) fits in
    let weights : weight c.as_slice.result.now ≡ weight c.parts_of-parts.result.items = ap weight c.as_slice.ensures.value in
    let few : weight c.parts_of-parts.result.items ≤ 12000 = (let a : weight c.parts_of-parts.result.items ≤ c.args.n = c.parts_of-parts.ensures.weight in let b : c.args.n ≤ 12000 = c.requires.few in omega arith) in
    subst (λ x. total c.loop-exponent.sums.items + unsigned_abs x * weight c.as_slice.result.now < 2 ^ 126) (sym r)
    (subst (λ k. total c.loop-exponent.sums.items + unsigned_abs (coefficient_at c.args.terms.now c.loop-exponent.exponent-index) * k < 2 ^ 126) (sym weights)
    (collected-small c.args.terms.now (total c.loop-exponent.sums.items) c.loop-exponent.exponent-index (weight c.parts_of-parts.result.items) c.loop-exponent-test.true few c.requires.small c.loop-exponent.invariant.most))

pub loop-exponent-preserved : goal.loop-exponent-preserved
loop-exponent-preserved c =
    let fits : FitsSigned w64 (coefficient_at c.args.terms.now c.loop-exponent.exponent-index) = search rules in
    let r : to_z w64 (of_z w64 (coefficient_at c.args.terms.now c.loop-exponent.exponent-index)) ≡ (coefficient_at c.args.terms.now c.loop-exponent.exponent-index) = to_z-of_z w64 (coefficient_at c.args.terms.now c.loop-exponent.exponent-index) fits in
    let weights : weight c.as_slice.result.now ≡ weight c.parts_of-parts.result.items = ap weight c.as_slice.ensures.value in
    record {
      terms = c.in_ok-add_whole.ensures.terms;
      sum = collected-next c.args.n c.args.terms.now (terms_sum c.args.n c.loop-exponent.sums.items) (terms_sum c.args.n c.add_whole.new.sums.items) c.loop-exponent.exponent-index _ c.loop-exponent-test.true r c.loop-exponent.invariant.sum c.in_ok-add_whole.ensures.sum;
      most = collected-most c.args.terms.now (total c.loop-exponent.sums.items) (total c.add_whole.new.sums.items) c.loop-exponent.exponent-index (weight c.parts_of-parts.result.items) (unsigned_abs (to_z w64 (of_z w64 (coefficient_at c.args.terms.now c.loop-exponent.exponent-index)))) c.loop-exponent-test.true (ap unsigned_abs r) c.loop-exponent.invariant.most
          (subst (λ k. total c.add_whole.new.sums.items ≤ total c.loop-exponent.sums.items + unsigned_abs (to_z w64 (of_z w64 (coefficient_at c.args.terms.now c.loop-exponent.exponent-index))) * k) weights c.in_ok-add_whole.ensures.total);
    }

pub returns-clause-sum : goal.returns-clause-sum
returns-clause-sum c = c.loop-exponent.invariant.sum ∙ collected-end c.args.n c.args.terms.now c.loop-exponent.exponent-index c.loop-exponent-test.false
