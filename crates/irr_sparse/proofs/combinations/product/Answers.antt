-- One row more.
use Rattle.std.proofs.Common.{length, Bool, true, ◌==◌, rules, ◌≡◌, sym, ◌∙◌, ap, subst, ℕ, ℤ, ◌+◌, ◌*◌, ◌<◌, ◌≤◌, ◌^◌, List, [], unsigned_abs, FitsSigned, to_z, of_z, arith}
use Rattle.std.proofs.lemmas.Grind.{common_steps}
use Rattle.std.proofs.lemmas.Int.{to_z-of_z}
use native.Mathlib.Nat as Nat
use mir.Syntax.{w128}
use Rattle.irr_number.specs.Number.{numbers}
use Rattle.irr_cyc.specs.Terms.{terms_sum}
use Rattle.irr_sparse.specs.Parts.{IsFreeOutside, weight}
use Rattle.irr_sparse.specs.TermList.{AreTerms, coefficient_at, total}
use Rattle.irr_sparse.specs.declared.parts.Part.{Part}
use Rattle.irr_sparse.proofs.Lists.{terms-at, terms-none}
use Rattle.irr_sparse.proofs.Products.{each-inside, each-nonzero, nothing-left, nothing-right, rational-product, rational-small, rational-terms, product-end, product-next, product-start, rows-next, rows-small}
use Rattle.irr_sparse.proofs.combinations.product.Goals as goal

nothing : (ts : List (ℕ × ℤ)) (k : ℕ) → ts ≡ [] → total ts ≤ k
nothing ts k e = let s : total ts ≡ 0 = ap total e in omega arith

pub loop-exponent-init : goal.loop-exponent-init
loop-exponent-init c = record {
  terms = subst (λ (ts : List (ℕ × ℤ)). AreTerms c.args.n 0 ts) (sym c.new-sums.ensures.items) (terms-none c.args.n 0);
  sum = product-start c.args.n c.args.xs.now c.args.ys.now c.new-sums.result.items c.new-sums.ensures.items;
  most = nothing c.new-sums.result.items (0 * total c.args.ys.now * weight c.parts_of-parts.result.items) c.new-sums.ensures.items;
}

pub add_row-requires-clause-all : goal.add_row-requires-clause-all
add_row-requires-clause-all c = subst (λ (ps : List Part). (j : ℕ) → IsFreeOutside c.args.n ps j) (sym c.as_slice.ensures.value) c.parts_of-parts.ensures.all

pub add_row-requires-clause-small : goal.add_row-requires-clause-small
add_row-requires-clause-small c =
    let fits : FitsSigned w128 (coefficient_at c.args.xs.now c.loop-exponent.exponent-index) = search rules in
    let r : to_z w128 (of_z w128 (coefficient_at c.args.xs.now c.loop-exponent.exponent-index)) ≡ (coefficient_at c.args.xs.now c.loop-exponent.exponent-index) = to_z-of_z w128 (coefficient_at c.args.xs.now c.loop-exponent.exponent-index) fits in
    let weights : weight c.as_slice.result.now ≡ weight c.parts_of-parts.result.items = ap weight c.as_slice.ensures.value in
    let few : weight c.parts_of-parts.result.items ≤ 12000 = (let a : weight c.parts_of-parts.result.items ≤ c.args.n = c.parts_of-parts.ensures.weight in let b : c.args.n ≤ 12000 = c.requires.few in omega arith) in
    subst (λ x. total c.loop-exponent.sums.items + unsigned_abs x * total c.args.ys.now * weight c.as_slice.result.now < 2 ^ 126) (sym r)
    (subst (λ k. total c.loop-exponent.sums.items + unsigned_abs (coefficient_at c.args.xs.now c.loop-exponent.exponent-index) * total c.args.ys.now * k < 2 ^ 126) (sym weights)
    (rows-small c.args.n c.args.xs.now c.args.ys.now (total c.loop-exponent.sums.items) c.loop-exponent.exponent-index (weight c.parts_of-parts.result.items) c.loop-exponent-test.true few c.requires.small c.loop-exponent.invariant.most))

pub add_row-requires-clause-inside : goal.add_row-requires-clause-inside
add_row-requires-clause-inside c = each-inside c.args.n 0 c.args.ys.now c.requires.right

pub add_row-requires-clause-each : goal.add_row-requires-clause-each
add_row-requires-clause-each c = each-nonzero c.args.n 0 c.args.ys.now c.requires.right

pub add_row-requires-clause-nonzero : goal.add_row-requires-clause-nonzero
add_row-requires-clause-nonzero c =
    let fits : FitsSigned w128 (coefficient_at c.args.xs.now c.loop-exponent.exponent-index) = search rules in
    let r : to_z w128 (of_z w128 (coefficient_at c.args.xs.now c.loop-exponent.exponent-index)) ≡ (coefficient_at c.args.xs.now c.loop-exponent.exponent-index) = to_z-of_z w128 (coefficient_at c.args.xs.now c.loop-exponent.exponent-index) fits in
    λ z. (terms-at c.args.n 0 c.args.xs.now c.loop-exponent.exponent-index c.requires.left c.loop-exponent-test.true).nonzero (sym r ∙ z)

pub add_row-requires-clause-shift : goal.add_row-requires-clause-shift
add_row-requires-clause-shift c = (terms-at c.args.n 0 c.args.xs.now c.loop-exponent.exponent-index c.requires.left c.loop-exponent-test.true).below

pub loop-exponent-preserved : goal.loop-exponent-preserved
loop-exponent-preserved c =
    let fits : FitsSigned w128 (coefficient_at c.args.xs.now c.loop-exponent.exponent-index) = search rules in
    let r : to_z w128 (of_z w128 (coefficient_at c.args.xs.now c.loop-exponent.exponent-index)) ≡ (coefficient_at c.args.xs.now c.loop-exponent.exponent-index) = to_z-of_z w128 (coefficient_at c.args.xs.now c.loop-exponent.exponent-index) fits in
    let weights : weight c.as_slice.result.now ≡ weight c.parts_of-parts.result.items = ap weight c.as_slice.ensures.value in
    record {
      terms = c.in_ok-add_row.ensures.terms;
      sum = product-next c.args.n c.args.xs.now c.args.ys.now (terms_sum c.args.n c.loop-exponent.sums.items) (terms_sum c.args.n c.add_row.new.sums.items) c.loop-exponent.exponent-index _ c.loop-exponent-test.true r c.loop-exponent.invariant.sum c.in_ok-add_row.ensures.sum;
      most = rows-next c.args.n c.args.xs.now c.args.ys.now (total c.loop-exponent.sums.items) (total c.add_row.new.sums.items) c.loop-exponent.exponent-index (weight c.parts_of-parts.result.items) (unsigned_abs (to_z w128 (of_z w128 (coefficient_at c.args.xs.now c.loop-exponent.exponent-index)))) c.loop-exponent-test.true (ap unsigned_abs r) c.loop-exponent.invariant.most
          (subst (λ k. total c.add_row.new.sums.items ≤ total c.loop-exponent.sums.items + unsigned_abs (to_z w128 (of_z w128 (coefficient_at c.args.xs.now c.loop-exponent.exponent-index))) * total c.args.ys.now * k) weights c.in_ok-add_row.ensures.total);
    }

pub returns-clause-sum : goal.returns-clause-sum
returns-clause-sum c = product-end c.args.n c.args.xs.now c.args.ys.now (terms_sum c.args.n c.loop-exponent.sums.items) c.loop-exponent.exponent-index c.loop-exponent-test.false c.loop-exponent.invariant.sum

no_items : (n : ℕ) (b : Bool) → b ≡ (n == 0) → b ≡ true → n ≡ 0
no_items n b e t = grind (arith, common_steps)

empty : (n : ℕ) (ts : List (ℕ × ℤ)) → ts ≡ [] → AreTerms n 0 ts
empty n ts e = subst (AreTerms n 0) (sym e) (terms-none n 0)

pub returns-then-is_empty-clause-terms : goal.returns-then-is_empty-clause-terms
returns-then-is_empty-clause-terms c = empty c.args.n c.new.result.items c.new.ensures.items

pub returns-then-is_empty-clause-sum : goal.returns-then-is_empty-clause-sum
returns-then-is_empty-clause-sum c = nothing-left c.args.n c.args.xs.now c.args.ys.now c.new.result.items (no_items (length c.args.xs.now) c.is_empty.result c.is_empty.ensures c.if-is_empty.true) c.new.ensures.items

pub returns-then-is_empty-2-clause-terms : goal.returns-then-is_empty-2-clause-terms
returns-then-is_empty-2-clause-terms c = empty c.args.n c.new-then-is_empty-2.result.items c.new-then-is_empty-2.ensures.items

pub returns-then-is_empty-2-clause-sum : goal.returns-then-is_empty-2-clause-sum
returns-then-is_empty-2-clause-sum c = nothing-right c.args.n c.args.xs.now c.args.ys.now c.new-then-is_empty-2.result.items (no_items (length c.args.ys.now) c.is_empty-2.result c.is_empty-2.ensures c.if-is_empty-2.true) c.new-then-is_empty-2.ensures.items

turned-small : (x y : ℕ) → x * y ≤ 2 ^ 100 → y * x ≤ 2 ^ 100
turned-small x y h = omega (arith, h, Nat.mul_comm x y)

pub scaled-requires : goal.scaled-requires
scaled-requires c =
    let fits : FitsSigned w128 (coefficient_at c.args.xs.now 0) = search rules in
    let r : to_z w128 (of_z w128 (coefficient_at c.args.xs.now 0)) ≡ coefficient_at c.args.xs.now 0 = to_z-of_z w128 (coefficient_at c.args.xs.now 0) fits in
    rational-small c.args.xs.now c.args.ys.now (to_z w128 (of_z w128 (coefficient_at c.args.xs.now 0))) (c.is_rational.ensures.one c.if-is_rational.true) r c.requires.small

pub scaled-requires-then-is_rational-2 : goal.scaled-requires-then-is_rational-2
scaled-requires-then-is_rational-2 c =
    let fits : FitsSigned w128 (coefficient_at c.args.ys.now 0) = search rules in
    let r : to_z w128 (of_z w128 (coefficient_at c.args.ys.now 0)) ≡ coefficient_at c.args.ys.now 0 = to_z-of_z w128 (coefficient_at c.args.ys.now 0) fits in
    rational-small c.args.ys.now c.args.xs.now (to_z w128 (of_z w128 (coefficient_at c.args.ys.now 0))) (c.is_rational-2.ensures.one c.if-is_rational-2.true) r (turned-small (total c.args.xs.now) (total c.args.ys.now) c.requires.small)

pub returns-then-is_rational-clause-terms : goal.returns-then-is_rational-clause-terms
returns-then-is_rational-clause-terms c =
    let fits : FitsSigned w128 (coefficient_at c.args.xs.now 0) = search rules in
    let r : to_z w128 (of_z w128 (coefficient_at c.args.xs.now 0)) ≡ coefficient_at c.args.xs.now 0 = to_z-of_z w128 (coefficient_at c.args.xs.now 0) fits in
    rational-terms c.args.n c.args.xs.now c.args.ys.now c.in_ok-products.products.items (to_z w128 (of_z w128 (coefficient_at c.args.xs.now 0))) (c.is_rational.ensures.one c.if-is_rational.true) c.requires.left r c.in_ok-products.ensures c.requires.right

pub returns-then-is_rational-clause-sum : goal.returns-then-is_rational-clause-sum
returns-then-is_rational-clause-sum c =
    let fits : FitsSigned w128 (coefficient_at c.args.xs.now 0) = search rules in
    let r : to_z w128 (of_z w128 (coefficient_at c.args.xs.now 0)) ≡ coefficient_at c.args.xs.now 0 = to_z-of_z w128 (coefficient_at c.args.xs.now 0) fits in
    rational-product c.args.n c.args.xs.now c.args.ys.now c.in_ok-products.products.items (to_z w128 (of_z w128 (coefficient_at c.args.xs.now 0))) (c.is_rational.ensures.one c.if-is_rational.true) (c.is_rational.ensures.exponent c.if-is_rational.true) r c.in_ok-products.ensures

pub returns-then-is_rational-2-clause-terms : goal.returns-then-is_rational-2-clause-terms
returns-then-is_rational-2-clause-terms c =
    let fits : FitsSigned w128 (coefficient_at c.args.ys.now 0) = search rules in
    let r : to_z w128 (of_z w128 (coefficient_at c.args.ys.now 0)) ≡ coefficient_at c.args.ys.now 0 = to_z-of_z w128 (coefficient_at c.args.ys.now 0) fits in
    rational-terms c.args.n c.args.ys.now c.args.xs.now c.in_ok-products-2.products.items (to_z w128 (of_z w128 (coefficient_at c.args.ys.now 0))) (c.is_rational-2.ensures.one c.if-is_rational-2.true) c.requires.right r c.in_ok-products-2.ensures c.requires.left

pub returns-then-is_rational-2-clause-sum : goal.returns-then-is_rational-2-clause-sum
returns-then-is_rational-2-clause-sum c =
    let fits : FitsSigned w128 (coefficient_at c.args.ys.now 0) = search rules in
    let r : to_z w128 (of_z w128 (coefficient_at c.args.ys.now 0)) ≡ coefficient_at c.args.ys.now 0 = to_z-of_z w128 (coefficient_at c.args.ys.now 0) fits in
    rational-product c.args.n c.args.ys.now c.args.xs.now c.in_ok-products-2.products.items (to_z w128 (of_z w128 (coefficient_at c.args.ys.now 0))) (c.is_rational-2.ensures.one c.if-is_rational-2.true) (c.is_rational-2.ensures.exponent c.if-is_rational-2.true) r c.in_ok-products-2.ensures
    ∙ (numbers c.args.n).mul_comm (terms_sum c.args.n c.args.ys.now) (terms_sum c.args.n c.args.xs.now)
