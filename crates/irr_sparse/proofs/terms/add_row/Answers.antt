-- One term more of the row.
use Rattle.std.proofs.Common.{rules, ◌≡◌, sym, ◌∙◌, ap, subst, ℕ, ℤ, pos, ◌+◌, ◌*◌, ◌<◌, ◌≤◌, ◌^◌, ◌*ℤ◌, List, take, unsigned_abs, FitsSigned, to_z, of_z, arith}
use Rattle.std.proofs.lemmas.Int.{to_z-of_z, unsigned_abs-mul}
use Rattle.std.proofs.lemmas.List.{take_all}
use mir.Syntax.{w128}
use Rattle.irr_number.specs.Number.{numbers}
use Rattle.irr_cyc.specs.Terms.{terms_sum}
use Rattle.irr_sparse.specs.Parts.{weight}
use Rattle.irr_sparse.specs.TermList.{coefficient_at, row_sum, total}
use Rattle.irr_sparse.proofs.Powers.{weight-pos}
use Rattle.irr_sparse.proofs.Rows.{most-next, product-ne-zero, product-small, row-end, row-next, row-start, small-next}
use Rattle.irr_sparse.proofs.Words.{product_fits, product_read}
use Rattle.irr_sparse.proofs.terms.add_row.Goals as goal

pub overflow_mul-times : goal.overflow_mul-times
overflow_mul-times c =
    let ft : FitsSigned w128 c.args.times = search rules in
    let r : to_z w128 (of_z w128 c.args.times) ≡ c.args.times = to_z-of_z w128 c.args.times ft in
    let fc : FitsSigned w128 (coefficient_at c.args.terms.now c.loop-exponent.exponent-index) = search rules in
    let low : unsigned_abs c.args.times * unsigned_abs (coefficient_at c.args.terms.now c.loop-exponent.exponent-index) < 2 ^ 126 = product-small c.args.terms.now (unsigned_abs c.args.times) (weight c.args.parts.now) c.loop-exponent.exponent-index c.loop-exponent-test.true (total c.args.sums.now.items) (2 ^ 126) (weight-pos c.args.n c.args.parts.now c.requires.parts) c.requires.small in
    product_fits c.args.times (coefficient_at c.args.terms.now c.loop-exponent.exponent-index) ft fc (omega (arith, low))

pub add_power-requires-clause-nonzero : goal.add_power-requires-clause-nonzero
add_power-requires-clause-nonzero c =
    let ft : FitsSigned w128 c.args.times = search rules in
    let r : to_z w128 (of_z w128 c.args.times) ≡ c.args.times = to_z-of_z w128 c.args.times ft in
    let fc : FitsSigned w128 (coefficient_at c.args.terms.now c.loop-exponent.exponent-index) = search rules in
    let low : unsigned_abs c.args.times * unsigned_abs (coefficient_at c.args.terms.now c.loop-exponent.exponent-index) < 2 ^ 126 = product-small c.args.terms.now (unsigned_abs c.args.times) (weight c.args.parts.now) c.loop-exponent.exponent-index c.loop-exponent-test.true (total c.args.sums.now.items) (2 ^ 126) (weight-pos c.args.n c.args.parts.now c.requires.parts) c.requires.small in
    let p : (to_z w128 (of_z w128 (to_z w128 (of_z w128 c.args.times) *ℤ to_z w128 (of_z w128 (coefficient_at c.args.terms.now c.loop-exponent.exponent-index))))) ≡ c.args.times *ℤ (coefficient_at c.args.terms.now c.loop-exponent.exponent-index) = product_read c.args.times (coefficient_at c.args.terms.now c.loop-exponent.exponent-index) ft fc (omega (arith, low)) in
    λ z. product-ne-zero c.args.times (coefficient_at c.args.terms.now c.loop-exponent.exponent-index) c.requires.nonzero (c.requires.each c.loop-exponent.exponent-index (0, pos 0) c.loop-exponent-test.true) (sym p ∙ z)

pub add_power-requires-clause-free : goal.add_power-requires-clause-free
add_power-requires-clause-free c = c.requires.all c.turned-place.result

pub add_power-requires-clause-small : goal.add_power-requires-clause-small
add_power-requires-clause-small c =
    let ft : FitsSigned w128 c.args.times = search rules in
    let r : to_z w128 (of_z w128 c.args.times) ≡ c.args.times = to_z-of_z w128 c.args.times ft in
    let fc : FitsSigned w128 (coefficient_at c.args.terms.now c.loop-exponent.exponent-index) = search rules in
    let low : unsigned_abs c.args.times * unsigned_abs (coefficient_at c.args.terms.now c.loop-exponent.exponent-index) < 2 ^ 126 = product-small c.args.terms.now (unsigned_abs c.args.times) (weight c.args.parts.now) c.loop-exponent.exponent-index c.loop-exponent-test.true (total c.args.sums.now.items) (2 ^ 126) (weight-pos c.args.n c.args.parts.now c.requires.parts) c.requires.small in
    let p : (to_z w128 (of_z w128 (to_z w128 (of_z w128 c.args.times) *ℤ to_z w128 (of_z w128 (coefficient_at c.args.terms.now c.loop-exponent.exponent-index))))) ≡ c.args.times *ℤ (coefficient_at c.args.terms.now c.loop-exponent.exponent-index) = product_read c.args.times (coefficient_at c.args.terms.now c.loop-exponent.exponent-index) ft fc (omega (arith, low)) in
    let a : unsigned_abs (to_z w128 (of_z w128 (to_z w128 (of_z w128 c.args.times) *ℤ to_z w128 (of_z w128 (coefficient_at c.args.terms.now c.loop-exponent.exponent-index))))) ≡ unsigned_abs c.args.times * unsigned_abs (coefficient_at c.args.terms.now c.loop-exponent.exponent-index) = ap unsigned_abs p ∙ unsigned_abs-mul c.args.times (coefficient_at c.args.terms.now c.loop-exponent.exponent-index) in
    small-next c.args.terms.now (unsigned_abs c.args.times) (weight c.args.parts.now) c.loop-exponent.exponent-index c.loop-exponent-test.true (total c.args.sums.now.items) (total c.loop-exponent.sums.items) (unsigned_abs (to_z w128 (of_z w128 (to_z w128 (of_z w128 c.args.times) *ℤ to_z w128 (of_z w128 (coefficient_at c.args.terms.now c.loop-exponent.exponent-index)))))) (2 ^ 126) a (subst (λ x. total c.loop-exponent.sums.items ≤ total c.args.sums.now.items + unsigned_abs x * total (take c.loop-exponent.exponent-index c.args.terms.now) * (weight c.args.parts.now)) r c.loop-exponent.invariant.most) c.requires.small

pub loop-exponent-init : goal.loop-exponent-init
loop-exponent-init c = record {
  terms = c.requires.terms;
  sum = row-start c.args.n (to_z w128 (of_z w128 c.args.times)) c.args.shift c.args.factor c.args.terms.now (terms_sum c.args.n c.args.sums.now.items);
  most = omega arith;
}

pub loop-exponent-preserved : goal.loop-exponent-preserved
loop-exponent-preserved c =
    let ft : FitsSigned w128 c.args.times = search rules in
    let r : to_z w128 (of_z w128 c.args.times) ≡ c.args.times = to_z-of_z w128 c.args.times ft in
    let fc : FitsSigned w128 (coefficient_at c.args.terms.now c.loop-exponent.exponent-index) = search rules in
    let low : unsigned_abs c.args.times * unsigned_abs (coefficient_at c.args.terms.now c.loop-exponent.exponent-index) < 2 ^ 126 = product-small c.args.terms.now (unsigned_abs c.args.times) (weight c.args.parts.now) c.loop-exponent.exponent-index c.loop-exponent-test.true (total c.args.sums.now.items) (2 ^ 126) (weight-pos c.args.n c.args.parts.now c.requires.parts) c.requires.small in
    let p : (to_z w128 (of_z w128 (to_z w128 (of_z w128 c.args.times) *ℤ to_z w128 (of_z w128 (coefficient_at c.args.terms.now c.loop-exponent.exponent-index))))) ≡ c.args.times *ℤ (coefficient_at c.args.terms.now c.loop-exponent.exponent-index) = product_read c.args.times (coefficient_at c.args.terms.now c.loop-exponent.exponent-index) ft fc (omega (arith, low)) in
    let a : unsigned_abs (to_z w128 (of_z w128 (to_z w128 (of_z w128 c.args.times) *ℤ to_z w128 (of_z w128 (coefficient_at c.args.terms.now c.loop-exponent.exponent-index))))) ≡ unsigned_abs c.args.times * unsigned_abs (coefficient_at c.args.terms.now c.loop-exponent.exponent-index) = ap unsigned_abs p ∙ unsigned_abs-mul c.args.times (coefficient_at c.args.terms.now c.loop-exponent.exponent-index) in
    record {
      terms = c.in_ok-add_power.ensures.terms;
      sum = row-next c.args.n (to_z w128 (of_z w128 c.args.times)) c.args.shift c.args.factor c.args.terms.now (terms_sum c.args.n c.args.sums.now.items) (terms_sum c.args.n c.loop-exponent.sums.items) (terms_sum c.args.n c.add_power.new.terms.items)
          c.loop-exponent.exponent-index c.turned-place.result (to_z w128 (of_z w128 (to_z w128 (of_z w128 c.args.times) *ℤ to_z w128 (of_z w128 (coefficient_at c.args.terms.now c.loop-exponent.exponent-index))))) c.loop-exponent-test.true c.turned-place.ensures.value (p ∙ ap (λ x. x *ℤ (coefficient_at c.args.terms.now c.loop-exponent.exponent-index)) (sym r)) c.loop-exponent.invariant.sum c.in_ok-add_power.ensures.sum;
      most = subst (λ x. total c.add_power.new.terms.items ≤ total c.args.sums.now.items + unsigned_abs x * total (take (c.loop-exponent.exponent-index + 1) c.args.terms.now) * (weight c.args.parts.now)) (sym r)
          (most-next c.args.terms.now (unsigned_abs c.args.times) (weight c.args.parts.now) c.loop-exponent.exponent-index c.loop-exponent-test.true (total c.args.sums.now.items) (total c.loop-exponent.sums.items) (total c.add_power.new.terms.items) (unsigned_abs (to_z w128 (of_z w128 (to_z w128 (of_z w128 c.args.times) *ℤ to_z w128 (of_z w128 (coefficient_at c.args.terms.now c.loop-exponent.exponent-index)))))) a (subst (λ x. total c.loop-exponent.sums.items ≤ total c.args.sums.now.items + unsigned_abs x * total (take c.loop-exponent.exponent-index c.args.terms.now) * (weight c.args.parts.now)) r c.loop-exponent.invariant.most) c.in_ok-add_power.ensures.total);
    }

pub returns-clause-terms : goal.returns-clause-terms
returns-clause-terms c = c.loop-exponent.invariant.terms

pub returns-clause-sum : goal.returns-clause-sum
returns-clause-sum c =
    let ft : FitsSigned w128 c.args.times = search rules in
    let r : to_z w128 (of_z w128 c.args.times) ≡ c.args.times = to_z-of_z w128 c.args.times ft in
    c.loop-exponent.invariant.sum ∙ ap (λ x. (numbers c.args.n).add (terms_sum c.args.n c.args.sums.now.items) (row_sum c.args.n x c.args.shift c.args.factor (take c.loop-exponent.exponent-index c.args.terms.now))) r
    ∙ ap ((numbers c.args.n).add (terms_sum c.args.n c.args.sums.now.items)) (row-end c.args.n c.args.times c.args.shift c.args.factor c.args.terms.now c.loop-exponent.exponent-index c.loop-exponent-test.false)

pub returns-clause-total : goal.returns-clause-total
returns-clause-total c =
    let ft : FitsSigned w128 c.args.times = search rules in
    let r : to_z w128 (of_z w128 c.args.times) ≡ c.args.times = to_z-of_z w128 c.args.times ft in
    subst (λ (us : List (ℕ × ℤ)). total c.loop-exponent.sums.items ≤ total c.args.sums.now.items + unsigned_abs c.args.times * total us * (weight c.args.parts.now)) (take_all c.loop-exponent.exponent-index c.args.terms.now c.loop-exponent-test.false) (subst (λ x. total c.loop-exponent.sums.items ≤ total c.args.sums.now.items + unsigned_abs x * total (take c.loop-exponent.exponent-index c.args.terms.now) * (weight c.args.parts.now)) r c.loop-exponent.invariant.most)
