-- One multiple more.
use Rattle.std.proofs.Common.{rules, ◌≡◌, sym, ◌∙◌, ap, subst, ℕ, ℤ, ◌+◌, ◌*◌, ◌<◌, ◌≤◌, ◌^◌, ◌*ℤ◌, List, take, unsigned_abs, FitsSigned, to_z, of_z, arith}
use Rattle.std.proofs.lemmas.Int.{to_z-of_z, unsigned_abs-mul}
use Rattle.std.proofs.lemmas.List.{take_all}
use mir.Syntax.{w128}
use Rattle.irr_number.specs.Number.{numbers}
use Rattle.irr_rational.specs.Integer.{integer}
use Rattle.irr_cyc.specs.Terms.{terms_sum}
use Rattle.irr_sparse.specs.TermList.{IsTerm, coefficient_at, exponent_at, total}
use Rattle.irr_sparse.proofs.Lists.{terms-at, terms-increasing}
use Rattle.irr_sparse.proofs.Products.{combined-most, combined-next, combined-small, combined-start, factor-small, term-scaled}
use Rattle.irr_sparse.proofs.Words.{product_fits, product_read}
use Rattle.irr_sparse.proofs.combinations.add_multiples.Goals as goal

apart : (a b : ℕ) → a + b < 2 ^ 126 → b < 2 ^ 126
apart a b h = omega arith

pub overflow_mul-coefficient : goal.overflow_mul-coefficient
overflow_mul-coefficient c =
    let ft : FitsSigned w128 c.args.times = search rules in
    let fc : FitsSigned w128 (coefficient_at c.args.terms.now c.loop-exponent.exponent-index) = search rules in
    let rr : to_z w128 (of_z w128 c.args.times) ≡ c.args.times = to_z-of_z w128 c.args.times ft in
    let fits : FitsSigned w128 (to_z w128 (of_z w128 (coefficient_at c.args.terms.now c.loop-exponent.exponent-index)) *ℤ to_z w128 (of_z w128 c.args.times)) = product_fits (coefficient_at c.args.terms.now c.loop-exponent.exponent-index) c.args.times fc ft (factor-small c.args.terms.now (unsigned_abs c.args.times) c.loop-exponent.exponent-index c.loop-exponent-test.true (apart (total c.args.sums.now.items) (total c.args.terms.now * unsigned_abs c.args.times) c.requires.small)) in
    search rules

pub add_term-requires-clause-increasing : goal.add_term-requires-clause-increasing
add_term-requires-clause-increasing c = terms-increasing c.requires.both.0 0 c.loop-exponent.sums.items (c.loop-exponent.invariant.terms c.requires.both.0 c.requires.both.1 c.requires.both.2)

pub add_term-requires-clause-small : goal.add_term-requires-clause-small
add_term-requires-clause-small c =
    let ft : FitsSigned w128 c.args.times = search rules in
    let fc : FitsSigned w128 (coefficient_at c.args.terms.now c.loop-exponent.exponent-index) = search rules in
    let rr : to_z w128 (of_z w128 c.args.times) ≡ c.args.times = to_z-of_z w128 c.args.times ft in
    let p : (to_z w128 (of_z w128 (to_z w128 (of_z w128 (coefficient_at c.args.terms.now c.loop-exponent.exponent-index)) *ℤ to_z w128 (of_z w128 c.args.times)))) ≡ (coefficient_at c.args.terms.now c.loop-exponent.exponent-index) *ℤ c.args.times = product_read (coefficient_at c.args.terms.now c.loop-exponent.exponent-index) c.args.times fc ft (factor-small c.args.terms.now (unsigned_abs c.args.times) c.loop-exponent.exponent-index c.loop-exponent-test.true (apart (total c.args.sums.now.items) (total c.args.terms.now * unsigned_abs c.args.times) c.requires.small)) in
    let a : unsigned_abs (to_z w128 (of_z w128 (to_z w128 (of_z w128 (coefficient_at c.args.terms.now c.loop-exponent.exponent-index)) *ℤ to_z w128 (of_z w128 c.args.times)))) ≡ unsigned_abs (coefficient_at c.args.terms.now c.loop-exponent.exponent-index) * unsigned_abs c.args.times = ap unsigned_abs p ∙ unsigned_abs-mul (coefficient_at c.args.terms.now c.loop-exponent.exponent-index) c.args.times in
    combined-small c.args.terms.now (unsigned_abs c.args.times) c.loop-exponent.exponent-index c.loop-exponent-test.true (total c.args.sums.now.items) (total c.loop-exponent.sums.items) (unsigned_abs (to_z w128 (of_z w128 (to_z w128 (of_z w128 (coefficient_at c.args.terms.now c.loop-exponent.exponent-index)) *ℤ to_z w128 (of_z w128 c.args.times))))) a
    (subst (λ k. total c.loop-exponent.sums.items ≤ total c.args.sums.now.items + total (take c.loop-exponent.exponent-index c.args.terms.now) * unsigned_abs k) rr c.loop-exponent.invariant.most) c.requires.small

pub loop-exponent-init : goal.loop-exponent-init
loop-exponent-init c = record {
  terms = λ n h g. h;
  sum = λ n. combined-start n (to_z w128 (of_z w128 c.args.times)) c.args.terms.now (terms_sum n c.args.sums.now.items);
  most = omega arith;
}

pub loop-exponent-preserved : goal.loop-exponent-preserved
loop-exponent-preserved c =
    let ft : FitsSigned w128 c.args.times = search rules in
    let fc : FitsSigned w128 (coefficient_at c.args.terms.now c.loop-exponent.exponent-index) = search rules in
    let rr : to_z w128 (of_z w128 c.args.times) ≡ c.args.times = to_z-of_z w128 c.args.times ft in
    let p : (to_z w128 (of_z w128 (to_z w128 (of_z w128 (coefficient_at c.args.terms.now c.loop-exponent.exponent-index)) *ℤ to_z w128 (of_z w128 c.args.times)))) ≡ (coefficient_at c.args.terms.now c.loop-exponent.exponent-index) *ℤ c.args.times = product_read (coefficient_at c.args.terms.now c.loop-exponent.exponent-index) c.args.times fc ft (factor-small c.args.terms.now (unsigned_abs c.args.times) c.loop-exponent.exponent-index c.loop-exponent-test.true (apart (total c.args.sums.now.items) (total c.args.terms.now * unsigned_abs c.args.times) c.requires.small)) in
    let a : unsigned_abs (to_z w128 (of_z w128 (to_z w128 (of_z w128 (coefficient_at c.args.terms.now c.loop-exponent.exponent-index)) *ℤ to_z w128 (of_z w128 c.args.times)))) ≡ unsigned_abs (coefficient_at c.args.terms.now c.loop-exponent.exponent-index) * unsigned_abs (to_z w128 (of_z w128 c.args.times)) = ap unsigned_abs p ∙ unsigned_abs-mul (coefficient_at c.args.terms.now c.loop-exponent.exponent-index) c.args.times ∙ ap (λ k. unsigned_abs (coefficient_at c.args.terms.now c.loop-exponent.exponent-index) * unsigned_abs k) (sym rr) in
    record {
      terms = λ n h g. c.in_ok-add_term.ensures.terms n (c.loop-exponent.invariant.terms n h g) (subst (IsTerm n 0 (exponent_at c.args.terms.now c.loop-exponent.exponent-index)) (sym p) (term-scaled n 0 (exponent_at c.args.terms.now c.loop-exponent.exponent-index) (coefficient_at c.args.terms.now c.loop-exponent.exponent-index) c.args.times c.requires.nonzero (terms-at n 0 c.args.terms.now c.loop-exponent.exponent-index g c.loop-exponent-test.true)));
      sum = λ n. combined-next n (to_z w128 (of_z w128 c.args.times)) c.args.terms.now (terms_sum n c.args.sums.now.items) (terms_sum n c.loop-exponent.sums.items) (terms_sum n c.add_term.new.terms.items) c.loop-exponent.exponent-index (to_z w128 (of_z w128 (to_z w128 (of_z w128 (coefficient_at c.args.terms.now c.loop-exponent.exponent-index)) *ℤ to_z w128 (of_z w128 c.args.times)))) c.loop-exponent-test.true
          (p ∙ ap (λ k. (coefficient_at c.args.terms.now c.loop-exponent.exponent-index) *ℤ k) (sym rr)) (c.loop-exponent.invariant.sum n) (c.in_ok-add_term.ensures.sum n);
      most = combined-most c.args.terms.now (unsigned_abs (to_z w128 (of_z w128 c.args.times))) c.loop-exponent.exponent-index c.loop-exponent-test.true (total c.args.sums.now.items) (total c.loop-exponent.sums.items) (total c.add_term.new.terms.items) (unsigned_abs (to_z w128 (of_z w128 (to_z w128 (of_z w128 (coefficient_at c.args.terms.now c.loop-exponent.exponent-index)) *ℤ to_z w128 (of_z w128 c.args.times))))) a c.loop-exponent.invariant.most c.in_ok-add_term.ensures.total;
    }

pub returns-clause-terms : goal.returns-clause-terms
returns-clause-terms c = c.loop-exponent.invariant.terms

pub returns-clause-sum : goal.returns-clause-sum
returns-clause-sum c = λ n.
    let ft : FitsSigned w128 c.args.times = search rules in
    let rr : to_z w128 (of_z w128 c.args.times) ≡ c.args.times = to_z-of_z w128 c.args.times ft in
    c.loop-exponent.invariant.sum n
    ∙ (λ i. (numbers n).add (terms_sum n c.args.sums.now.items) ((numbers n).mul (integer (numbers n) (rr i)) (terms_sum n (take_all c.loop-exponent.exponent-index c.args.terms.now c.loop-exponent-test.false i))))

pub returns-clause-total : goal.returns-clause-total
returns-clause-total c =
    let ft : FitsSigned w128 c.args.times = search rules in
    let rr : to_z w128 (of_z w128 c.args.times) ≡ c.args.times = to_z-of_z w128 c.args.times ft in
    subst (λ k. total c.loop-exponent.sums.items ≤ total c.args.sums.now.items + total c.args.terms.now * unsigned_abs k) rr
    (subst (λ (ts : List (ℕ × ℤ)). total c.loop-exponent.sums.items ≤ total c.args.sums.now.items + total ts * unsigned_abs (to_z w128 (of_z w128 c.args.times))) (take_all c.loop-exponent.exponent-index c.args.terms.now c.loop-exponent-test.false) c.loop-exponent.invariant.most)
