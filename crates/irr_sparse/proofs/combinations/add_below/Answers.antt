-- One term more is added.
use Rattle.std.proofs.Common.{rules, ◌≡◌, sym, ◌∙◌, ap, subst, ◌+◌, ◌*◌, ◌<◌, ◌≤◌, ◌*ℤ◌, drop, length, unsigned_abs, FitsSigned, to_z, of_z, arith}
use Rattle.std.proofs.lemmas.Int.{to_z-of_z, unsigned_abs-mul}
use mir.Syntax.{w128}
use Rattle.irr_cyc.specs.Terms.{terms_sum}
use Rattle.irr_sparse.specs.TermList.{IsTerm, coefficient_at, exponent_at, total}
use Rattle.irr_sparse.proofs.Lists.{terms-at, terms-increasing}
use Rattle.irr_sparse.proofs.Products.{below-most, below-next, below-product, below-small, term-scaled}
use Rattle.irr_sparse.proofs.Words.{product_fits, product_read}
use Rattle.irr_sparse.proofs.combinations.add_below.Goals as goal

pub overflow_mul-coefficient : goal.overflow_mul-coefficient
overflow_mul-coefficient c =
    let ft : FitsSigned w128 c.args.times = search rules in
    let fc : FitsSigned w128 (coefficient_at c.args.terms.now c.loop-next.next) = search rules in
    let rr : to_z w128 (of_z w128 c.args.times) ≡ c.args.times = to_z-of_z w128 c.args.times ft in
    let fits : FitsSigned w128 (to_z w128 (of_z w128 (coefficient_at c.args.terms.now c.loop-next.next)) *ℤ to_z w128 (of_z w128 c.args.times)) = product_fits (coefficient_at c.args.terms.now c.loop-next.next) c.args.times fc ft (below-product c.args.terms.now c.loop-next.next c.loop-next-test.true (total c.args.sums.now.items + total (drop c.args.from c.args.terms.now) * unsigned_abs c.args.times) (total c.loop-next.sums.items) (unsigned_abs c.args.times) (subst (λ k. total c.loop-next.sums.items + total (drop c.loop-next.next c.args.terms.now) * unsigned_abs k ≤ total c.args.sums.now.items + total (drop c.args.from c.args.terms.now) * unsigned_abs k) rr c.loop-next.invariant.most) c.requires.small) in
    search rules

pub add_term-requires-clause-increasing : goal.add_term-requires-clause-increasing
add_term-requires-clause-increasing c = terms-increasing c.requires.both.0 0 c.loop-next.sums.items (c.loop-next.invariant.terms c.requires.both.0 c.requires.both.1 c.requires.both.2)

pub add_term-requires-clause-small : goal.add_term-requires-clause-small
add_term-requires-clause-small c =
    let ft : FitsSigned w128 c.args.times = search rules in
    let fc : FitsSigned w128 (coefficient_at c.args.terms.now c.loop-next.next) = search rules in
    let rr : to_z w128 (of_z w128 c.args.times) ≡ c.args.times = to_z-of_z w128 c.args.times ft in
    let p : (to_z w128 (of_z w128 (to_z w128 (of_z w128 (coefficient_at c.args.terms.now c.loop-next.next)) *ℤ to_z w128 (of_z w128 c.args.times)))) ≡ (coefficient_at c.args.terms.now c.loop-next.next) *ℤ c.args.times = product_read (coefficient_at c.args.terms.now c.loop-next.next) c.args.times fc ft (below-product c.args.terms.now c.loop-next.next c.loop-next-test.true (total c.args.sums.now.items + total (drop c.args.from c.args.terms.now) * unsigned_abs c.args.times) (total c.loop-next.sums.items) (unsigned_abs c.args.times) (subst (λ k. total c.loop-next.sums.items + total (drop c.loop-next.next c.args.terms.now) * unsigned_abs k ≤ total c.args.sums.now.items + total (drop c.args.from c.args.terms.now) * unsigned_abs k) rr c.loop-next.invariant.most) c.requires.small) in
    let a : unsigned_abs (to_z w128 (of_z w128 (to_z w128 (of_z w128 (coefficient_at c.args.terms.now c.loop-next.next)) *ℤ to_z w128 (of_z w128 c.args.times)))) ≡ unsigned_abs (coefficient_at c.args.terms.now c.loop-next.next) * unsigned_abs c.args.times = ap unsigned_abs p ∙ unsigned_abs-mul (coefficient_at c.args.terms.now c.loop-next.next) c.args.times in
    below-small c.args.terms.now c.loop-next.next c.loop-next-test.true (total c.args.sums.now.items + total (drop c.args.from c.args.terms.now) * unsigned_abs c.args.times) (total c.loop-next.sums.items) (unsigned_abs (to_z w128 (of_z w128 (to_z w128 (of_z w128 (coefficient_at c.args.terms.now c.loop-next.next)) *ℤ to_z w128 (of_z w128 c.args.times))))) (unsigned_abs c.args.times) a (subst (λ k. total c.loop-next.sums.items + total (drop c.loop-next.next c.args.terms.now) * unsigned_abs k ≤ total c.args.sums.now.items + total (drop c.args.from c.args.terms.now) * unsigned_abs k) rr c.loop-next.invariant.most) c.requires.small

pub loop-next-preserved : goal.loop-next-preserved
loop-next-preserved c =
    let ft : FitsSigned w128 c.args.times = search rules in
    let fc : FitsSigned w128 (coefficient_at c.args.terms.now c.loop-next.next) = search rules in
    let rr : to_z w128 (of_z w128 c.args.times) ≡ c.args.times = to_z-of_z w128 c.args.times ft in
    let p : (to_z w128 (of_z w128 (to_z w128 (of_z w128 (coefficient_at c.args.terms.now c.loop-next.next)) *ℤ to_z w128 (of_z w128 c.args.times)))) ≡ (coefficient_at c.args.terms.now c.loop-next.next) *ℤ c.args.times = product_read (coefficient_at c.args.terms.now c.loop-next.next) c.args.times fc ft (below-product c.args.terms.now c.loop-next.next c.loop-next-test.true (total c.args.sums.now.items + total (drop c.args.from c.args.terms.now) * unsigned_abs c.args.times) (total c.loop-next.sums.items) (unsigned_abs c.args.times) (subst (λ k. total c.loop-next.sums.items + total (drop c.loop-next.next c.args.terms.now) * unsigned_abs k ≤ total c.args.sums.now.items + total (drop c.args.from c.args.terms.now) * unsigned_abs k) rr c.loop-next.invariant.most) c.requires.small) in
    let a : unsigned_abs (to_z w128 (of_z w128 (to_z w128 (of_z w128 (coefficient_at c.args.terms.now c.loop-next.next)) *ℤ to_z w128 (of_z w128 c.args.times)))) ≡ unsigned_abs (coefficient_at c.args.terms.now c.loop-next.next) * unsigned_abs (to_z w128 (of_z w128 c.args.times)) = ap unsigned_abs p ∙ unsigned_abs-mul (coefficient_at c.args.terms.now c.loop-next.next) c.args.times ∙ ap (λ k. unsigned_abs (coefficient_at c.args.terms.now c.loop-next.next) * unsigned_abs k) (sym rr) in
    let within : c.loop-next.next < length c.args.terms.now = c.loop-next-test.true in
    record {
      within = omega arith;
      terms = λ n h g. c.in_ok-add_term.ensures.terms n (c.loop-next.invariant.terms n h g) (subst (IsTerm n 0 (exponent_at c.args.terms.now c.loop-next.next)) (sym p) (term-scaled n 0 (exponent_at c.args.terms.now c.loop-next.next) (coefficient_at c.args.terms.now c.loop-next.next) c.args.times c.requires.nonzero (terms-at n 0 c.args.terms.now c.loop-next.next g c.loop-next-test.true)));
      sum = λ n. below-next c.args.terms.now c.loop-next.next c.loop-next-test.true n (to_z w128 (of_z w128 c.args.times)) _ (terms_sum n c.loop-next.sums.items) (terms_sum n c.add_term.new.terms.items) (to_z w128 (of_z w128 (to_z w128 (of_z w128 (coefficient_at c.args.terms.now c.loop-next.next)) *ℤ to_z w128 (of_z w128 c.args.times)))) (p ∙ ap (λ k. (coefficient_at c.args.terms.now c.loop-next.next) *ℤ k) (sym rr)) (c.loop-next.invariant.sum n) (c.in_ok-add_term.ensures.sum n);
      most = below-most c.args.terms.now c.loop-next.next c.loop-next-test.true (total c.args.sums.now.items + total (drop c.args.from c.args.terms.now) * unsigned_abs (to_z w128 (of_z w128 c.args.times))) (total c.loop-next.sums.items) (total c.add_term.new.terms.items) (unsigned_abs (to_z w128 (of_z w128 (to_z w128 (of_z w128 (coefficient_at c.args.terms.now c.loop-next.next)) *ℤ to_z w128 (of_z w128 c.args.times))))) (unsigned_abs (to_z w128 (of_z w128 c.args.times))) a c.loop-next.invariant.most c.in_ok-add_term.ensures.total;
    }
