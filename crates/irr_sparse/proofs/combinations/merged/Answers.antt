-- The terms on the right below each on the left, that term, and the rest on the right.
use Rattle.std.proofs.Common.{rules, ◌≡◌, sym, ◌∙◌, ap, subst, ℕ, ℤ, ◌+◌, ◌*◌, ◌-◌, ◌<◌, ◌≤◌, ◌^◌, ◌*ℤ◌, List, [], take, drop, length, unsigned_abs, FitsSigned, to_z, of_z, arith}
use Rattle.std.proofs.lemmas.Int.{to_z-of_z, unsigned_abs-mul}
use Rattle.std.proofs.lemmas.List.{take_all, take_rest}
use mir.Syntax.{w128}
use Rattle.irr_algebra.proofs.Rings.{mul-zero}
use Rattle.irr_number.specs.Number.{numbers}
use Rattle.irr_rational.specs.Integer.{integer}
use Rattle.irr_cyc.specs.Terms.{terms_sum}
use Rattle.irr_sparse.specs.TermList.{AreTerms, IsTerm, coefficient_at, exponent_at, total}
use Rattle.irr_sparse.proofs.Lists.{terms-at, terms-back, terms-increasing, terms-none}
use Rattle.irr_sparse.proofs.Products.{merge-most, merge-next, merge-product, merge-rest, merge-small, term-scaled}
use Rattle.irr_sparse.proofs.Sums.{sum-none}
use Rattle.irr_sparse.proofs.Words.{product_fits, product_read}
use Rattle.irr_sparse.proofs.combinations.merged.Goals as goal

none : (n : ℕ) (ts : List (ℕ × ℤ)) → ts ≡ [] → AreTerms n 0 ts
none n ts e = subst (AreTerms n 0) (sym e) (terms-none n 0)

nothing : (ts : List (ℕ × ℤ)) (y l : ℕ) → ts ≡ [] → total ts + y ≤ 0 * l + y
nothing ts y l e = let z : total ts ≡ 0 = ap total e in omega arith

pub loop-exponent-init : goal.loop-exponent-init
loop-exponent-init c = record {
  within = omega arith;
  terms = λ n h g. none n c.in_ok-sums.sums.items c.in_ok-sums.ensures.items;
  sum = λ n. ap (λ x. (numbers n).add x ((numbers n).mul (integer (numbers n) (to_z w128 (of_z w128 c.args.right))) (terms_sum n c.args.ys.now))) (ap (terms_sum n) c.in_ok-sums.ensures.items ∙ sum-none n
      ∙ sym (ap ((numbers n).mul (integer (numbers n) (to_z w128 (of_z w128 c.args.left)))) (sum-none n) ∙ mul-zero (numbers n) (integer (numbers n) (to_z w128 (of_z w128 c.args.left)))));
  most = nothing c.in_ok-sums.sums.items (total c.args.ys.now * unsigned_abs (to_z w128 (of_z w128 c.args.right))) (unsigned_abs (to_z w128 (of_z w128 c.args.left))) c.in_ok-sums.ensures.items;
}

pub add_below-requires-clause-both : goal.add_below-requires-clause-both
add_below-requires-clause-both c = (c.requires.both.0, c.loop-exponent.invariant.terms c.requires.both.0 c.requires.both.1 c.requires.both.2, c.requires.both.2)

pub add_below-requires-clause-nonzero : goal.add_below-requires-clause-nonzero
add_below-requires-clause-nonzero c =
    let fr : FitsSigned w128 c.args.right = search rules in
    let rr : to_z w128 (of_z w128 c.args.right) ≡ c.args.right = to_z-of_z w128 c.args.right fr in
    λ z. c.requires.right (sym rr ∙ z)

pub add_below-requires-clause-small : goal.add_below-requires-clause-small
add_below-requires-clause-small c =
    let fl : FitsSigned w128 c.args.left = search rules in
    let rl : to_z w128 (of_z w128 c.args.left) ≡ c.args.left = to_z-of_z w128 c.args.left fl in
    let fr : FitsSigned w128 c.args.right = search rules in
    let rr : to_z w128 (of_z w128 c.args.right) ≡ c.args.right = to_z-of_z w128 c.args.right fr in
    subst (λ k. total c.loop-exponent.sums.items + total (drop c.loop-exponent.from c.args.ys.now) * unsigned_abs k < 2 ^ 126) (sym rr)
    (merge-rest c.args.xs.now c.loop-exponent.exponent-index c.loop-exponent-test.true (total (drop c.loop-exponent.from c.args.ys.now) * unsigned_abs c.args.right) (total c.args.ys.now * unsigned_abs c.args.right) (total c.loop-exponent.sums.items) (unsigned_abs c.args.left) (subst (λ k. total c.loop-exponent.sums.items + total (drop c.loop-exponent.from c.args.ys.now) * unsigned_abs k ≤ total (take c.loop-exponent.exponent-index c.args.xs.now) * unsigned_abs c.args.left + total c.args.ys.now * unsigned_abs k) rr (subst (λ k. total c.loop-exponent.sums.items + total (drop c.loop-exponent.from c.args.ys.now) * unsigned_abs (to_z w128 (of_z w128 c.args.right)) ≤ total (take c.loop-exponent.exponent-index c.args.xs.now) * unsigned_abs k + total c.args.ys.now * unsigned_abs (to_z w128 (of_z w128 c.args.right))) rl c.loop-exponent.invariant.most)) c.requires.small)

pub overflow_mul-coefficient : goal.overflow_mul-coefficient
overflow_mul-coefficient c =
    let fl : FitsSigned w128 c.args.left = search rules in
    let rl : to_z w128 (of_z w128 c.args.left) ≡ c.args.left = to_z-of_z w128 c.args.left fl in
    let fc : FitsSigned w128 (coefficient_at c.args.xs.now c.loop-exponent.exponent-index) = search rules in
    let fits : FitsSigned w128 (to_z w128 (of_z w128 (coefficient_at c.args.xs.now c.loop-exponent.exponent-index)) *ℤ to_z w128 (of_z w128 c.args.left)) = product_fits (coefficient_at c.args.xs.now c.loop-exponent.exponent-index) c.args.left fc fl (merge-product c.args.xs.now c.loop-exponent.exponent-index c.loop-exponent-test.true (total c.args.ys.now * unsigned_abs c.args.right) (unsigned_abs c.args.left) c.requires.small) in
    search rules

-- what is put in from the right keeps the bound
through : (mid rest now before most : ℕ) → mid + rest ≤ now + before → now + before ≤ most → mid + rest ≤ most
through mid rest now before most h g = omega (arith, h, g)

pub add_term-requires-clause-increasing : goal.add_term-requires-clause-increasing
add_term-requires-clause-increasing c = terms-increasing c.requires.both.0 0 c.add_below.new.sums.items
    (c.in_ok-from.ensures.terms c.requires.both.0 (c.loop-exponent.invariant.terms c.requires.both.0 c.requires.both.1 c.requires.both.2) c.requires.both.2)

pub add_term-requires-clause-small : goal.add_term-requires-clause-small
add_term-requires-clause-small c =
    let fl : FitsSigned w128 c.args.left = search rules in
    let rl : to_z w128 (of_z w128 c.args.left) ≡ c.args.left = to_z-of_z w128 c.args.left fl in
    let fr : FitsSigned w128 c.args.right = search rules in
    let rr : to_z w128 (of_z w128 c.args.right) ≡ c.args.right = to_z-of_z w128 c.args.right fr in
    let fc : FitsSigned w128 (coefficient_at c.args.xs.now c.loop-exponent.exponent-index) = search rules in
    let p : (to_z w128 (of_z w128 (to_z w128 (of_z w128 (coefficient_at c.args.xs.now c.loop-exponent.exponent-index)) *ℤ to_z w128 (of_z w128 c.args.left)))) ≡ (coefficient_at c.args.xs.now c.loop-exponent.exponent-index) *ℤ c.args.left = product_read (coefficient_at c.args.xs.now c.loop-exponent.exponent-index) c.args.left fc fl (merge-product c.args.xs.now c.loop-exponent.exponent-index c.loop-exponent-test.true (total c.args.ys.now * unsigned_abs c.args.right) (unsigned_abs c.args.left) c.requires.small) in
    let a : unsigned_abs (to_z w128 (of_z w128 (to_z w128 (of_z w128 (coefficient_at c.args.xs.now c.loop-exponent.exponent-index)) *ℤ to_z w128 (of_z w128 c.args.left)))) ≡ unsigned_abs (coefficient_at c.args.xs.now c.loop-exponent.exponent-index) * unsigned_abs c.args.left = ap unsigned_abs p ∙ unsigned_abs-mul (coefficient_at c.args.xs.now c.loop-exponent.exponent-index) c.args.left in
    merge-small c.args.xs.now c.loop-exponent.exponent-index c.loop-exponent-test.true (total (drop c.in_ok-from.from c.args.ys.now) * unsigned_abs c.args.right) (total c.args.ys.now * unsigned_abs c.args.right) (total c.add_below.new.sums.items) (unsigned_abs (to_z w128 (of_z w128 (to_z w128 (of_z w128 (coefficient_at c.args.xs.now c.loop-exponent.exponent-index)) *ℤ to_z w128 (of_z w128 c.args.left))))) (unsigned_abs c.args.left) a (subst (λ k. total c.add_below.new.sums.items + total (drop c.in_ok-from.from c.args.ys.now) * unsigned_abs k ≤ total (take c.loop-exponent.exponent-index c.args.xs.now) * unsigned_abs c.args.left + total c.args.ys.now * unsigned_abs k) rr (subst (λ k. total c.add_below.new.sums.items + total (drop c.in_ok-from.from c.args.ys.now) * unsigned_abs (to_z w128 (of_z w128 c.args.right)) ≤ total (take c.loop-exponent.exponent-index c.args.xs.now) * unsigned_abs k + total c.args.ys.now * unsigned_abs (to_z w128 (of_z w128 c.args.right))) rl (through (total c.add_below.new.sums.items) (total (drop c.in_ok-from.from c.args.ys.now) * unsigned_abs (to_z w128 (of_z w128 c.args.right))) (total c.loop-exponent.sums.items) (total (drop c.loop-exponent.from c.args.ys.now) * unsigned_abs (to_z w128 (of_z w128 c.args.right))) (total (take c.loop-exponent.exponent-index c.args.xs.now) * unsigned_abs (to_z w128 (of_z w128 c.args.left)) + total c.args.ys.now * unsigned_abs (to_z w128 (of_z w128 c.args.right))) c.in_ok-from.ensures.total c.loop-exponent.invariant.most))) c.requires.small

pub loop-exponent-preserved : goal.loop-exponent-preserved
loop-exponent-preserved c =
    let fl : FitsSigned w128 c.args.left = search rules in
    let rl : to_z w128 (of_z w128 c.args.left) ≡ c.args.left = to_z-of_z w128 c.args.left fl in
    let fc : FitsSigned w128 (coefficient_at c.args.xs.now c.loop-exponent.exponent-index) = search rules in
    let p : (to_z w128 (of_z w128 (to_z w128 (of_z w128 (coefficient_at c.args.xs.now c.loop-exponent.exponent-index)) *ℤ to_z w128 (of_z w128 c.args.left)))) ≡ (coefficient_at c.args.xs.now c.loop-exponent.exponent-index) *ℤ c.args.left = product_read (coefficient_at c.args.xs.now c.loop-exponent.exponent-index) c.args.left fc fl (merge-product c.args.xs.now c.loop-exponent.exponent-index c.loop-exponent-test.true (total c.args.ys.now * unsigned_abs c.args.right) (unsigned_abs c.args.left) c.requires.small) in
    let a : unsigned_abs (to_z w128 (of_z w128 (to_z w128 (of_z w128 (coefficient_at c.args.xs.now c.loop-exponent.exponent-index)) *ℤ to_z w128 (of_z w128 c.args.left)))) ≡ unsigned_abs (coefficient_at c.args.xs.now c.loop-exponent.exponent-index) * unsigned_abs (to_z w128 (of_z w128 c.args.left)) = ap unsigned_abs p ∙ unsigned_abs-mul (coefficient_at c.args.xs.now c.loop-exponent.exponent-index) c.args.left ∙ ap (λ k. unsigned_abs (coefficient_at c.args.xs.now c.loop-exponent.exponent-index) * unsigned_abs k) (sym rl) in
    record {
      within = c.in_ok-from.ensures.within;
      terms = λ n h g. c.in_ok-add_term.ensures.terms n (c.in_ok-from.ensures.terms n (c.loop-exponent.invariant.terms n h g) g)
          (subst (IsTerm n 0 (exponent_at c.args.xs.now c.loop-exponent.exponent-index)) (sym p) (term-scaled n 0 (exponent_at c.args.xs.now c.loop-exponent.exponent-index) (coefficient_at c.args.xs.now c.loop-exponent.exponent-index) c.args.left c.requires.left (terms-at n 0 c.args.xs.now c.loop-exponent.exponent-index h c.loop-exponent-test.true)));
      sum = λ n. merge-next c.args.xs.now c.loop-exponent.exponent-index c.loop-exponent-test.true n (to_z w128 (of_z w128 c.args.left)) ((numbers n).mul (integer (numbers n) (to_z w128 (of_z w128 c.args.right))) (terms_sum n (drop c.in_ok-from.from c.args.ys.now))) ((numbers n).mul (integer (numbers n) (to_z w128 (of_z w128 c.args.right))) (terms_sum n c.args.ys.now))
          (terms_sum n c.add_below.new.sums.items) (terms_sum n c.add_term.new.terms.items) (to_z w128 (of_z w128 (to_z w128 (of_z w128 (coefficient_at c.args.xs.now c.loop-exponent.exponent-index)) *ℤ to_z w128 (of_z w128 c.args.left)))) (p ∙ ap (λ k. (coefficient_at c.args.xs.now c.loop-exponent.exponent-index) *ℤ k) (sym rl)) (c.in_ok-from.ensures.sum n ∙ c.loop-exponent.invariant.sum n) (c.in_ok-add_term.ensures.sum n);
      most = merge-most c.args.xs.now c.loop-exponent.exponent-index c.loop-exponent-test.true (total (drop c.in_ok-from.from c.args.ys.now) * unsigned_abs (to_z w128 (of_z w128 c.args.right))) (total c.args.ys.now * unsigned_abs (to_z w128 (of_z w128 c.args.right))) (total c.add_below.new.sums.items) (total c.add_term.new.terms.items)
          (unsigned_abs (to_z w128 (of_z w128 (to_z w128 (of_z w128 (coefficient_at c.args.xs.now c.loop-exponent.exponent-index)) *ℤ to_z w128 (of_z w128 c.args.left))))) (unsigned_abs (to_z w128 (of_z w128 c.args.left))) a (through (total c.add_below.new.sums.items) (total (drop c.in_ok-from.from c.args.ys.now) * unsigned_abs (to_z w128 (of_z w128 c.args.right))) (total c.loop-exponent.sums.items) (total (drop c.loop-exponent.from c.args.ys.now) * unsigned_abs (to_z w128 (of_z w128 c.args.right))) (total (take c.loop-exponent.exponent-index c.args.xs.now) * unsigned_abs (to_z w128 (of_z w128 c.args.left)) + total c.args.ys.now * unsigned_abs (to_z w128 (of_z w128 c.args.right))) c.in_ok-from.ensures.total c.loop-exponent.invariant.most) c.in_ok-add_term.ensures.total;
    }

rest-are : (n k : ℕ) (ys : List (ℕ × ℤ)) → AreTerms n 0 ys → AreTerms n 0 (take (length ys - k) (drop k ys))
rest-are n k ys h = subst (AreTerms n 0) (sym (take_rest ys k)) (terms-back n 0 0 k ys h (λ lt. omega arith))

rest-small : (now rest left all r most : ℕ) → now + rest * r ≤ left + all * r → left + all * r < most → now + rest * r < most
rest-small now rest left all r most h g = omega (arith, h, g)

pub add_multiples-requires-clause-both : goal.add_multiples-requires-clause-both
add_multiples-requires-clause-both c = (c.requires.both.0, c.loop-exponent.invariant.terms c.requires.both.0 c.requires.both.1 c.requires.both.2, rest-are c.requires.both.0 c.loop-exponent.from c.args.ys.now c.requires.both.2)

below-most : (n : ℕ) → n < 2 ^ 110 → n < 2 ^ 126
below-most n h = omega arith

pub add_multiples-requires-clause-small : goal.add_multiples-requires-clause-small
add_multiples-requires-clause-small c =
    let fl : FitsSigned w128 c.args.left = search rules in
    let rl : to_z w128 (of_z w128 c.args.left) ≡ c.args.left = to_z-of_z w128 c.args.left fl in
    let fr : FitsSigned w128 c.args.right = search rules in
    let rr : to_z w128 (of_z w128 c.args.right) ≡ c.args.right = to_z-of_z w128 c.args.right fr in
    let all : take c.loop-exponent.exponent-index c.args.xs.now ≡ c.args.xs.now = take_all c.loop-exponent.exponent-index c.args.xs.now c.loop-exponent-test.false in
    subst (λ (ts : List (ℕ × ℤ)). total c.loop-exponent.sums.items + total ts * unsigned_abs (to_z w128 (of_z w128 c.args.right)) < 2 ^ 126) (sym (take_rest c.args.ys.now c.loop-exponent.from))
    (subst (λ k. total c.loop-exponent.sums.items + total (drop c.loop-exponent.from c.args.ys.now) * unsigned_abs k < 2 ^ 126) (sym rr)
    (below-most (total c.loop-exponent.sums.items + total (drop c.loop-exponent.from c.args.ys.now) * unsigned_abs c.args.right)
    (rest-small (total c.loop-exponent.sums.items) (total (drop c.loop-exponent.from c.args.ys.now)) (total c.args.xs.now * unsigned_abs c.args.left) (total c.args.ys.now) (unsigned_abs c.args.right) (2 ^ 110)
    (subst (λ (ts : List (ℕ × ℤ)). total c.loop-exponent.sums.items + total (drop c.loop-exponent.from c.args.ys.now) * unsigned_abs c.args.right ≤ total ts * unsigned_abs c.args.left + total c.args.ys.now * unsigned_abs c.args.right) all (subst (λ k. total c.loop-exponent.sums.items + total (drop c.loop-exponent.from c.args.ys.now) * unsigned_abs k ≤ total (take c.loop-exponent.exponent-index c.args.xs.now) * unsigned_abs c.args.left + total c.args.ys.now * unsigned_abs k) rr (subst (λ k. total c.loop-exponent.sums.items + total (drop c.loop-exponent.from c.args.ys.now) * unsigned_abs (to_z w128 (of_z w128 c.args.right)) ≤ total (take c.loop-exponent.exponent-index c.args.xs.now) * unsigned_abs k + total c.args.ys.now * unsigned_abs (to_z w128 (of_z w128 c.args.right))) rl c.loop-exponent.invariant.most))) c.requires.small)))

pub returns-clause-terms : goal.returns-clause-terms
returns-clause-terms c = λ n h g. c.in_ok-add_multiples.ensures.terms n (c.loop-exponent.invariant.terms n h g) (rest-are n c.loop-exponent.from c.args.ys.now g)

pub returns-clause-sum : goal.returns-clause-sum
returns-clause-sum c = λ n.
    let fl : FitsSigned w128 c.args.left = search rules in
    let rl : to_z w128 (of_z w128 c.args.left) ≡ c.args.left = to_z-of_z w128 c.args.left fl in
    let fr : FitsSigned w128 c.args.right = search rules in
    let rr : to_z w128 (of_z w128 c.args.right) ≡ c.args.right = to_z-of_z w128 c.args.right fr in
    c.in_ok-add_multiples.ensures.sum n
    ∙ ap (λ (ts : List (ℕ × ℤ)). (numbers n).add (terms_sum n c.loop-exponent.sums.items) ((numbers n).mul (integer (numbers n) (to_z w128 (of_z w128 c.args.right))) (terms_sum n ts))) (take_rest c.args.ys.now c.loop-exponent.from)
    ∙ c.loop-exponent.invariant.sum n
    ∙ (λ i. (numbers n).add ((numbers n).mul (integer (numbers n) (rl i)) (terms_sum n (take_all c.loop-exponent.exponent-index c.args.xs.now c.loop-exponent-test.false i))) ((numbers n).mul (integer (numbers n) (rr i)) (terms_sum n c.args.ys.now)))
