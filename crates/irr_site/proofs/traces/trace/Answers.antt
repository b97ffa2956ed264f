-- The terms, one after another.
use Rattle.std.proofs.Common.{◌≡◌, sym, ◌∙◌, ap, ap₂, subst, refl, ℕ, ◌+◌, ◌*◌, ◌<◌, ◌≤◌, ◌^◌, List, length, get_or, map, rules, arith}
use native.Mathlib.Nat as Nat
use Rattle.std.specs.Prelude.{Option, None}
use Rattle.std.proofs.lemmas.List.{get_or_default}
use Rattle.irr_algebra.specs.Listed.{sum_below}
use Rattle.irr_algebra.proofs.Listed.{sum_below-add_one, sum_below-zero}
use Rattle.irr_number.specs.Number.{Number, numbers}
use Rattle.irr_canonical.specs.RootSum.{IsRootSum}
use Rattle.irr_canonical.proofs.RootSums.{IsRootSum-add_same, IsRootSum-more, IsRootSum-zero}
use Rattle.irr_mat.proofs.Sizes.{sum_denominators, sum_sizes}
use Rattle.irr_site.specs.Traces.{FitsIn, IsSumOf, rest_term}
use Rattle.irr_site.specs.declared.rest.Rest.{Rest}
use Rattle.irr_site.proofs.traces.trace.Goals as goal

add_room : (i n : ℕ) → i ≤ 48 → n ≤ 12000 → i * 48 * n * 1 + 48 * n * 1 < 2 ^ 110
add_room i n few limited =
    let a : i * 48 * n ≤ 48 * 48 * 12000 = Nat.mul-le-mul (Nat.mul-le-mul_right 48 few) limited in
    let b : 48 * n ≤ 48 * 12000 = Nat.mul-le-mul_left 48 limited in
    omega (arith, a, b)

next : (i : ℕ) → i * 48 + 48 ≡ (i + 1) * 48
next i = omega arith

few_terms : (i a : ℕ) → i < a → a ≤ 48 → i ≤ 48
few_terms i a l m = omega (arith, l, m)

pub loop-i-init : goal.loop-i-init
loop-i-init g c =
    let n = c.args.order.now.n in
    record {
      has_order = c.in_ok-sum.ensures.order;
      few = subst (IsRootSum n 0 1) (sym c.in_ok-sum.ensures.value) (IsRootSum-zero n 1 (omega arith));
      so_far = c.in_ok-sum.ensures.value ∙ sym (sum_below-zero (numbers n)
          (λ a. rest_term n (map (g.S.Scalar.value n) c.args.row.now) (get_or c.args.rests.now a None)));
    }

pub term_or_zero-requires-clause-fits : goal.term_or_zero-requires-clause-fits
term_or_zero-requires-clause-fits g c =
    let l : c.loop-i.i < length c.args.rests.now = search rules in
    c.requires.fit c.loop-i.i None l

pub add-requires-clause-denominators : goal.add-requires-clause-denominators
add-requires-clause-denominators g c =
    let n = c.args.order.now.n in
    let sum = c.loop-i.sum in
    sum_denominators g.S.Scalar.value (g.S.Scalar.order_of sum) n
    (g.met.S.Scalar.admitted_positive (g.S.Scalar.order_of sum) (g.met.S.Scalar.order_admitted sum))
    c.loop-i.invariant.has_order
    (c.loop-i.i * 48) 1 48 1 sum c.in_ok-term.term c.loop-i.invariant.few c.in_ok-term.ensures.few (2 ^ 60)
    (omega arith)

pub add-requires-clause-sizes : goal.add-requires-clause-sizes
add-requires-clause-sizes g c =
    let n = c.args.order.now.n in
    let sum = c.loop-i.sum in
    let l : c.loop-i.i < length c.args.rests.now = search rules in
    sum_sizes g.S.Scalar.value (g.S.Scalar.order_of sum) n
    (g.met.S.Scalar.admitted_positive (g.S.Scalar.order_of sum) (g.met.S.Scalar.order_admitted sum))
    c.loop-i.invariant.has_order
    (c.loop-i.i * 48) 1 48 1 sum c.in_ok-term.term c.loop-i.invariant.few c.in_ok-term.ensures.few (2 ^ 110)
    (add_room c.loop-i.i n (few_terms c.loop-i.i (length c.args.rests.now) l c.requires.few) c.args.order.now.limited)

pub loop-i-preserved : goal.loop-i-preserved
loop-i-preserved g c =
    let n = c.args.order.now.n in
    let value = g.S.Scalar.value in
    let sum = c.loop-i.sum in
    let i = c.loop-i.i in
    let added = subst (λ u. value u c.in_ok-sum-2.sum ≡ (numbers u).add (value u sum) (value u c.in_ok-term.term))
    c.loop-i.invariant.has_order c.in_ok-sum-2.ensures.value in
    record {
      has_order = c.in_ok-sum-2.ensures.order ∙ c.loop-i.invariant.has_order;
      few = subst (λ m. IsRootSum n m 1 (value n c.in_ok-sum-2.sum)) (next i)
          (subst (IsRootSum n (i * 48 + 48) 1) (sym added)
          (IsRootSum-add_same n c.loop-i.invariant.few c.in_ok-term.ensures.few));
      so_far = added ∙ ap₂ (numbers n).add c.loop-i.invariant.so_far c.in_ok-term.ensures.value
          ∙ sym (sum_below-add_one (numbers n) i
          (λ a. rest_term n (map (value n) c.args.row.now) (get_or c.args.rests.now a None)));
    }

pub returns-clause-sum : goal.returns-clause-sum
returns-clause-sum g c =
    let n = c.args.order.now.n in
    let done : c.loop-i.i ≡ length c.args.rests.now = search rules in
    c.loop-i.invariant.so_far ∙ ap (λ m. sum_below (numbers n) m
    (λ a. rest_term n (map (g.S.Scalar.value n) c.args.row.now) (get_or c.args.rests.now a None))) done
