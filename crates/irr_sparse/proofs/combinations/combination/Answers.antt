-- Two terms of one power, or any.
use Rattle.std.proofs.Common.{rules, ◌≡◌, sym, ◌∙◌, subst, ℕ, ℤ, ◌+◌, ◌*◌, ◌<◌, ◌^◌, ◌*ℤ◌, List, length, unsigned_abs, FitsSigned, to_z, of_z, arith}
use Rattle.irr_sparse.proofs.Pairs.{pair-small, pair-combination}
use Rattle.std.proofs.lemmas.Int.{to_z-of_z}
use mir.Syntax.{w128}
use Rattle.irr_number.specs.Number.{numbers}
use Rattle.irr_rational.specs.Integer.{integer}
use Rattle.irr_cyc.specs.Terms.{terms_sum}
use Rattle.irr_sparse.specs.TermList.{IsTerm, coefficient_at, exponent_at, total}
use Rattle.irr_sparse.proofs.Lists.{terms-at}
use Rattle.irr_sparse.proofs.Products.{term-scaled, factor-small}
use Rattle.irr_sparse.proofs.Words.{product_fits, product_read}
use Rattle.irr_sparse.proofs.combinations.combination.Goals as goal

-- one term on each side
some : (n : ℕ) → n ≡ 1 → 0 < n
some n e = omega (arith, e)

one-left : (xs ys : List (ℕ × ℤ)) (l r : ℕ) → 0 < length xs → total xs * l + total ys * r < 2 ^ 110 → unsigned_abs (coefficient_at xs 0) * l < 2 ^ 127
one-left xs ys l r lt h = factor-small xs l 0 lt (omega (arith, h))

one-right : (xs ys : List (ℕ × ℤ)) (l r : ℕ) → 0 < length ys → total xs * l + total ys * r < 2 ^ 110 → unsigned_abs (coefficient_at ys 0) * r < 2 ^ 127
one-right xs ys l r lt h = factor-small ys r 0 lt (omega (arith, h))

pub overflow_mul-first : goal.overflow_mul-first
overflow_mul-first c =
    let fl : FitsSigned w128 c.args.left = search rules in
    let fc : FitsSigned w128 (coefficient_at c.args.xs.now 0) = search rules in
    let fits : FitsSigned w128 (to_z w128 (of_z w128 (coefficient_at c.args.xs.now 0)) *ℤ to_z w128 (of_z w128 c.args.left)) = product_fits (coefficient_at c.args.xs.now 0) c.args.left fc fl (one-left c.args.xs.now c.args.ys.now (unsigned_abs c.args.left) (unsigned_abs c.args.right) (some (length c.args.xs.now) (c.are_of_one_power.ensures.left c.if-are_of_one_power.true)) c.requires.small) in
    search rules

pub overflow_mul-second : goal.overflow_mul-second
overflow_mul-second c =
    let fr : FitsSigned w128 c.args.right = search rules in
    let fd : FitsSigned w128 (coefficient_at c.args.ys.now 0) = search rules in
    let fits : FitsSigned w128 (to_z w128 (of_z w128 (coefficient_at c.args.ys.now 0)) *ℤ to_z w128 (of_z w128 c.args.right)) = product_fits (coefficient_at c.args.ys.now 0) c.args.right fd fr (one-right c.args.xs.now c.args.ys.now (unsigned_abs c.args.left) (unsigned_abs c.args.right) (some (length c.args.ys.now) (c.are_of_one_power.ensures.right c.if-are_of_one_power.true)) c.requires.small) in
    search rules

pub sum_at-requires : goal.sum_at-requires
sum_at-requires c =
    let fl : FitsSigned w128 c.args.left = search rules in
    let fc : FitsSigned w128 (coefficient_at c.args.xs.now 0) = search rules in
    let fr : FitsSigned w128 c.args.right = search rules in
    let fd : FitsSigned w128 (coefficient_at c.args.ys.now 0) = search rules in
    pair-small c.args.xs.now c.args.ys.now c.args.left c.args.right _ _ (c.are_of_one_power.ensures.left c.if-are_of_one_power.true) (c.are_of_one_power.ensures.right c.if-are_of_one_power.true)
    (product_read (coefficient_at c.args.xs.now 0) c.args.left fc fl (one-left c.args.xs.now c.args.ys.now (unsigned_abs c.args.left) (unsigned_abs c.args.right) (some (length c.args.xs.now) (c.are_of_one_power.ensures.left c.if-are_of_one_power.true)) c.requires.small))
    (product_read (coefficient_at c.args.ys.now 0) c.args.right fd fr (one-right c.args.xs.now c.args.ys.now (unsigned_abs c.args.left) (unsigned_abs c.args.right) (some (length c.args.ys.now) (c.are_of_one_power.ensures.right c.if-are_of_one_power.true)) c.requires.small)) c.requires.small

pub returns-then-are_of_one_power-clause-terms : goal.returns-then-are_of_one_power-clause-terms
returns-then-are_of_one_power-clause-terms c = λ n h g.
    let fl : FitsSigned w128 c.args.left = search rules in
    let fc : FitsSigned w128 (coefficient_at c.args.xs.now 0) = search rules in
    c.sum_at.ensures.terms n (subst (IsTerm n 0 (exponent_at c.args.xs.now 0)) (sym (product_read (coefficient_at c.args.xs.now 0) c.args.left fc fl (one-left c.args.xs.now c.args.ys.now (unsigned_abs c.args.left) (unsigned_abs c.args.right) (some (length c.args.xs.now) (c.are_of_one_power.ensures.left c.if-are_of_one_power.true)) c.requires.small)))
    (term-scaled n 0 (exponent_at c.args.xs.now 0) (coefficient_at c.args.xs.now 0) c.args.left c.requires.left (terms-at n 0 c.args.xs.now 0 h (some (length c.args.xs.now) (c.are_of_one_power.ensures.left c.if-are_of_one_power.true)))))

pub returns-then-are_of_one_power-clause-sum : goal.returns-then-are_of_one_power-clause-sum
returns-then-are_of_one_power-clause-sum c = λ n.
    let fl : FitsSigned w128 c.args.left = search rules in
    let fc : FitsSigned w128 (coefficient_at c.args.xs.now 0) = search rules in
    let fr : FitsSigned w128 c.args.right = search rules in
    let fd : FitsSigned w128 (coefficient_at c.args.ys.now 0) = search rules in
    c.sum_at.ensures.sum n ∙ pair-combination c.args.xs.now c.args.ys.now c.args.left c.args.right _ _ (c.are_of_one_power.ensures.left c.if-are_of_one_power.true) (c.are_of_one_power.ensures.right c.if-are_of_one_power.true)
    (product_read (coefficient_at c.args.xs.now 0) c.args.left fc fl (one-left c.args.xs.now c.args.ys.now (unsigned_abs c.args.left) (unsigned_abs c.args.right) (some (length c.args.xs.now) (c.are_of_one_power.ensures.left c.if-are_of_one_power.true)) c.requires.small))
    (product_read (coefficient_at c.args.ys.now 0) c.args.right fd fr (one-right c.args.xs.now c.args.ys.now (unsigned_abs c.args.left) (unsigned_abs c.args.right) (some (length c.args.ys.now) (c.are_of_one_power.ensures.right c.if-are_of_one_power.true)) c.requires.small)) n (c.are_of_one_power.ensures.exponents c.if-are_of_one_power.true)

-- any two lists
pub merged-requires-clause-left : goal.merged-requires-clause-left
merged-requires-clause-left c =
    let fl : FitsSigned w128 c.args.left = search rules in
    let rl : to_z w128 (of_z w128 c.args.left) ≡ c.args.left = to_z-of_z w128 c.args.left fl in
    λ z. c.requires.left (sym rl ∙ z)

pub merged-requires-clause-right : goal.merged-requires-clause-right
merged-requires-clause-right c =
    let fr : FitsSigned w128 c.args.right = search rules in
    let rr : to_z w128 (of_z w128 c.args.right) ≡ c.args.right = to_z-of_z w128 c.args.right fr in
    λ z. c.requires.right (sym rr ∙ z)

pub merged-requires-clause-small : goal.merged-requires-clause-small
merged-requires-clause-small c =
    let fl : FitsSigned w128 c.args.left = search rules in
    let rl : to_z w128 (of_z w128 c.args.left) ≡ c.args.left = to_z-of_z w128 c.args.left fl in
    let fr : FitsSigned w128 c.args.right = search rules in
    let rr : to_z w128 (of_z w128 c.args.right) ≡ c.args.right = to_z-of_z w128 c.args.right fr in
    subst (λ m. m < 2 ^ 110) (λ i. total c.args.xs.now * unsigned_abs (sym rl i) + total c.args.ys.now * unsigned_abs (sym rr i)) c.requires.small

pub returns-clause-sum : goal.returns-clause-sum
returns-clause-sum c = λ n.
    let fl : FitsSigned w128 c.args.left = search rules in
    let rl : to_z w128 (of_z w128 c.args.left) ≡ c.args.left = to_z-of_z w128 c.args.left fl in
    let fr : FitsSigned w128 c.args.right = search rules in
    let rr : to_z w128 (of_z w128 c.args.right) ≡ c.args.right = to_z-of_z w128 c.args.right fr in
    c.in_ok-sums.ensures.sum n ∙ (λ i. (numbers n).add ((numbers n).mul (integer (numbers n) (rl i)) (terms_sum n c.args.xs.now)) ((numbers n).mul (integer (numbers n) (rr i)) (terms_sum n c.args.ys.now)))
