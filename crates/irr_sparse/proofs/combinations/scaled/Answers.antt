-- One product more.
use Rattle.std.proofs.Common.{rules, ◌≡◌, sym, ◌∙◌, ap, ap₂, ℕ, ℤ, pos, ◌+◌, ◌*ℤ◌, List, [], ◌∷◌, ◌++◌, take, map, unsigned_abs, FitsSigned, to_z, of_z, ◌<◌, length, arith}
use Rattle.irr_sparse.proofs.Pairs.{scaled-one}
use Rattle.std.proofs.lemmas.Int.{to_z-of_z}
use Rattle.std.proofs.lemmas.List.{map_more, take_all}
use mir.Syntax.{w128}
use Rattle.irr_sparse.specs.TermList.{coefficient_at, exponent_at}
use Rattle.irr_sparse.proofs.Products.{factor-small}
use Rattle.irr_sparse.proofs.Words.{product_fits, product_read}
use Rattle.irr_sparse.proofs.combinations.scaled.Goals as goal

pub overflow_mul-coefficient : goal.overflow_mul-coefficient
overflow_mul-coefficient c =
    let ft : FitsSigned w128 c.args.times = search rules in
    let fc : FitsSigned w128 (coefficient_at c.args.terms.now c.loop-exponent.exponent-index) = search rules in
    let fits : FitsSigned w128 (to_z w128 (of_z w128 (coefficient_at c.args.terms.now c.loop-exponent.exponent-index)) *ℤ to_z w128 (of_z w128 c.args.times)) = product_fits (coefficient_at c.args.terms.now c.loop-exponent.exponent-index) c.args.times fc ft (factor-small c.args.terms.now (unsigned_abs c.args.times) c.loop-exponent.exponent-index c.loop-exponent-test.true c.requires) in
    search rules

pub loop-exponent-preserved : goal.loop-exponent-preserved
loop-exponent-preserved c =
    let ft : FitsSigned w128 c.args.times = search rules in
    let fc : FitsSigned w128 (coefficient_at c.args.terms.now c.loop-exponent.exponent-index) = search rules in
    let r : to_z w128 (of_z w128 c.args.times) ≡ c.args.times = to_z-of_z w128 c.args.times ft in
    let p : to_z w128 (of_z w128 (to_z w128 (of_z w128 (coefficient_at c.args.terms.now c.loop-exponent.exponent-index)) *ℤ to_z w128 (of_z w128 c.args.times))) ≡ (coefficient_at c.args.terms.now c.loop-exponent.exponent-index) *ℤ c.args.times = product_read (coefficient_at c.args.terms.now c.loop-exponent.exponent-index) c.args.times fc ft (factor-small c.args.terms.now (unsigned_abs c.args.times) c.loop-exponent.exponent-index c.loop-exponent-test.true c.requires) in
    c.in_ok-push.ensures.ok ∙ ap₂ (λ (ts : List (ℕ × ℤ)) (x : ℤ). ts ++ (exponent_at c.args.terms.now c.loop-exponent.exponent-index, x) ∷ []) (c.loop-exponent.invariant ∙ ap (λ k. map (λ (t : ℕ × ℤ). (t.0, t.1 *ℤ k)) (take c.loop-exponent.exponent-index c.args.terms.now)) r) p
    ∙ sym (map_more (λ (t : ℕ × ℤ). (t.0, t.1 *ℤ c.args.times)) c.args.terms.now c.loop-exponent.exponent-index (0, pos 0) c.loop-exponent-test.true)
    ∙ ap (λ k. map (λ (t : ℕ × ℤ). (t.0, t.1 *ℤ k)) (take (c.loop-exponent.exponent-index + 1) c.args.terms.now)) (sym r)

pub returns : goal.returns
returns c =
    let ft : FitsSigned w128 c.args.times = search rules in
    c.loop-exponent.invariant ∙ ap (λ k. map (λ (t : ℕ × ℤ). (t.0, t.1 *ℤ k)) (take c.loop-exponent.exponent-index c.args.terms.now)) (to_z-of_z w128 c.args.times ft) ∙ ap (map (λ (t : ℕ × ℤ). (t.0, t.1 *ℤ c.args.times))) (take_all c.loop-exponent.exponent-index c.args.terms.now c.loop-exponent-test.false)

-- a list of one term has a first
some : (n : ℕ) → n ≡ 1 → 0 < n
some n e = omega (arith, e)

pub overflow_mul-only : goal.overflow_mul-only
overflow_mul-only c =
    let ft : FitsSigned w128 c.args.times = search rules in
    let fc : FitsSigned w128 (coefficient_at c.args.terms.now 0) = search rules in
    let fits : FitsSigned w128 (to_z w128 (of_z w128 (coefficient_at c.args.terms.now 0)) *ℤ to_z w128 (of_z w128 c.args.times)) = product_fits (coefficient_at c.args.terms.now 0) c.args.times fc ft (factor-small c.args.terms.now (unsigned_abs c.args.times) 0 (some (length c.args.terms.now) c.if-count-eq1.true) c.requires) in
    search rules

pub returns-then-count-eq1 : goal.returns-then-count-eq1
returns-then-count-eq1 c =
    let ft : FitsSigned w128 c.args.times = search rules in
    let fc : FitsSigned w128 (coefficient_at c.args.terms.now 0) = search rules in
    scaled-one c.args.terms.now c.from_buf.result.items c.args.times _ c.if-count-eq1.true
    (product_read (coefficient_at c.args.terms.now 0) c.args.times fc ft (factor-small c.args.terms.now (unsigned_abs c.args.times) 0 (some (length c.args.terms.now) c.if-count-eq1.true) c.requires)) c.from_buf.ensures.items
