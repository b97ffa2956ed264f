-- Each coefficient is its exact quotient.
use Rattle.std.proofs.Common.{◌≡◌, refl, ◌∙◌, ap, rules, ℕ, ℤ, pos, ◌+◌, ◌<◌, ◌<ℤ◌, List, ◌++◌, map, take, drop, length, slice_set, slice_index_or, int_div, to_z, of_z, arith, append-nil}
use Rattle.std.specs.Int.RustNames.{FitsSigned}
use Rattle.std.proofs.lemmas.Int.{ints, quot_fits, to_z-of_z}
use Rattle.std.proofs.lemmas.List.{drop_all, get_or_default, take_all}
use Rattle.std.proofs.lemmas.List.Edits.{map_over_more}
use mir.Syntax.{w128}
use Rattle.irr_sparse.specs.TermList.{coefficient_at, exponent_at}
use Rattle.irr_sparse.proofs.lowest.divide.Goals as goal

-- what is written is the quotient
written : (a b : ℤ) (d : ℕ) → FitsSigned w128 a → FitsSigned w128 b → b ≡ pos d → 0 < d → to_z w128 (of_z w128 (int_div (to_z w128 (of_z w128 a)) (to_z w128 (of_z w128 b)))) ≡ int_div a (pos d)
written a b d fa fb e p =
    let positive : pos 0 <ℤ pos d = omega (arith, ints) in
    let fits : FitsSigned w128 (int_div a (pos d)) = quot_fits w128 a (pos d) fa positive in
    ap (λ x. to_z w128 (of_z w128 x)) (λ i. int_div (to_z-of_z w128 a fa i) ((to_z-of_z w128 b fb ∙ e) i)) ∙ to_z-of_z w128 (int_div a (pos d)) fits

pub loop-term-init : goal.loop-term-init
loop-term-init c = refl

step : (xs ys : List (ℕ × ℤ)) (i d : ℕ) (v : ℤ) → i < length xs → length ys ≡ length xs → ys ≡ map (λ (t : ℕ × ℤ). (t.0, int_div t.1 (pos d))) (take i xs) ++ drop i xs → v ≡ int_div (coefficient_at ys i) (pos d)
    → slice_set ys i (exponent_at ys i, v) ≡ map (λ (t : ℕ × ℤ). (t.0, int_div t.1 (pos d))) (take (i + 1) xs) ++ drop (i + 1) xs
step xs ys i d v lt len inv e = ap (λ x. slice_set ys i (exponent_at ys i, x)) e
    ∙ map_over_more (λ (t : ℕ × ℤ). (t.0, int_div t.1 (pos d))) xs ys i (slice_index_or ys i (0, pos 0)) lt inv (get_or_default ys i (0, pos 0) (slice_index_or ys i (0, pos 0)) (omega (arith, len)))

pub loop-term-preserved : goal.loop-term-preserved
loop-term-preserved c =
    let fits : FitsSigned w128 (coefficient_at c.loop-term.terms c.loop-term.term-index) = search rules in
    let by : FitsSigned w128 c.from-divisor.result = search rules in
    step c.args.terms.now c.loop-term.terms c.loop-term.term-index c.args.divisor _ c.loop-term-test.true c.loop-term.auto.terms c.loop-term.invariant
    (written (coefficient_at c.loop-term.terms c.loop-term.term-index) c.from-divisor.result c.args.divisor fits by c.from-divisor.ensures c.requires)

pub returns : goal.returns
returns c = c.loop-term.invariant ∙ (λ i. map (λ (t : ℕ × ℤ). (t.0, int_div t.1 (pos c.args.divisor))) (take_all c.loop-term.term-index c.args.terms.now c.loop-term-test.false i) ++ drop_all c.loop-term.term-index c.args.terms.now c.loop-term-test.false i)
    ∙ append-nil (map (λ (t : ℕ × ℤ). (t.0, int_div t.1 (pos c.args.divisor))) c.args.terms.now)
