-- The first term that differs decides.
use Rattle.std.proofs.Common.{rules, ◌≡◌, sym, subst, ℤ, pos, ◌<◌, ◌≤◌, ◌<ℤ◌, ◌≤ℤ◌, min, length, FitsSigned, to_z, of_z, Ordering, arith}
use Rattle.std.specs.Ordering.{MatchOrdering}
use Rattle.std.proofs.lemmas.Int.{to_z-of_z}
use mir.Syntax.{w128}
use Rattle.irr_space.specs.CompleteList.{IsNumberBefore}
use Rattle.irr_char.proofs.TermLists.{term_at}
use Rattle.irr_char.proofs.Comparisons.{slice_written, ordered_by_terms, ordered_by_last_term, ordered_by_other_term, same_by_terms}
use Rattle.irr_char.proofs.numbers.compare_numbers.Goals as goal

-- the sign of a coefficient that was read is the sign of the coefficient
sign_read : (o : Ordering) (z : ℤ) → FitsSigned w128 z → MatchOrdering o (pos 0 ≤ℤ to_z w128 (of_z w128 z)) ⊥ (to_z w128 (of_z w128 z) <ℤ pos 0)
    → MatchOrdering o (pos 0 ≤ℤ z) ⊥ (z <ℤ pos 0)
sign_read o z f h = subst (λ w. MatchOrdering o (pos 0 ≤ℤ w) ⊥ (w <ℤ pos 0)) (to_z-of_z w128 z f) h

pub returns-then-ne : goal.returns-then-ne
returns-then-ne c n a b p f g =
    let m : c.min-common.result ≡ min (length c.as_slice-xs.result.now) (length c.as_slice-ys.result.now) = c.min-common.ensures in
    let t : c.loop-k.k < c.min-common.result = c.loop-k-test.true in
    ordered_by_terms n a b c.args.x.now.den c.args.y.now.den c.as_slice-xs.result.now c.as_slice-ys.result.now
    (slice_written n a c.args.x.now.den c.args.x.now.terms.items c.as_slice-xs.result.now c.args.x.now.positive c.as_slice-xs.ensures.value f)
    (slice_written n b c.args.y.now.den c.args.y.now.terms.items c.as_slice-ys.result.now c.args.y.now.positive c.as_slice-ys.ensures.value g)
    c.loop-k.k c.loop-k.invariant (omega arith) (omega arith) c.compare_terms-order.result (search rules) c.compare_terms-order.ensures

pub returns-then-common-xs : goal.returns-then-common-xs
returns-then-common-xs c n a b p f g =
    let m : c.min-common.result ≡ min (length c.as_slice-xs.result.now) (length c.as_slice-ys.result.now) = c.min-common.ensures in
    let t : c.min-common.result < length c.as_slice-xs.result.now = c.if-common-xs.true in
    let u : c.min-common.result ≤ c.loop-k.k = c.loop-k-test.false in
    ordered_by_last_term n a b c.args.x.now.den c.args.y.now.den c.as_slice-xs.result.now c.as_slice-ys.result.now
    (slice_written n a c.args.x.now.den c.args.x.now.terms.items c.as_slice-xs.result.now c.args.x.now.positive c.as_slice-xs.ensures.value f)
    (slice_written n b c.args.y.now.den c.args.y.now.terms.items c.as_slice-ys.result.now c.args.y.now.positive c.as_slice-ys.ensures.value g)
    c.min-common.result (λ i l. c.loop-k.invariant i (omega arith)) (omega arith) (omega arith) c.against_none.result
    (sign_read c.against_none.result (term_at c.as_slice-xs.result.now c.min-common.result).1 (search rules) c.against_none.ensures)

pub returns-then-common-ys : goal.returns-then-common-ys
returns-then-common-ys c n a b p f g =
    let m : c.min-common.result ≡ min (length c.as_slice-xs.result.now) (length c.as_slice-ys.result.now) = c.min-common.ensures in
    let t : c.min-common.result < length c.as_slice-ys.result.now = c.if-common-ys.true in
    let u : c.min-common.result ≤ c.loop-k.k = c.loop-k-test.false in
    subst (λ o. MatchOrdering o (IsNumberBefore n a b) (a ≡ b) (IsNumberBefore n b a)) (sym c.reverse.ensures)
    (ordered_by_other_term n a b c.args.x.now.den c.args.y.now.den c.as_slice-xs.result.now c.as_slice-ys.result.now
    (slice_written n a c.args.x.now.den c.args.x.now.terms.items c.as_slice-xs.result.now c.args.x.now.positive c.as_slice-xs.ensures.value f)
    (slice_written n b c.args.y.now.den c.args.y.now.terms.items c.as_slice-ys.result.now c.args.y.now.positive c.as_slice-ys.ensures.value g)
    c.min-common.result (λ i l. c.loop-k.invariant i (omega arith)) (omega arith) (omega arith) c.against_none-then-common-ys.result
    (sign_read c.against_none-then-common-ys.result (term_at c.as_slice-ys.result.now c.min-common.result).1
    (search rules) c.against_none-then-common-ys.ensures))

pub returns : goal.returns
returns c n a b p f g =
    let m : c.min-common.result ≡ min (length c.as_slice-xs.result.now) (length c.as_slice-ys.result.now) = c.min-common.ensures in
    let t : length c.as_slice-xs.result.now ≤ c.min-common.result = c.if-common-xs.false in
    let s : length c.as_slice-ys.result.now ≤ c.min-common.result = c.if-common-ys.false in
    let u : c.min-common.result ≤ c.loop-k.k = c.loop-k-test.false in
    same_by_terms n a b c.args.x.now.den c.args.y.now.den c.as_slice-xs.result.now c.as_slice-ys.result.now
    (slice_written n a c.args.x.now.den c.args.x.now.terms.items c.as_slice-xs.result.now c.args.x.now.positive c.as_slice-xs.ensures.value f)
    (slice_written n b c.args.y.now.den c.args.y.now.terms.items c.as_slice-ys.result.now c.args.y.now.positive c.as_slice-ys.ensures.value g)
    c.min-common.result (λ i l. c.loop-k.invariant i (omega arith)) p (omega arith) (omega arith)
