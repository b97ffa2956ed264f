-- The first number at which the operations differ.
use Rattle.std.proofs.Common.{rules, ◌≡◌, sym, ◌∙◌, ap, subst, inl, inr, ℕ, ◌<◌, length, get_or, arith}
use Rattle.std.proofs.lemmas.List.{get_or_default}
use Rattle.irr_rep.specs.Twisted.{operation_places}
use Rattle.irr_rep.proofs.WrongPairs.{is-true, not-true}
use Rattle.irr_check.specs.Operations.{AreSameAt}
use Rattle.irr_check.proofs.OperationLists.{first_ended, first_longer, first_other_here, none_other, other_here, reach, same_here}
use Rattle.irr_check.proofs.RowDifferences.{before_or_at}
use Rattle.irr_check.proofs.operations.first_other.Goals as goal

pub returns-then-i-ops-clause-first : goal.returns-then-i-ops-clause-first
returns-then-i-ops-clause-first c =
    let l : c.loop-i.i < length (operation_places c.args.t.now) = search rules in
    let e : c.loop-i.i ≡ length c.args.ops.now = search rules in
    first_ended c.args.group.now.ops.items (operation_places c.args.t.now) c.args.ops.now c.loop-i.i l e c.loop-i.invariant

pub bounds-all-place : goal.bounds-all-place
bounds-all-place c =
    let l : c.loop-i.i < length (operation_places c.args.t.now) = search rules in
    subst (λ k. c.place.result < k) (sym (ap length c.ops-all.ensures.list))
    (c.requires.places c.place.result (c.loop-i.i, l, get_or_default (operation_places c.args.t.now) c.loop-i.i c.place.result 0 l ∙ sym c.place.ensures))

pub bounds-ops-i : goal.bounds-ops-i
bounds-ops-i c =
    let r = (reach c.args.group.now.ops.items (operation_places c.args.t.now) c.args.ops.now c.loop-i.i c.loop-i.invariant).1 in
    let e : ¬ (c.loop-i.i ≡ length c.args.ops.now) = search rules in
    omega (arith, r, e)

pub returns-then-not-is_same-clause-first : goal.returns-then-not-is_same-clause-first
returns-then-not-is_same-clause-first c =
    let all = c.args.group.now.ops.items in
    let places = operation_places c.args.t.now in
    let ops = c.args.ops.now in
    let i = c.loop-i.i in
    let l : i < length places = search rules in
    let r = (reach all places ops i c.loop-i.invariant).1 in
    let n : ¬ (i ≡ length ops) = search rules in
    let m : i < length ops = omega (arith, r, n) in
    let known : c.place.result < length all = c.requires.places c.place.result (i, l, get_or_default places i c.place.result 0 l ∙ sym c.place.ensures) in
    first_other_here all places ops i l m (λ s. not-true c.is_same.result c.if-not-is_same.true (c.is_same.ensures.1
    (other_here all places ops i c.place.result c.index-all-place.result c.index-ops-i.result l c.place.ensures known
    (subst (λ xs. c.index-all-place.result ≡ get_or xs c.place.result c.index-all-place.result) c.ops-all.ensures.list c.index-all-place.is)
    m c.index-ops-i.is s))) c.loop-i.invariant

pub loop-i-preserved : goal.loop-i-preserved
loop-i-preserved c k b =
    let all = c.args.group.now.ops.items in
    let places = operation_places c.args.t.now in
    let ops = c.args.ops.now in
    let i = c.loop-i.i in
    let l : i < length places = search rules in
    let r = (reach all places ops i c.loop-i.invariant).1 in
    let n : ¬ (i ≡ length ops) = search rules in
    let m : i < length ops = omega (arith, r, n) in
    let known : c.place.result < length all = c.requires.places c.place.result (i, l, get_or_default places i c.place.result 0 l ∙ sym c.place.ensures) in
    elim (before_or_at k i b) [
      | inl less ↦ c.loop-i.invariant k less
      | inr at ↦ subst (AreSameAt all places ops) (sym at)
          (same_here all places ops i c.place.result c.index-all-place.result c.index-ops-i.result l c.place.ensures known
          (subst (λ xs. c.index-all-place.result ≡ get_or xs c.place.result c.index-all-place.result) c.ops-all.ensures.list c.index-all-place.is)
          m c.index-ops-i.is (c.is_same.ensures.0 (is-true c.is_same.result c.if-not-is_same.false)))
    ]

pub returns-then-len-ops-clause-first : goal.returns-then-len-ops-clause-first
returns-then-len-ops-clause-first c =
    let all = c.args.group.now.ops.items in
    let places = operation_places c.args.t.now in
    let ops = c.args.ops.now in
    let r : c.len-then-len-ops.result ≡ length places = search rules in
    let i : c.loop-i.i ≡ c.len-then-len-ops.result = search rules in
    let e : ¬ (c.len-then-len-ops.result ≡ length ops) = search rules in
    first_longer all places ops c.len-then-len-ops.result r e (subst (λ n. (k : ℕ) → k < n → AreSameAt all places ops k) i c.loop-i.invariant)

pub returns-clause-first : goal.returns-clause-first
returns-clause-first c =
    let all = c.args.group.now.ops.items in
    let places = operation_places c.args.t.now in
    let ops = c.args.ops.now in
    let r : c.loop-i.i ≡ length places = search rules in
    let e : c.loop-i.i ≡ length ops = search rules in
    none_other all places ops c.loop-i.i r e c.loop-i.invariant
