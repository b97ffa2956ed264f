-- One more root: its sum is there, or is added.
use Rattle.std.proofs.Common.{sym, ◌∙◌, ap, subst, ℕ, ◌+◌, ◌*◌, ◌/◌, ◌≤◌, map, Contains, arith}
use Rattle.std.proofs.lemmas.List.Elements.{All-weaker}
use Rattle.irr_number.specs.Number.{Number, numbers, root_power}
use Rattle.irr_canonical.specs.RootSum.{IsRootSum}
use Rattle.irr_canonical.proofs.RootSums.{IsRootSum-more}
use Rattle.irr_rep.specs.Twisted.{phase_table}
use Rattle.irr_root.specs.RootSums.{AreSmall, IsSmall}
use Rattle.irr_root.proofs.RootLists.{RootsSoFar, roots-new, roots-old, small-sum}
use Rattle.irr_root.proofs.Smalls.{is-true, small-more}
use Rattle.irr_root.proofs.sums.with_roots.Goals as goal
use Rattle.irr_root.proofs.sums.with_roots.Goals.{then-not-is_among+in_ok-push, else-not-is_among}

pub is_among-requires : goal.is_among-requires
is_among-requires g c =
    let order = g.S.Scalar.order_of in
    let value = g.S.Scalar.value in
    let n = c.args.order.now.n in
    let N = (phase_table c.args.t.now).order in
    let s = c.requires.small.0 in
    let few : s + 1 ≤ 48 = let l = c.requires.small.1 in omega (arith, l) in
    let root = (c.args.e / c.args.p + c.loop-j.j * (N / c.args.p)) * (n / N) in
    record {
      numbers = (
        n,
        subst (AreSmall order value n 48) (sym c.as_slice.ensures.value)
            (All-weaker (IsSmall order value n (s + 1)) (IsSmall order value n 48) (λ x h. small-more order value n (s + 1) 48 x few h) c.loop-j.sums.items
            (c.loop-j.invariant.small s c.requires.small.1 c.requires.small.2 c.requires.small.3)),
        record {
          has_order = c.in_ok-sum.ensures.order;
          few = subst (IsRootSum n 48 1) (sym c.in_ok-sum.ensures.value) (IsRootSum-more n 48 few (small-sum order value n s root c.args.rest.now c.requires.small.2));
        },
      );
    }

pub loop-j-preserved : goal.loop-j-preserved
loop-j-preserved g c =
    let order = g.S.Scalar.order_of in
    let value = g.S.Scalar.value in
    let n = c.args.order.now.n in
    let N = (phase_table c.args.t.now).order in
    let j = c.loop-j.j in
    let f : ℕ → Number c.args.order.now.n = λ i. (numbers n).add (root_power n ((c.args.e / c.args.p + i * (N / c.args.p)) * (n / N))) (value n c.args.rest.now) in
    elim c.if-not-is_among.branch [
      | then-not-is_among+in_ok-push w ↦ roots-new order value n c.args.sums.items c.args.rest.now f j c.loop-j.sums.items c.if-not-is_among.sums.items c.in_ok-sum.sum c.loop-j.invariant
          (ap (λ v. v.items) w.sums-is ∙ w.in_ok-push.ensures.items) c.in_ok-sum.ensures.order c.in_ok-sum.ensures.value
          (λ s r. small-sum order value n s ((c.args.e / c.args.p + j * (N / c.args.p)) * (n / N)) c.args.rest.now r)
      | else-not-is_among w ↦ subst (RootsSoFar order value n c.args.sums.items c.args.rest.now f (j + 1)) (sym (ap (λ v. v.items) w.sums-is))
          (roots-old order value n c.args.sums.items c.args.rest.now f j c.loop-j.sums.items c.loop-j.invariant
          (subst (Contains (map (value n) c.loop-j.sums.items)) c.in_ok-sum.ensures.value (subst (λ l. Contains (map (value n) l) (value n c.in_ok-sum.sum)) c.as_slice.ensures.value
          (c.is_among.ensures (is-true c.is_among.result w.if-not-is_among.false) n c.in_ok-sum.ensures.order))))
    ]
