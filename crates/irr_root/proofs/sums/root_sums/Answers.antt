-- No exponent, one more, and all.
use Rattle.std.proofs.Common.{◌≡◌, sym, ◌∙◌, ap, subst, ◌/◌, ◌<◌, ◌≤◌, [], ◌∷◌, ◌++◌, get_or, map, take, Contains, arith}
use Rattle.std.proofs.lemmas.List.{take_all, take_more}
use Rattle.std.proofs.lemmas.List.Elements.{All-cons, All-nil, All-weaker}
use Rattle.irr_number.specs.Number.{numbers, root_power}
use Rattle.irr_canonical.specs.RootSum.{IsRootSum}
use Rattle.irr_canonical.proofs.RootSums.{IsRootSum-zero}
use Rattle.irr_rep.specs.Twisted.{phase_table}
use Rattle.irr_root.specs.RootSums.{AreSmall, HasRootSums, IsSmall}
use Rattle.irr_root.proofs.RootLists.{root_sums-none, root_sums-step}
use Rattle.irr_root.proofs.Smalls.{small-more}
use Rattle.irr_root.proofs.sums.root_sums.Goals as goal

pub loop-e-init : goal.loop-e-init
loop-e-init g c =
    let order = g.S.Scalar.order_of in
    let value = g.S.Scalar.value in
    let n = c.args.order.now.n in
    let N = (phase_table c.args.t.now).order in
    let x = c.in_ok-zero.zero in
    let is : c.push.new.self.items ≡ c.in_ok-zero.zero ∷ [] = c.in_ok-push.ensures.items ∙ ap (λ l. l ++ x ∷ []) c.new-sums.ensures.items in (
      subst (AreSmall order value n 0) (sym is) (All-cons (IsSmall order value n 0) x []
          (record { has_order = c.in_ok-zero.ensures.order; few = subst (IsRootSum n 0 1) (sym c.in_ok-zero.ensures.value) (IsRootSum-zero n 1 (omega arith)) })
          (All-nil (IsSmall order value n 0))),
      root_sums-none (numbers n) (root_power n (n / N)) c.args.p (N / c.args.p) (map (value n) c.push.new.self.items)
          (subst (λ l. Contains (map (value n) l) (numbers n).zero) (sym is) (0, omega arith, c.in_ok-zero.ensures.value)),
    )

pub loop-e-preserved : goal.loop-e-preserved
loop-e-preserved g c =
    let order = g.S.Scalar.order_of in
    let value = g.S.Scalar.value in
    let n = c.args.order.now.n in
    let N = (phase_table c.args.t.now).order in
    let i = c.loop-e.e-index in
    let es = c.args.exponents.now in
    let e = get_or c.args.exponents.now c.loop-e.e-index 0 in
    let z = root_power n (n / N) in
    let few : c.loop-e.e-index < 48 = omega (arith, c.loop-e-test.true, c.requires.few) in (
      c.in_ok-sums.ensures.small i few (subst (AreSmall order value n i) (sym c.as_slice.ensures.value) c.loop-e.invariant.0),
      subst (λ l. HasRootSums (numbers n) z c.args.p (N / c.args.p) l (map (value n) c.in_ok-sums.sums.items)) (sym (take_more es i 0 c.loop-e-test.true))
          (root_sums-step value n N c.args.p (take i es) e c.as_slice.result.now c.in_ok-sums.sums.items
          (subst (λ l. HasRootSums (numbers n) z c.args.p (N / c.args.p) (take i es) (map (value n) l)) (sym c.as_slice.ensures.value) c.loop-e.invariant.1)
          c.in_ok-sums.ensures.roots),
    )

pub returns-clause-small : goal.returns-clause-small
returns-clause-small g c =
    let order = g.S.Scalar.order_of in
    let value = g.S.Scalar.value in
    let n = c.args.order.now.n in
    let few : c.loop-e.e-index ≤ 48 = omega (arith, c.loop-e.auto.e-index-end, c.requires.few) in
    All-weaker (IsSmall order value n c.loop-e.e-index) (IsSmall order value n 48) (λ x h. small-more order value n c.loop-e.e-index 48 x few h) c.loop-e.sums.items c.loop-e.invariant.0

pub returns-clause-all : goal.returns-clause-all
returns-clause-all g c =
    let value = g.S.Scalar.value in
    let n = c.args.order.now.n in
    let N = (phase_table c.args.t.now).order in
    subst (λ l. HasRootSums (numbers n) (root_power n (n / N)) c.args.p (N / c.args.p) l (map (value n) c.loop-e.sums.items))
    (take_all c.loop-e.e-index c.args.exponents.now c.loop-e-test.false) c.loop-e.invariant.1
