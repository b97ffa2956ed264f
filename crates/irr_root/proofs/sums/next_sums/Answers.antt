-- The sums of one more number, and of all.
use Rattle.std.proofs.Common.{◌≡◌, sym, subst, ℕ, ◌+◌, ◌*◌, ◌/◌, length, arith}
use Rattle.std.proofs.lemmas.List.Elements.{All-get_or}
use Rattle.irr_number.specs.Number.{Number, root_power}
use Rattle.irr_rep.specs.Twisted.{phase_table}
use Rattle.irr_root.specs.RootSums.{IsSmall}
use Rattle.irr_root.proofs.RootLists.{SumsSoFar, sums-all, sums-next}
use Rattle.irr_root.proofs.sums.next_sums.Goals as goal

pub with_roots-requires-clause-small : goal.with_roots-requires-clause-small
with_roots-requires-clause-small g c =
    let order = g.S.Scalar.order_of in
    let value = g.S.Scalar.value in
    let n = c.args.order.now.n in
    let s = c.requires.small.0 in (
      s,
      c.requires.small.1,
      subst (IsSmall order value n s) (sym c.rest-item.is)
          (All-get_or (IsSmall order value n s) c.args.rests.now c.loop-rest.rest-index c.rest-item.result c.loop-rest-test.true c.requires.small.2),
      c.loop-rest.invariant.small s c.requires.small.1 c.requires.small.2,
    )

pub loop-rest-preserved : goal.loop-rest-preserved
loop-rest-preserved g c =
    let n = c.args.order.now.n in
    let N = (phase_table c.args.t.now).order in
    let f : ℕ → Number c.args.order.now.n = λ i. root_power n ((c.args.e / c.args.p + i * (N / c.args.p)) * (n / N)) in
    sums-next g.S.Scalar.order_of g.S.Scalar.value n c.args.rests.now f c.args.p c.loop-rest.rest-index c.loop-rest.sums.items c.in_ok-sums.sums.items c.rest-item.result
    c.loop-rest-test.true c.rest-item.is c.loop-rest.invariant c.in_ok-sums.ensures.small c.in_ok-sums.ensures.kept c.in_ok-sums.ensures.roots

pub returns-clause-roots : goal.returns-clause-roots
returns-clause-roots g c = λ x h j l.
    let n = c.args.order.now.n in
    let N = (phase_table c.args.t.now).order in
    let f : ℕ → Number c.args.order.now.n = λ i. root_power n ((c.args.e / c.args.p + i * (N / c.args.p)) * (n / N)) in
    let done : c.loop-rest.rest-index ≡ length c.args.rests.now = omega (arith, c.loop-rest.auto.rest-index-end, c.loop-rest-test.false) in
    sums-all g.S.Scalar.order_of g.S.Scalar.value n c.args.rests.now f c.args.p c.loop-rest.sums.items
    (subst (λ k. SumsSoFar g.S.Scalar.order_of g.S.Scalar.value n c.args.rests.now f c.args.p k c.loop-rest.sums.items) done c.loop-rest.invariant) x h j l
