-- Not all sums are 0.
use Rattle.std.proofs.Common.{rules, ◌≡◌, refl, sym, subst, suc, ◌<◌, length, slice_index, arith}
use Rattle.std.specs.Prelude.{true, false}
use native.Mathlib.Decide.{dec_le}
use Rattle.irr_algebra.specs.Fin.{to_nat}
use Rattle.irr_algebra.proofs.Indices.{to_nat-lt}
use Rattle.irr_number.specs.Number.{numbers}
use Rattle.irr_root.proofs.ChoiceLaws.{coset-number, generator-lt, members-below, some-sum, target-not-zero, target-zero}
use Rattle.irr_root.proofs.Smalls.{is-true, not-true}
use Rattle.irr_root.proofs.choice.first_member.Goals as goal

pub loop-k-init : goal.loop-k-init
loop-k-init g c = λ d n l ne. absurd (omega (arith, l))

pub table-x-requires-clause-row : goal.table-x-requires-clause-row
table-x-requires-clause-row g c = generator-lt c.requires.choice

pub table-x-requires-clause-column : goal.table-x-requires-clause-column
table-x-requires-clause-column g c = let lt : c.loop-k.k < length c.args.members.now = search rules in members-below c.requires.choice c.loop-k.k 0 lt

pub returns-then-not-is_zero-clause-not_zero : goal.returns-then-not-is_zero-clause-not_zero
returns-then-not-is_zero-clause-not_zero g c = λ d n e x is z.
    let N = c.args.order.now.n in
    let value = g.S.Scalar.value in
    let r = c.in_ok-sum.sum in
    let place = coset-number d n c.loop-k.k (slice_index c.args.members.now c.loop-k.k) c.table-x.result e refl c.table-x.ensures.product in
    let zero = target-zero d n n (value N r) (c.in_ok-sum.ensures.target d n n place place) x is z in
    not-true c.is_zero.result (let e : c.is_zero.result ≡ false = search rules in e) (c.is_zero.ensures.zero.1 (subst (λ u. value u r
    ≡ (numbers u).zero) (sym c.in_ok-sum.ensures.small.has_order) zero))

pub loop-k-preserved : goal.loop-k-preserved
loop-k-preserved g c = λ d n l ne.
    let N = c.args.order.now.n in
    let value = g.S.Scalar.value in
    let r = c.in_ok-sum.sum in
    elim (dec_le (suc (to_nat n)) c.loop-k.k) [
      | yes m ↦ c.loop-k.invariant d n (omega (arith, m)) ne
      | no m ↦
          let same : to_nat n ≡ c.loop-k.k = omega (arith, l, m) in
          let place = coset-number d n c.loop-k.k (slice_index c.args.members.now c.loop-k.k) c.table-x.result same refl c.table-x.ensures.product in
          target-not-zero d n n (value N r) (c.in_ok-sum.ensures.target d n n place place) ne
          (subst (λ u. value u r ≡ (numbers u).zero) c.in_ok-sum.ensures.small.has_order (c.is_zero.ensures.zero.0 (is-true c.is_zero.result
          (let e : c.is_zero.result ≡ true = search rules in e))))
    ]

pub unreachable-requires : goal.unreachable-requires
unreachable-requires g c =
    let m = some-sum c.requires.choice in
    let l = to_nat-lt m.0 in
    let count = c.requires.choice.step.count in
    c.loop-k.invariant c.requires.choice m.0 (omega (arith, l, count, c.loop-k-test.false)) m.1
