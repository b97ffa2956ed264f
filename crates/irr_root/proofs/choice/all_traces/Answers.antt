-- One trace more.
use Rattle.std.proofs.Common.{rules, ◌≡◌, refl, sym, ◌∙◌, ap, subst, ◌<◌, ◌+◌, [], ◌∷◌, length, map, slice_index, All, arith}
use Rattle.std.proofs.Math.ListN.{length-append}
use Rattle.std.proofs.lemmas.List.Elements.{All-nil, All-push}
use Rattle.irr_algebra.proofs.Indices.{from_nat, to_nat-from_nat, to_nat-lt}
use Rattle.irr_rep.specs.Twisted.{place_count}
use Rattle.irr_char.specs.Rows.{row_of}
use Rattle.irr_root.specs.Choice.{IsTraceAt}
use Rattle.irr_root.proofs.ChoiceLaws.{coset-number, generator-lt, members-below}
use Rattle.irr_root.proofs.TraceRows.{row-next}
use Rattle.irr_root.proofs.choice.all_traces.Goals as goal

pub loop-n-init : goal.loop-n-init
loop-n-init g c = (
  ap length c.new-traces.ensures.items,
  subst (All (λ x. g.S.Scalar.order_of x ≡ c.args.order.now.n)) (sym c.new-traces.ensures.items) (All-nil (λ x. g.S.Scalar.order_of x
      ≡ c.args.order.now.n)),
  λ d m s em ew n l. absurd (omega (arith, l)),
)

pub table-x-requires-clause-row : goal.table-x-requires-clause-row
table-x-requires-clause-row g c = generator-lt c.requires.choice

pub table-x-requires-clause-column : goal.table-x-requires-clause-column
table-x-requires-clause-column g c = let lt : c.loop-n.n < length c.args.members.now = search rules in members-below c.requires.choice c.loop-n.n 0 lt

pub trace_at-requires-clause-extension : goal.trace_at-requires-clause-extension
trace_at-requires-clause-extension g c =
    let e = c.requires.extension in
    let lt : c.loop-n.n < length c.args.members.now = search rules in
    let below = subst (λ l. c.loop-n.n < l) e.0.step.count lt in
    let n = from_nat (place_count c.args.inner.now) c.loop-n.n below in (
      e.0,
      n,
      coset-number e.0 n c.loop-n.n (slice_index c.args.members.now c.loop-n.n) c.table-x.result (to_nat-from_nat
          (place_count c.args.inner.now) c.loop-n.n below) refl
          c.table-x.ensures.product,
      e.1,
      e.2,
      e.3,
      e.4,
      e.5,
    )

pub loop-n-preserved : goal.loop-n-preserved
loop-n-preserved g c =
    let N = c.args.order.now.n in
    let value = g.S.Scalar.value in
    let r = c.in_ok-r.r in
    let old = c.loop-n.traces.items in (
      ap length c.in_ok-push.ensures.items ∙ length-append old (r ∷ []) ∙ ap (λ k. k + 1) c.loop-n.invariant.0,
      subst (All (λ x. g.S.Scalar.order_of x ≡ c.args.order.now.n)) (sym c.in_ok-push.ensures.items)
          (All-push (λ x. g.S.Scalar.order_of x ≡ c.args.order.now.n) old r c.loop-n.invariant.1 c.in_ok-r.ensures.order),
      λ d m s em ew n l.
          subst (λ xs. IsTraceAt d s n m (row_of c.args.order.now.n (map (g.S.Scalar.value c.args.order.now.n) xs) n))
          (sym c.in_ok-push.ensures.items)
          (row-next N (value N) old r (λ a x. IsTraceAt d s a m x) c.loop-n.n c.loop-n.invariant.0 (c.loop-n.invariant.2 d m s em ew)
          (λ a e. c.in_ok-r.ensures.trace d a m s
          (coset-number d a c.loop-n.n (slice_index c.args.members.now c.loop-n.n) c.table-x.result e refl c.table-x.ensures.product) em ew) n l),
    )

pub returns-clause-count : goal.returns-clause-count
returns-clause-count g c =
    let end : c.loop-n.n ≡ length c.args.members.now = omega (arith, c.loop-n.auto.n-end, c.loop-n-test.false) in
    c.loop-n.invariant.0 ∙ end ∙ c.requires.choice.step.count

pub returns-clause-orders : goal.returns-clause-orders
returns-clause-orders g c = c.loop-n.invariant.1

pub returns-clause-traces : goal.returns-clause-traces
returns-clause-traces g c d m s em ew n =
    let l = to_nat-lt n in
    let count = c.requires.choice.step.count in
    c.loop-n.invariant.2 d m s em ew n (omega (arith, l, count, c.loop-n-test.false))
