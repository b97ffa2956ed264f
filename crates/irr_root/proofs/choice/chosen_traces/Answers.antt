-- The first trace is that of some extension, and with it all are.
use Rattle.std.proofs.Common.{◌≡◌, refl, sym, ◌∙◌, ap, subst, ◌<◌, ◌-◌, ◌^◌, map, slice_index}
use Rattle.irr_algebra.specs.Fin.{to_nat}
use Rattle.irr_algebra.specs.Ring.{whole}
use Rattle.irr_algebra.proofs.Indices.{from_nat, to_nat-from_nat}
use Rattle.irr_number.specs.Number.{numbers}
use Rattle.irr_canonical.specs.RootSum.{IsRootSum}
use Rattle.irr_clifford.specs.Roots.{number_power}
use Rattle.irr_rep.specs.Twisted.{place_count}
use Rattle.irr_char.specs.Rows.{row_of}
use Rattle.irr_root.specs.Choice.{IsTraceAt}
use Rattle.irr_root.proofs.ChoiceLaws.{all-chosen, coset-number, first-continued, first-not-zero, generator-lt, members-below, one-or-two, trace-unique}
use Rattle.irr_root.proofs.LowerPowers.{power-small}
use Rattle.irr_root.proofs.WholeNumbers.{whole_power}
use Rattle.irr_root.proofs.choice.chosen_traces.Goals as goal

pub table-y-requires-clause-row : goal.table-y-requires-clause-row
table-y-requires-clause-row g c = generator-lt c.requires.choice

pub table-y-requires-clause-column : goal.table-y-requires-clause-column
table-y-requires-clause-column g c = members-below c.requires.choice c.in_ok-m.m 0 c.in_ok-m.ensures.within

pub first_trace-requires-clause-power : goal.first_trace-requires-clause-power
first_trace-requires-clause-power g c =
    let N = c.args.order.now.n in
    c.in_ok-factor.ensures.value ∙ ap (whole (numbers N)) (c.lower_number.ensures.power ∙ ap (λ h. h ^ (c.args.p - 1)) c.requires.choice.step.count)
    ∙ whole_power (numbers N) (place_count c.args.inner.now) (c.args.p - 1)

pub first_trace-requires-clause-place : goal.first_trace-requires-clause-place
first_trace-requires-clause-place g c =
    let d = c.requires.choice in
    let k = place_count c.args.inner.now in
    let below = subst (λ l. c.in_ok-m.m < l) d.step.count c.in_ok-m.ensures.within in
    let m = from_nat k c.in_ok-m.m below in (
      d,
      m,
      coset-number d m c.in_ok-m.m (slice_index c.args.members.now c.in_ok-m.m) c.table-y.result
          (to_nat-from_nat k c.in_ok-m.m below) refl c.table-y.ensures.product,
    )

pub all_traces-requires-clause-factor_power : goal.all_traces-requires-clause-factor_power
all_traces-requires-clause-factor_power g c =
    let N = c.args.order.now.n in
    c.in_ok-factor.ensures.value ∙ ap (whole (numbers N)) (c.lower_number.ensures.power ∙ ap (λ h. h ^ (c.args.p - 1)) c.requires.choice.step.count)
    ∙ whole_power (numbers N) (place_count c.args.inner.now) (c.args.p - 1)

pub all_traces-requires-clause-power : goal.all_traces-requires-clause-power
all_traces-requires-clause-power g c =
    let N = c.args.order.now.n in
    let value = g.S.Scalar.value in
    let root = c.in_ok-root.root in
    record {
      has_order = c.in_ok-power.ensures.order ∙ c.in_ok-root.ensures.small.has_order;
      few = subst (IsRootSum N 2304 1)
          (sym (subst (λ u. value u c.in_ok-power.power ≡ number_power (numbers u) (value u root)
          (c.args.p - 1)) c.in_ok-root.ensures.small.has_order c.in_ok-power.ensures.value))
          (power-small N (c.args.p - 1) (value N root) (one-or-two c.requires.choice) c.in_ok-root.ensures.small.few);
    }

pub all_traces-requires-clause-extension : goal.all_traces-requires-clause-extension
all_traces-requires-clause-extension g c =
    let N = c.args.order.now.n in
    let value = g.S.Scalar.value in
    let root = c.in_ok-root.root in
    let d = c.requires.choice in
    let k = place_count c.args.inner.now in
    let below = subst (λ l. c.in_ok-m.m < l) d.step.count c.in_ok-m.ensures.within in
    let m = from_nat k c.in_ok-m.m below in
    let is : to_nat (from_nat k c.in_ok-m.m below) ≡ c.in_ok-m.m = to_nat-from_nat k c.in_ok-m.m below in
    let em = coset-number d m c.in_ok-m.m (slice_index c.args.members.now c.in_ok-m.m) c.table-y.result is refl c.table-y.ensures.product in
    let u = first-continued d m (value N root) (c.in_ok-root.ensures.trace d m em) (c.in_ok-m.ensures.not_zero d m is) in (
      d,
      m,
      em,
      u.0,
      u.1,
      subst (λ v. value v c.in_ok-power.power ≡ number_power (numbers v) (value v root)
          (c.args.p - 1)) c.in_ok-root.ensures.small.has_order c.in_ok-power.ensures.value
          ∙ ap (λ x. number_power (numbers N) x (c.args.p - 1)) (sym u.2),
    )

pub returns : goal.returns
returns g c d =
    let N = c.args.order.now.n in
    let value = g.S.Scalar.value in
    let root = c.in_ok-root.root in
    let s = value N root in
    let k = place_count c.args.inner.now in
    let below = subst (λ l. c.in_ok-m.m < l) d.step.count c.in_ok-m.ensures.within in
    let m = from_nat k c.in_ok-m.m below in
    let is : to_nat (from_nat k c.in_ok-m.m below) ≡ c.in_ok-m.m = to_nat-from_nat k c.in_ok-m.m below in
    let em = coset-number d m c.in_ok-m.m (slice_index c.args.members.now c.in_ok-m.m) c.table-y.result is refl c.table-y.ensures.product in
    let t = c.in_ok-root.ensures.trace d m em in
    let ew = subst (λ v. value v c.in_ok-power.power ≡ number_power (numbers v) (value v root)
    (c.args.p - 1)) c.in_ok-root.ensures.small.has_order c.in_ok-power.ensures.value in
    let row = row_of N (map (value N) c.in_ok-traces.traces.items) in
    let all = c.in_ok-traces.ensures.traces d m s em ew in
    let ne = first-not-zero d m s t (c.in_ok-m.ensures.not_zero d m is) in
    let same = trace-unique d m m s (row m) s ne (all m) t in
    record {
      trace_at = row;
      extension = all-chosen d m row (λ z. ne (sym same ∙ z)) (λ n. subst (λ x. IsTraceAt d x n m (row n)) (sym same) (all n));
      is_row = record { count = c.in_ok-traces.ensures.count; orders = c.in_ok-traces.ensures.orders; numbers_at = λ i. refl };
    }
