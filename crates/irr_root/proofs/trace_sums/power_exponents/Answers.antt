-- The exponents at the member that the power is, with the exponent of its phase.
use Rattle.std.proofs.Common.{◌≡◌, ◌<◌, ◌+◌, ◌%◌, ◌∙◌, sym, ap, subst, slice_index, length, map, All}
use Rattle.std.proofs.lemmas.Result.{IfOk-weaker}
use Rattle.irr_algebra.specs.Fin.{to_nat}
use Rattle.irr_algebra.proofs.Indices.{from_nat, to_nat-from_nat}
use Rattle.irr_rep.specs.Twisted.{phase_table, place_count}
use Rattle.irr_root.specs.CyclicStep.{ArePowerExponents, coset_place}
use Rattle.irr_root.proofs.StepTraces.{more-below, more-few, step-exponents, step-top, top-power}
use Rattle.irr_root.proofs.trace_sums.power_exponents.Goals as goal

pub shifted-requires-clause-below : goal.shifted-requires-clause-below
shifted-requires-clause-below g c =
    let place = c.turned_power-power.result.place in
    let lt : place < length c.args.positions.now = subst (λ l. place < l) (sym c.requires.all_placed) c.turned_power-power.ensures.within in
    let below = c.requires.positions place 0 lt in
    let p = from_nat (place_count c.args.inner.now) (slice_index c.args.positions.now place) below in
    let own = c.in_ok-exponents.ensures c.requires.character p (to_nat-from_nat (place_count c.args.inner.now)
    (slice_index c.args.positions.now place) below) in
    subst (All (λ e. e < c.order.result)) (sym c.as_slice.ensures.value)
    (subst (λ N. All (λ e. e < N) c.in_ok-exponents.exponents.items) (c.requires.same_order ∙ sym c.order.ensures.order) own.below)

pub returns-clause-below : goal.returns-clause-below
returns-clause-below g c =
    let T = phase_table c.args.t.now in
    IfOk-weaker c.shifted.result (λ es. es.items ≡ map (λ e. (e + c.turned_power-power.result.exponent) % c.order.result) c.as_slice.result.now) _
    (λ es is. more-below T.order c.order.result c.turned_power-power.result.exponent c.as_slice.result.now es.items c.order.ensures.order
    c.turned_power-power.ensures.limited is) c.shifted.ensures

pub returns-clause-few : goal.returns-clause-few
returns-clause-few g c =
    let place = c.turned_power-power.result.place in
    let lt : place < length c.args.positions.now = subst (λ l. place < l) (sym c.requires.all_placed) c.turned_power-power.ensures.within in
    let below = c.requires.positions place 0 lt in
    let p = from_nat (place_count c.args.inner.now) (slice_index c.args.positions.now place) below in
    let own = c.in_ok-exponents.ensures c.requires.character p (to_nat-from_nat (place_count c.args.inner.now)
    (slice_index c.args.positions.now place) below) in
    IfOk-weaker c.shifted.result (λ es. es.items ≡ map (λ e. (e + c.turned_power-power.result.exponent) % c.order.result) c.as_slice.result.now) _
    (λ es is. more-few c.order.result c.turned_power-power.result.exponent c.requires.character.size c.as_slice.result.now es.items is
    (ap length c.as_slice.ensures.value ∙ own.count) c.requires.character.few) c.shifted.ensures

pub returns-clause-exponents : goal.returns-clause-exponents
returns-clause-exponents g c members g' M step numbered d D traces n at =
    let T = phase_table c.args.t.now in
    let y = c.turned_power-power.result.exponent in
    let top = step-top step n in
    let own = c.in_ok-exponents.ensures (record {
      n = M;
      divides = step.inner_divides;
      size = d;
      few = traces.few;
      representation = D;
      is_row =
          traces.is_row;
    }) top.0
    (sym (ap (slice_index c.args.positions.now) (c.turned_power-power.ensures.place (coset_place step n) at
    ∙ sym (ap to_nat (top-power step n top.0 top.1))) ∙ numbered top.0)) in
    IfOk-weaker c.shifted.result (λ es. es.items ≡ map (λ e. (e + c.turned_power-power.result.exponent) % c.order.result) c.as_slice.result.now) _
    (λ es is. subst (ArePowerExponents step D n)
    (sym (is ∙ ap (map (λ e. (e + c.turned_power-power.result.exponent) % c.order.result)) c.as_slice.ensures.value
    ∙ ap (λ m. map (λ e. (e + c.turned_power-power.result.exponent) % m) c.in_ok-exponents.exponents.items) c.order.ensures.order))
    (step-exponents step D n top.0 top.1 y (c.turned_power-power.ensures.exponent
    (coset_place step n) at) c.in_ok-exponents.exponents.items own)) c.shifted.ensures
