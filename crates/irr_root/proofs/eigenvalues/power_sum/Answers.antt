-- The terms are added up.
use Rattle.std.proofs.Common.{◌≡◌, sym, ◌∙◌, subst, ◌*◌, ◌<◌, ◌≤◌, ◌^◌, length, map, ℕ, Fits, w32, arith, rules}
use native.Mathlib.Nat as Nat
use Rattle.std.specs.Int.{◌∣◌}
use Rattle.irr_algebra.specs.Listed.{sum_below}
use Rattle.irr_number.specs.Number.{numbers}
use Rattle.irr_canonical.specs.RootSum.{IsRootSum}
use Rattle.irr_mat.proofs.PartialSums.{partial-add, partial-none, partial-within}
use Rattle.irr_mat.proofs.Sizes.{sum_denominators, sum_sizes}
use Rattle.irr_rep.specs.Twisted.{place_count, phase_table}
use Rattle.irr_root.specs.Powers.{power_trace}
use Rattle.irr_root.proofs.TurnedTraces.{few_sums, own_order, small_at, terms-small}
use Rattle.irr_root.proofs.Walks.{powers-length, powers-place-lt, table-order-le}
use Rattle.irr_root.proofs.eigenvalues.power_sum.Goals as goal

fits_small : (a : ℕ) → a < 2 ^ 32 → Fits w32 a
fits_small a l = search rules

pub overflow_cast-j-end : goal.overflow_cast-j-end
overflow_cast-j-end g c =
    let few : length c.args.powers.now.places.items ≤ 12000 = Nat.le_trans (powers-length (phase_table c.args.t.now) c.requires.powers.0 c.requires.powers.1) (table-order-le c.args.t.now) in
    let is : c.len-j-end.result ≡ length c.args.powers.now.places.items = search rules in
    fits_small c.len-j-end.result (omega (arith, few, is))

pub loop-j-init : goal.loop-j-init
loop-j-init g c =
    let value = g.S.Scalar.value in
    let n = c.in_ok-order.order.n in
    partial-none g.S.Scalar.order_of value n
    (power_trace n (phase_table c.args.t.now).order (map (value n) c.args.character.now) c.args.powers.now.places.items c.args.powers.now.exponents.items c.args.e)
    c.in_ok-sum.sum c.in_ok-sum.ensures.order c.in_ok-sum.ensures.value

pub turned_trace-requires-clause-divides : goal.turned_trace-requires-clause-divides
turned_trace-requires-clause-divides g c =
    let order = g.S.Scalar.order_of in
    let value = g.S.Scalar.value in
    let n = c.in_ok-order.order.n in
    let h = place_count c.args.t.now in
    let T = phase_table c.args.t.now in
    let row = c.args.character.now in
    let small = c.requires.row.2 in
    let own : n ≡ c.requires.row.0 = own_order order value c.requires.row.0 h row small c.args.t.now.not_empty c.index-character-0.result c.index-character-0.is n c.order.result c.in_ok-order.ensures c.order.ensures in
    subst (λ k. T.order ∣ k) (sym own) c.requires.row.1

pub add-requires-clause-denominators : goal.add-requires-clause-denominators
add-requires-clause-denominators g c =
    let order = g.S.Scalar.order_of in
    let value = g.S.Scalar.value in
    let n = c.in_ok-order.order.n in
    let h = place_count c.args.t.now in
    let T = phase_table c.args.t.now in
    let row = c.args.character.now in
    let small = c.requires.row.2 in
    let own : n ≡ c.requires.row.0 = own_order order value c.requires.row.0 h row small c.args.t.now.not_empty c.index-character-0.result c.index-character-0.is n c.order.result c.in_ok-order.ensures c.order.ensures in
    let places = c.args.powers.now.places.items in
    let exponents = c.args.powers.now.exponents.items in
    let m = length places in
    let k = c.loop-j.j in
    let l : c.loop-j.j < length c.args.powers.now.places.items = search rules in
    let f = power_trace n T.order (map (value n) row) places exponents c.args.e in
    let terms = terms-small order value n h row (small_at order value c.requires.row.0 h row small n own) T.order c.args.e m places exponents (powers-place-lt T c.requires.powers.0 c.requires.powers.1) in
    sum_denominators value (order c.loop-j.sum) n (g.met.S.Scalar.admitted_positive (order c.loop-j.sum) (g.met.S.Scalar.order_admitted c.loop-j.sum)) c.loop-j.invariant.has_order
    (k * 48) 1 48 1 c.loop-j.sum c.in_ok-next.next
    (partial-within order value n f k 48 1 c.loop-j.sum c.loop-j.invariant (omega arith) (λ i q. terms i (Nat.lt_trans q l)))
    (subst (IsRootSum n 48 1) (sym c.in_ok-next.ensures.value) (terms k l))
    (2 ^ 60) (omega arith)

pub add-requires-clause-sizes : goal.add-requires-clause-sizes
add-requires-clause-sizes g c =
    let order = g.S.Scalar.order_of in
    let value = g.S.Scalar.value in
    let n = c.in_ok-order.order.n in
    let h = place_count c.args.t.now in
    let T = phase_table c.args.t.now in
    let row = c.args.character.now in
    let small = c.requires.row.2 in
    let own : n ≡ c.requires.row.0 = own_order order value c.requires.row.0 h row small c.args.t.now.not_empty c.index-character-0.result c.index-character-0.is n c.order.result c.in_ok-order.ensures c.order.ensures in
    let places = c.args.powers.now.places.items in
    let exponents = c.args.powers.now.exponents.items in
    let m = length places in
    let k = c.loop-j.j in
    let l : c.loop-j.j < length c.args.powers.now.places.items = search rules in
    let f = power_trace n T.order (map (value n) row) places exponents c.args.e in
    let terms = terms-small order value n h row (small_at order value c.requires.row.0 h row small n own) T.order c.args.e m places exponents (powers-place-lt T c.requires.powers.0 c.requires.powers.1) in
    sum_sizes value (order c.loop-j.sum) n (g.met.S.Scalar.admitted_positive (order c.loop-j.sum) (g.met.S.Scalar.order_admitted c.loop-j.sum)) c.loop-j.invariant.has_order
    (k * 48) 1 48 1 c.loop-j.sum c.in_ok-next.next
    (partial-within order value n f k 48 1 c.loop-j.sum c.loop-j.invariant (omega arith) (λ i q. terms i (Nat.lt_trans q l)))
    (subst (IsRootSum n 48 1) (sym c.in_ok-next.ensures.value) (terms k l))
    (2 ^ 110) (few_sums n k m c.in_ok-order.order.limited (Nat.le_trans (powers-length T c.requires.powers.0 c.requires.powers.1) (table-order-le c.args.t.now)) l)

pub loop-j-preserved : goal.loop-j-preserved
loop-j-preserved g c =
    let value = g.S.Scalar.value in
    let n = c.in_ok-order.order.n in
    let f = power_trace n (phase_table c.args.t.now).order (map (value n) c.args.character.now) c.args.powers.now.places.items c.args.powers.now.exponents.items c.args.e in
    partial-add g.S.Scalar.order_of value n f c.loop-j.j c.loop-j.sum c.in_ok-sum-2.sum (value n c.in_ok-next.next) c.loop-j.invariant
    (c.in_ok-sum-2.ensures.order ∙ c.loop-j.invariant.has_order)
    (subst (λ u. value u c.in_ok-sum-2.sum ≡ (numbers u).add (value u c.loop-j.sum) (value u c.in_ok-next.next)) c.loop-j.invariant.has_order c.in_ok-sum-2.ensures.value)
    c.in_ok-next.ensures.value

pub returns-clause-value : goal.returns-clause-value
returns-clause-value g c =
    let value = g.S.Scalar.value in
    let n = c.in_ok-order.order.n in
    let places = c.args.powers.now.places.items in
    let exponents = c.args.powers.now.exponents.items in
    let T = phase_table c.args.t.now in
    let done : c.loop-j.j ≡ length c.args.powers.now.places.items = search rules in
    subst (λ u. value u c.loop-j.sum ≡ sum_below (numbers u) (length places) (power_trace u T.order (map (value u) c.args.character.now) places exponents c.args.e)) (sym c.loop-j.invariant.has_order)
    (subst (λ u. value n c.loop-j.sum ≡ sum_below (numbers n) u (power_trace n T.order (map (value n) c.args.character.now) places exponents c.args.e)) done c.loop-j.invariant.is_sum)
