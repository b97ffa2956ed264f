-- A term is a power of z times a number of the character.
use Rattle.std.proofs.Common.{◌≡◌, sym, ◌∙◌, ap, ap₂, subst, ℕ, ◌+◌, ◌-◌, ◌*◌, ◌/◌, ◌%◌, ◌<◌, ◌≤◌, ◌^◌, get_or, map, slice_index, Fits, w32, arith, rules}
use native.Mathlib.Nat as Nat
use Rattle.std.proofs.lemmas.Result.{IfOk-weaker}
use Rattle.irr_algebra.proofs.Indices.{from_nat, to_nat-from_nat}
use Rattle.irr_algebra.proofs.Rings.{one-mul}
use Rattle.irr_number.specs.Number.{numbers, root_power}
use Rattle.irr_canonical.specs.RootSum.{IsRootSum}
use Rattle.irr_canonical.proofs.RootSums.{IsRootSum-root}
use Rattle.irr_char.proofs.AverageTerms.{few_powers, item-order, item-small, item-value}
use Rattle.irr_mat.proofs.Sizes.{product_sizes, sum_denominators}
use Rattle.irr_rep.specs.Twisted.{place_count, phase_table}
use Rattle.irr_root.proofs.Phases.{unit-power}
use Rattle.irr_root.proofs.TurnedTraces.{read_at, turned-value}
use Rattle.irr_root.proofs.Walks.{powers-place-lt, powers-turned-le, table-order-le}
use Rattle.irr_root.proofs.eigenvalues.turned_trace.Goals as goal

fits_small : (a : ℕ) → a < 2 ^ 32 → Fits w32 a
fits_small a l = search rules

pub overflow_mul-exponent : goal.overflow_mul-exponent
overflow_mul-exponent g c =
    let T = phase_table c.args.t.now in
    let p = c.requires.powers.0 in
    let w = c.requires.powers.1 in
    let le : c.args.e ≤ T.order = let l : c.args.e < T.order = c.requires.exponent in omega (arith, l) in
    let all : slice_index c.args.powers.now.exponents.items c.args.j + (T.order - c.args.e) * c.args.j ≤ T.order * T.order + T.order * T.order = powers-turned-le T p w c.args.j c.args.e c.requires.index le in
    let few : T.order * T.order ≤ 12000 * 12000 = Nat.mul-le-mul (table-order-le c.args.t.now) (table-order-le c.args.t.now) in
    fits_small ((c.order.result - c.args.e) * c.args.j) (subst (λ k. (k - c.args.e) * c.args.j < 2 ^ 32) (sym c.order.ensures.order) (omega (arith, all, few)))

pub overflow_add-exponent : goal.overflow_add-exponent
overflow_add-exponent g c =
    let T = phase_table c.args.t.now in
    let p = c.requires.powers.0 in
    let w = c.requires.powers.1 in
    let le : c.args.e ≤ T.order = let l : c.args.e < T.order = c.requires.exponent in omega (arith, l) in
    let all : slice_index c.args.powers.now.exponents.items c.args.j + (T.order - c.args.e) * c.args.j ≤ T.order * T.order + T.order * T.order = powers-turned-le T p w c.args.j c.args.e c.requires.index le in
    let few : T.order * T.order ≤ 12000 * 12000 = Nat.mul-le-mul (table-order-le c.args.t.now) (table-order-le c.args.t.now) in
    let first : c.index.result.now ≡ slice_index c.args.powers.now.exponents.items c.args.j = read_at c.args.powers.now.exponents.items c.args.j c.index.result.now c.index.ensures
    (subst (λ k. c.args.j < k) (sym w.same_length) c.requires.index) in
    fits_small (c.index.result.now + (c.order.result - c.args.e) * c.args.j)
    (subst (λ k. c.index.result.now + (k - c.args.e) * c.args.j < 2 ^ 32) (sym c.order.ensures.order) (omega (arith, all, few, first)))

pub offset_bounds-character-index : goal.offset_bounds-character-index
offset_bounds-character-index g c =
    let T = phase_table c.args.t.now in
    let l : slice_index c.args.powers.now.places.items c.args.j < place_count c.args.t.now = powers-place-lt T c.requires.powers.0 c.requires.powers.1 c.args.j c.requires.index in
    omega (arith, l, read_at c.args.powers.now.places.items c.args.j c.index-2.result.now c.index-2.ensures c.requires.index, c.requires.row.count)

pub bounds-character-index : goal.bounds-character-index
bounds-character-index g c =
    let T = phase_table c.args.t.now in
    let l : slice_index c.args.powers.now.places.items c.args.j < place_count c.args.t.now = powers-place-lt T c.requires.powers.0 c.requires.powers.1 c.args.j c.requires.index in
    omega (arith, l, read_at c.args.powers.now.places.items c.args.j c.index-2.result.now c.index-2.ensures c.requires.index, c.requires.row.count)

pub mul-requires-clause-orders : goal.mul-requires-clause-orders
mul-requires-clause-orders g c =
    let place = read_at c.args.powers.now.places.items c.args.j c.index-2.result.now c.index-2.ensures c.requires.index in
    let l = subst (λ k. k < place_count c.args.t.now) (sym place) (powers-place-lt (phase_table c.args.t.now) c.requires.powers.0 c.requires.powers.1 c.args.j c.requires.index) in
    item-order g.S.Scalar.order_of g.S.Scalar.value c.args.order.now.n (place_count c.args.t.now) c.args.character.now c.requires.row c.index-2.result.now l
    c.index-character-index.result c.index-character-index.is ∙ sym c.in_ok-turn.ensures.order

pub mul-requires-clause-denominators : goal.mul-requires-clause-denominators
mul-requires-clause-denominators g c =
    let value = g.S.Scalar.value in
    let n = c.args.order.now.n in
    let x = c.in_ok-turn.turn in
    let place = read_at c.args.powers.now.places.items c.args.j c.index-2.result.now c.index-2.ensures c.requires.index in
    let l = subst (λ k. k < place_count c.args.t.now) (sym place) (powers-place-lt (phase_table c.args.t.now) c.requires.powers.0 c.requires.powers.1 c.args.j c.requires.index) in
    sum_denominators value (g.S.Scalar.order_of x) n (g.met.S.Scalar.admitted_positive (g.S.Scalar.order_of x) (g.met.S.Scalar.order_admitted x)) c.in_ok-turn.ensures.order
    1 1 48 1 x c.index-character-index.result
    (subst (IsRootSum n 1 1) (sym c.in_ok-turn.ensures.value) (IsRootSum-root n ((c.index.result.now + (c.order.result - c.args.e) * c.args.j) * (n / (phase_table c.args.t.now).order))))
    (item-small g.S.Scalar.order_of value n (place_count c.args.t.now) c.args.character.now c.requires.row c.index-2.result.now l c.index-character-index.result c.index-character-index.is)
    (2 ^ 60) (omega arith)

pub mul-requires-clause-sizes : goal.mul-requires-clause-sizes
mul-requires-clause-sizes g c =
    let value = g.S.Scalar.value in
    let n = c.args.order.now.n in
    let x = c.in_ok-turn.turn in
    let place = read_at c.args.powers.now.places.items c.args.j c.index-2.result.now c.index-2.ensures c.requires.index in
    let l = subst (λ k. k < place_count c.args.t.now) (sym place) (powers-place-lt (phase_table c.args.t.now) c.requires.powers.0 c.requires.powers.1 c.args.j c.requires.index) in
    product_sizes value (g.S.Scalar.order_of x) n (g.met.S.Scalar.admitted_positive (g.S.Scalar.order_of x) (g.met.S.Scalar.order_admitted x)) c.in_ok-turn.ensures.order
    1 1 48 1 x c.index-character-index.result
    (subst (IsRootSum n 1 1) (sym c.in_ok-turn.ensures.value) (IsRootSum-root n ((c.index.result.now + (c.order.result - c.args.e) * c.args.j) * (n / (phase_table c.args.t.now).order))))
    (item-small g.S.Scalar.order_of value n (place_count c.args.t.now) c.args.character.now c.requires.row c.index-2.result.now l c.index-character-index.result c.index-character-index.is)
    (2 ^ 100) (few_powers n 1 48 c.args.order.now.limited (omega arith) (omega arith))

pub returns-clause-value : goal.returns-clause-value
returns-clause-value g c =
    let value = g.S.Scalar.value in
    let n = c.args.order.now.n in
    let h = place_count c.args.t.now in
    let T = phase_table c.args.t.now in
    let w = c.requires.powers.1 in
    let places = c.args.powers.now.places.items in
    let exponents = c.args.powers.now.exponents.items in
    let place = read_at places c.args.j c.index-2.result.now c.index-2.ensures c.requires.index in
    let exponent = read_at exponents c.args.j c.index.result.now c.index.ensures (subst (λ k. c.args.j < k) (sym w.same_length) c.requires.index) in
    let l = subst (λ k. k < h) (sym place) (powers-place-lt T c.requires.powers.0 w c.args.j c.requires.index) in
    let p = from_nat h c.index-2.result.now l in
    let is = to_nat-from_nat h c.index-2.result.now l in
    IfOk-weaker c.mul.result _ _ (λ z e.
    turned-value n T.order (map (value n) c.args.character.now) places exponents c.args.e c.args.j (value n c.in_ok-turn.turn) (value n c.index-character-index.result) (value n z)
    (c.in_ok-turn.ensures.value ∙ ap₂ (λ a b. root_power n ((a + (b - c.args.e) * c.args.j) * (n / T.order))) exponent c.order.ensures.order)
    (item-value g.S.Scalar.order_of value n h c.args.character.now c.requires.row c.index-2.result.now l c.index-character-index.result c.index-character-index.is p is
    ∙ ap (λ k. get_or (map (value n) c.args.character.now) k (numbers n).zero) (is ∙ place))
    (subst (λ u. value u z ≡ (numbers u).mul (value u c.in_ok-turn.turn) (value u c.index-character-index.result)) c.in_ok-turn.ensures.order e))
    c.mul.ensures.value

-- the power of z is 1
pub returns-then-exponent-order-eq0-clause-order : goal.returns-then-exponent-order-eq0-clause-order
returns-then-exponent-order-eq0-clause-order g c =
    let place = read_at c.args.powers.now.places.items c.args.j c.index-2.result.now c.index-2.ensures c.requires.index in
    let l = subst (λ k. k < place_count c.args.t.now) (sym place)
    (powers-place-lt (phase_table c.args.t.now) c.requires.powers.0 c.requires.powers.1 c.args.j c.requires.index) in
    IfOk-weaker c.copy.result _ _ (λ z e.
    e ∙ item-order g.S.Scalar.order_of g.S.Scalar.value c.args.order.now.n (place_count c.args.t.now) c.args.character.now c.requires.row
    c.index-2.result.now l c.index-character-index.result c.index-character-index.is)
    c.copy.ensures.order

pub returns-then-exponent-order-eq0-clause-value : goal.returns-then-exponent-order-eq0-clause-value
returns-then-exponent-order-eq0-clause-value g c =
    let order = g.S.Scalar.order_of in
    let value = g.S.Scalar.value in
    let n = c.args.order.now.n in
    let h = place_count c.args.t.now in
    let T = phase_table c.args.t.now in
    let w = c.requires.powers.1 in
    let row = c.args.character.now in
    let places = c.args.powers.now.places.items in
    let exponents = c.args.powers.now.exponents.items in
    let place = read_at places c.args.j c.index-2.result.now c.index-2.ensures c.requires.index in
    let exponent = read_at exponents c.args.j c.index.result.now c.index.ensures (subst (λ k. c.args.j < k) (sym w.same_length) c.requires.index) in
    let l = subst (λ k. k < h) (sym place) (powers-place-lt T c.requires.powers.0 w c.args.j c.requires.index) in
    let p = from_nat h c.index-2.result.now l in
    let is = to_nat-from_nat h c.index-2.result.now l in
    let x = c.index-character-index.result in
    let turn = c.index.result.now + (c.order.result - c.args.e) * c.args.j in
    let one = unit-power T.order n turn T.order_positive c.requires.divides (subst (λ k. turn % k ≡ 0) c.order-2.ensures.order
    c.if-exponent-order-eq0.true) in
    IfOk-weaker c.copy.result _ _ (λ z e.
    turned-value n T.order (map (value n) row) places exponents c.args.e c.args.j (root_power n (turn * (n / T.order))) (value n x) (value n z)
    (ap₂ (λ a b. root_power n ((a + (b - c.args.e) * c.args.j) * (n / T.order))) exponent c.order.ensures.order)
    (item-value order value n h row c.requires.row c.index-2.result.now l x c.index-character-index.is p is
    ∙ ap (λ k. get_or (map (value n) row) k (numbers n).zero) (is ∙ place))
    (subst (λ u. value u z ≡ value u x) (item-order order value n h row c.requires.row c.index-2.result.now l x c.index-character-index.is) e
    ∙ sym (one-mul (numbers n) (value n x)) ∙ ap (λ u. (numbers n).mul u (value n x)) (sym one)))
    c.copy.ensures.value
