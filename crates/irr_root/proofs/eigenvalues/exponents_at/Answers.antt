-- The candidates, each as often as it occurs.
use Rattle.std.proofs.Common.{◌≡◌, sym, ◌∙◌, ap, ap₂, subst, ℕ, ◌+◌, ◌*◌, ◌/◌, ◌%◌, ◌<◌, ◌≤◌, ◌^◌, length, slice_index, Fits, w32, arith, rules}
use native.Mathlib.Nat as Nat
use Rattle.std.proofs.lemmas.Result.{IfOk-weaker}
use Rattle.irr_algebra.proofs.Indices.{from_nat, to_nat-from_nat}
use Rattle.irr_number.specs.Number.{numbers, root_power}
use Rattle.irr_eigen.specs.Eigenspace.{Occurs}
use Rattle.irr_eigen.specs.Power.{power}
use Rattle.irr_rep.specs.Twisted.{phase_table, place_count}
use Rattle.irr_root.proofs.CharacterSums.{character-positive}
use Rattle.irr_root.proofs.EigenvalueSums.{exponents-at, positive-factor}
use Rattle.irr_root.proofs.Spacing.{quotient-product, turn-power}
use Rattle.irr_root.proofs.Walks.{powers-divide-order, powers-divide-turn, powers-length, table-order-le}
use Rattle.irr_root.proofs.eigenvalues.exponents_at.Goals as goal

fits_small : (a : ℕ) → a < 2 ^ 32 → Fits w32 a
fits_small a l = search rules

pub overflow_cast-order : goal.overflow_cast-order
overflow_cast-order g c =
    let T = phase_table c.args.t.now in
    let i = from_nat (place_count c.args.t.now) c.args.i c.requires.place in
    let w = c.in_ok-powers.ensures i (to_nat-from_nat (place_count c.args.t.now) c.args.i c.requires.place) in
    let len : c.len-order.result ≡ length c.in_ok-powers.powers.places.items = search rules in
    let few : length c.in_ok-powers.powers.places.items ≤ 12000 = Nat.le_trans (powers-length T i w) (table-order-le c.args.t.now) in
    fits_small c.len-order.result (omega (arith, few, len))

pub nonzero_div-step : goal.nonzero_div-step
nonzero_div-step g c =
    let T = phase_table c.args.t.now in
    let i = from_nat (place_count c.args.t.now) c.args.i c.requires.place in
    let w = c.in_ok-powers.ensures i (to_nat-from_nat (place_count c.args.t.now) c.args.i c.requires.place) in
    let len : c.len-order.result ≡ length c.in_ok-powers.powers.places.items = search rules in
    subst (λ k. 0 < k) (sym len) w.is_order.positive

pub nonzero_div-first : goal.nonzero_div-first
nonzero_div-first g c =
    let T = phase_table c.args.t.now in
    let i = from_nat (place_count c.args.t.now) c.args.i c.requires.place in
    let w = c.in_ok-powers.ensures i (to_nat-from_nat (place_count c.args.t.now) c.args.i c.requires.place) in
    let len : c.len-order.result ≡ length c.in_ok-powers.powers.places.items = search rules in
    subst (λ k. 0 < k) (sym len) w.is_order.positive

pub nonzero_rem-first : goal.nonzero_rem-first
nonzero_rem-first g c =
    let T = phase_table c.args.t.now in
    let i = from_nat (place_count c.args.t.now) c.args.i c.requires.place in
    let w = c.in_ok-powers.ensures i (to_nat-from_nat (place_count c.args.t.now) c.args.i c.requires.place) in
    let len : c.len-order.result ≡ length c.in_ok-powers.powers.places.items = search rules in
    let m = length c.in_ok-powers.powers.places.items in
    let q = c.order.result / c.len-order.result in
    let split : T.order ≡ length c.in_ok-powers.powers.places.items * (c.order.result / c.len-order.result) = quotient-product m T.order w.is_order.positive (powers-divide-order T i w)
    ∙ ap₂ (λ a b. m * (a / b)) (sym c.order.ensures.order) (sym len) in
    let above : 0 < c.order.result / c.len-order.result = positive-factor T.order m q T.order_positive split in
    above

pub multiplicities-requires-clause-powers : goal.multiplicities-requires-clause-powers
multiplicities-requires-clause-powers g c =
    let i = from_nat (place_count c.args.t.now) c.args.i c.requires.place in
    (i, c.in_ok-powers.ensures i (to_nat-from_nat (place_count c.args.t.now) c.args.i c.requires.place))

pub multiplicities-requires-clause-first : goal.multiplicities-requires-clause-first
multiplicities-requires-clause-first g c =
    let T = phase_table c.args.t.now in
    let i = from_nat (place_count c.args.t.now) c.args.i c.requires.place in
    let w = c.in_ok-powers.ensures i (to_nat-from_nat (place_count c.args.t.now) c.args.i c.requires.place) in
    let len : c.len-order.result ≡ length c.in_ok-powers.powers.places.items = search rules in
    let m = length c.in_ok-powers.powers.places.items in
    let q = c.order.result / c.len-order.result in
    let split : T.order ≡ length c.in_ok-powers.powers.places.items * (c.order.result / c.len-order.result) = quotient-product m T.order w.is_order.positive (powers-divide-order T i w)
    ∙ ap₂ (λ a b. m * (a / b)) (sym c.order.ensures.order) (sym len) in
    let above : 0 < c.order.result / c.len-order.result = positive-factor T.order m q T.order_positive split in
    Nat.mod-lt (c.in_ok-powers.powers.turn / c.len-order.result) above

pub multiplicities-requires-clause-step : goal.multiplicities-requires-clause-step
multiplicities-requires-clause-step g c =
    let T = phase_table c.args.t.now in
    let i = from_nat (place_count c.args.t.now) c.args.i c.requires.place in
    let w = c.in_ok-powers.ensures i (to_nat-from_nat (place_count c.args.t.now) c.args.i c.requires.place) in
    let len : c.len-order.result ≡ length c.in_ok-powers.powers.places.items = search rules in
    let m = length c.in_ok-powers.powers.places.items in
    let q = c.order.result / c.len-order.result in
    let split : T.order ≡ length c.in_ok-powers.powers.places.items * (c.order.result / c.len-order.result) = quotient-product m T.order w.is_order.positive (powers-divide-order T i w)
    ∙ ap₂ (λ a b. m * (a / b)) (sym c.order.ensures.order) (sym len) in
    let above : 0 < c.order.result / c.len-order.result = positive-factor T.order m q T.order_positive split in
    split

pub multiplicities-requires-clause-same_power : goal.multiplicities-requires-clause-same_power
multiplicities-requires-clause-same_power g c =
    let T = phase_table c.args.t.now in
    let i = from_nat (place_count c.args.t.now) c.args.i c.requires.place in
    let w = c.in_ok-powers.ensures i (to_nat-from_nat (place_count c.args.t.now) c.args.i c.requires.place) in
    let len : c.len-order.result ≡ length c.in_ok-powers.powers.places.items = search rules in
    let m = length c.in_ok-powers.powers.places.items in
    let q = c.order.result / c.len-order.result in
    let split : T.order ≡ length c.in_ok-powers.powers.places.items * (c.order.result / c.len-order.result) = quotient-product m T.order w.is_order.positive (powers-divide-order T i w)
    ∙ ap₂ (λ a b. m * (a / b)) (sym c.order.ensures.order) (sym len) in
    let above : 0 < c.order.result / c.len-order.result = positive-factor T.order m q T.order_positive split in
    ap (λ k. m * (c.in_ok-powers.powers.turn / k % q) % T.order) len ∙ turn-power T.order m q c.in_ok-powers.powers.turn w.is_order.positive (powers-divide-turn T i w) split

pub repeated-requires-clause-positive : goal.repeated-requires-clause-positive
repeated-requires-clause-positive g c =
    let T = phase_table c.args.t.now in
    let i = from_nat (place_count c.args.t.now) c.args.i c.requires.place in
    let w = c.in_ok-powers.ensures i (to_nat-from_nat (place_count c.args.t.now) c.args.i c.requires.place) in
    let len : c.len-order.result ≡ length c.in_ok-powers.powers.places.items = search rules in
    let m = length c.in_ok-powers.powers.places.items in
    let q = c.order.result / c.len-order.result in
    let split : T.order ≡ length c.in_ok-powers.powers.places.items * (c.order.result / c.len-order.result) = quotient-product m T.order w.is_order.positive (powers-divide-order T i w)
    ∙ ap₂ (λ a b. m * (a / b)) (sym c.order.ensures.order) (sym len) in
    let above : 0 < c.order.result / c.len-order.result = positive-factor T.order m q T.order_positive split in
    above

pub returns : goal.returns
returns g c d p e =
    let T = phase_table c.args.t.now in
    let i = from_nat (place_count c.args.t.now) c.args.i c.requires.place in
    let w = c.in_ok-powers.ensures i (to_nat-from_nat (place_count c.args.t.now) c.args.i c.requires.place) in
    let len : c.len-order.result ≡ length c.in_ok-powers.powers.places.items = search rules in
    let m = length c.in_ok-powers.powers.places.items in
    let q = c.order.result / c.len-order.result in
    let split : T.order ≡ length c.in_ok-powers.powers.places.items * (c.order.result / c.len-order.result) = quotient-product m T.order w.is_order.positive (powers-divide-order T i w)
    ∙ ap₂ (λ a b. m * (a / b)) (sym c.order.ensures.order) (sym len) in
    let above : 0 < c.order.result / c.len-order.result = positive-factor T.order m q T.order_positive split in
    let r = c.in_ok-powers.powers.turn / c.len-order.result % q in
    let same = ap (λ k. m * (c.in_ok-powers.powers.turn / k % q) % T.order) len ∙ turn-power T.order m q c.in_ok-powers.powers.turn w.is_order.positive (powers-divide-turn T i w) split in
    let positive = character-positive g.S.Scalar.order_of g.S.Scalar.value (λ (x : g.row.S.Denot). g.met.S.Scalar.admitted_positive (g.S.Scalar.order_of x) (g.met.S.Scalar.order_admitted x))
    c.args.t.now.not_empty T c.args.character.now d in
    IfOk-weaker c.repeated.result _ _ (λ es listed.
    exponents-at T d.n positive d.divides p (c.in_ok-powers.ensures p e) d.representation r q (Nat.mod-lt (c.in_ok-powers.powers.turn / c.len-order.result) above) split same
    c.as_slice.result.now es.items (ap length c.as_slice.ensures.value ∙ c.in_ok-times.ensures.count)
    (λ a l. subst (λ xs. Occurs (d.representation.at p) (power (numbers d.n) (root_power d.n (d.n / T.order)) (r + a * q)) (slice_index xs a)) (sym c.as_slice.ensures.value)
    (c.in_ok-times.ensures.occurs d p (c.in_ok-powers.ensures p e) a l)) listed)
    c.repeated.ensures
