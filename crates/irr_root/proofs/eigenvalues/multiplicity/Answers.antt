-- The sum is the order of the place times the dimension.
use Rattle.std.proofs.Common.{◌≡◌, sym, ◌∙◌, ap, subst, ℕ, ◌*◌, ◌/◌, ◌<◌, ◌≤◌, ◌^◌, length, Fits, w32, arith, rules}
use native.Mathlib.Nat as Nat
use Rattle.irr_number.specs.Number.{numbers, root_power}
use Rattle.irr_eigen.specs.Eigenspace.{Occurs}
use Rattle.irr_eigen.specs.Power.{power}
use Rattle.irr_rep.specs.Twisted.{phase_table}
use Rattle.irr_root.proofs.CharacterSums.{character-counted, character-small}
use Rattle.irr_root.proofs.Walks.{powers-length, table-order-le}
use Rattle.irr_root.proofs.eigenvalues.multiplicity.Goals as goal

fits_small : (a : ℕ) → a < 2 ^ 32 → Fits w32 a
fits_small a l = search rules

pub power_sum-requires-clause-row : goal.power_sum-requires-clause-row
power_sum-requires-clause-row g c =
    let d = c.requires.character in
    let positive = λ (x : g.row.S.Denot). g.met.S.Scalar.admitted_positive (g.S.Scalar.order_of x) (g.met.S.Scalar.order_admitted x) in
    (d.n, d.divides, character-small g.S.Scalar.order_of g.S.Scalar.value positive c.args.t.now.not_empty (phase_table c.args.t.now) c.args.character.now d)

pub whole_number-requires : goal.whole_number-requires
whole_number-requires g c =
    let d = c.requires.character in
    let order = g.S.Scalar.order_of in
    let value = g.S.Scalar.value in
    let T = phase_table c.args.t.now in
    let positive = λ (x : g.row.S.Denot). g.met.S.Scalar.admitted_positive (g.S.Scalar.order_of x) (g.met.S.Scalar.order_admitted x) in
    let small = character-small order value positive c.args.t.now.not_empty T c.args.character.now d in
    let o = character-counted order value positive c.args.t.now.not_empty T c.args.character.now d c.requires.powers.0 c.requires.powers.1 c.args.e c.requires.exponent c.requires.same_power
    (table-order-le c.args.t.now) (order c.in_ok-sum.sum) (c.in_ok-sum.ensures.order d.n small) in
    record { whole = (length c.args.powers.now.places.items * o.0, o.3, c.in_ok-sum.ensures.value ∙ o.2) }

pub overflow_cast-result : goal.overflow_cast-result
overflow_cast-result g c =
    let few : length c.args.powers.now.places.items ≤ 12000 = Nat.le_trans (powers-length (phase_table c.args.t.now) c.requires.powers.0 c.requires.powers.1) (table-order-le c.args.t.now) in
    let is : c.len.result ≡ length c.args.powers.now.places.items = search rules in
    fits_small c.len.result (omega (arith, few, is))

pub returns : goal.returns
returns g c d p w =
    let order = g.S.Scalar.order_of in
    let value = g.S.Scalar.value in
    let T = phase_table c.args.t.now in
    let positive = λ (x : g.row.S.Denot). g.met.S.Scalar.admitted_positive (g.S.Scalar.order_of x) (g.met.S.Scalar.order_admitted x) in
    let small = character-small order value positive c.args.t.now.not_empty T c.args.character.now d in
    let o = character-counted order value positive c.args.t.now.not_empty T c.args.character.now d p w c.args.e c.requires.exponent c.requires.same_power
    (table-order-le c.args.t.now) (order c.in_ok-sum.sum) (c.in_ok-sum.ensures.order d.n small) in
    let product : c.in_ok-whole_number.field-0 ≡ length c.args.powers.now.places.items * o.0 = c.in_ok-whole_number.ensures (length c.args.powers.now.places.items * o.0) (c.in_ok-sum.ensures.value ∙ o.2) in
    let is : c.len.result ≡ length c.args.powers.now.places.items = search rules in
    subst (Occurs (d.representation.at p) (power (numbers d.n) (root_power d.n (d.n / T.order)) c.args.e))
    (sym (ap (λ u. c.in_ok-whole_number.field-0 / u) is ∙ Nat.div-eq_of_eq-mul_right w.is_order.positive product)) o.1
