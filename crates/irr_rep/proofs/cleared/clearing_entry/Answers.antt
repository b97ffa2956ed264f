-- What is left of the denominator.
use Rattle.std.proofs.Common.{sym, ◌∙◌, ap, subst, ◌*◌, ◌≤◌, ◌^◌, w64, arith, rules}
use Rattle.std.proofs.lemmas.Int.{to_z-of_z}
use native.Mathlib.Nat as Nat
use Rattle.std.specs.Int.RustNames.{unsigned_abs}
use Rattle.irr_canonical.specs.Coefficient.{denominator, size}
use Rattle.irr_rep.proofs.Clearing.{clearing_divides, small_denominator, small_size}
use Rattle.irr_rep.proofs.CommonDenominators.{divisor_within}
use Rattle.irr_rep.proofs.cleared.clearing_entry.Goals as goal

pub scale-requires-clause-denominators : goal.scale-requires-clause-denominators
scale-requires-clause-denominators g c =
    let n = g.S.Scalar.order_of c.args.x.now in
    let p = g.met.S.Scalar.admitted_positive n (g.met.S.Scalar.order_admitted c.args.x.now) in
    let r = c.requires in
    let l : denominator n (g.S.Scalar.value n c.args.x.now) ≤ 4096 = small_denominator n _ r.0 (g.S.Scalar.value n c.args.x.now) p r.1 r.3 in
    omega (arith, l)

pub scale-requires-clause-sizes : goal.scale-requires-clause-sizes
scale-requires-clause-sizes g c =
    let n = g.S.Scalar.order_of c.args.x.now in
    let p = g.met.S.Scalar.admitted_positive n (g.met.S.Scalar.order_admitted c.args.x.now) in
    let l = g.met.S.Scalar.admitted_limited n (g.met.S.Scalar.order_admitted c.args.x.now) in
    let r = c.requires in
    let x = g.S.Scalar.value n c.args.x.now in
    let e = to_z-of_z w64 c.from.result (record { sfits = c.from.type_inv }) ∙ c.from.ensures in
    subst (λ z. size n x * unsigned_abs z ≤ 2 ^ 100) (sym e)
    (small_size n r.0 x p l r.3 c.args.number (divisor_within c.args.number r.0 r.3.positive r.1 r.2))

pub overflow_mul-result : goal.overflow_mul-result
overflow_mul-result g c =
    let n = g.S.Scalar.order_of c.args.x.now in
    let p = g.met.S.Scalar.admitted_positive n (g.met.S.Scalar.order_admitted c.args.x.now) in
    let r = c.requires in
    let y = c.in_ok-multiple.multiple in
    let e = to_z-of_z w64 c.from.result (record { sfits = c.from.type_inv }) ∙ c.from.ensures in
    let v = clearing_divides n _ c.args.number r.0 c.in_ok-form.form.den _ (g.S.Scalar.value n c.args.x.now) (g.S.Scalar.value n y) p r.2 r.3 e
    c.in_ok-multiple.ensures.value
    (c.in_ok-form.ensures.denominator ∙ ap (λ u. denominator u (g.S.Scalar.value u y)) c.in_ok-multiple.ensures.order) in
    let l : c.args.number * c.in_ok-form.form.den ≤ 4096 = divisor_within _ r.0 r.3.positive r.1 v in
    search rules

pub overflow_cast-result : goal.overflow_cast-result
overflow_cast-result g c =
    let n = g.S.Scalar.order_of c.args.x.now in
    let p = g.met.S.Scalar.admitted_positive n (g.met.S.Scalar.order_admitted c.args.x.now) in
    let r = c.requires in
    let y = c.in_ok-multiple.multiple in
    let e = to_z-of_z w64 c.from.result (record { sfits = c.from.type_inv }) ∙ c.from.ensures in
    let v = clearing_divides n _ c.args.number r.0 c.in_ok-form.form.den _ (g.S.Scalar.value n c.args.x.now) (g.S.Scalar.value n y) p r.2 r.3 e
    c.in_ok-multiple.ensures.value
    (c.in_ok-form.ensures.denominator ∙ ap (λ u. denominator u (g.S.Scalar.value u y)) c.in_ok-multiple.ensures.order) in
    let l : c.in_ok-form.form.den ≤ 4096 = divisor_within _ r.0 r.3.positive r.1
    (Nat.dvd_trans _ (Nat.dvd-mul_left c.in_ok-form.form.den c.args.number) v) in
    search rules

pub returns : goal.returns
returns g c d v h =
    let n = g.S.Scalar.order_of c.args.x.now in
    let p = g.met.S.Scalar.admitted_positive n (g.met.S.Scalar.order_admitted c.args.x.now) in
    let y = c.in_ok-multiple.multiple in
    let e = to_z-of_z w64 c.from.result (record { sfits = c.from.type_inv }) ∙ c.from.ensures in
    clearing_divides n _ c.args.number d c.in_ok-form.form.den _ (g.S.Scalar.value n c.args.x.now) (g.S.Scalar.value n y) p v h e
    c.in_ok-multiple.ensures.value
    (c.in_ok-form.ensures.denominator ∙ ap (λ u. denominator u (g.S.Scalar.value u y)) c.in_ok-multiple.ensures.order)
