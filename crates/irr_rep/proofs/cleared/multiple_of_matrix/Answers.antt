-- A number times a matrix, by z^0.
use Rattle.std.proofs.Common.{◌≡◌, sym, ◌∙◌, ap, subst, ℕ, ◌≤◌, Result, Ok, Err, IfOk}
use Rattle.irr_algebra.specs.Ring.{whole}
use Rattle.irr_algebra.proofs.Rings.{mul-one}
use Rattle.irr_number.specs.Number.{numbers, root_power}
use Rattle.irr_number.proofs.Primes.{divisor_pos}
use Rattle.irr_number.proofs.RootPowers.{root_power-zero}
use Rattle.irr_canonical.specs.RootSum.{IsRootSum}
use Rattle.irr_rep.proofs.CommonDenominators.{divisor_within, root_sum_of_power}
use Rattle.irr_rep.proofs.MatrixForms.{fit_of_multiple, multiple_fits, scaled}
use Rattle.irr_rep.proofs.cleared.multiple_of_matrix.Goals as goal

if_ok_all : {A E : Type 0} (r : Result A E) (P Q R V W : A → Type 0) → ((x : A) → P x → Q x → R x → V x → W x) → IfOk r P → IfOk r Q → IfOk r R
    → IfOk r V → IfOk r W
if_ok_all (Ok x) P Q R V W f p q s v = f x p q s v
if_ok_all (Err e) P Q R V W f p q s v = p

pub scale-requires-clause-sizes : goal.scale-requires-clause-sizes
scale-requires-clause-sizes g c =
    let value = g.S.Scalar.value in
    let r = c.requires in
    let q = c.args.number in
    let x = c.in_ok-factor.factor in
    let order : c.in_ok-order.order.n ≡ r.0 = c.in_ok-order.ensures ∙ c.order.ensures ∙ c.at.ensures.order ∙ r.4.order in
    let some = divisor_pos q r.2 r.5.positive r.7 in
    let small = divisor_within q r.2 r.5.positive r.6 r.7 in
    let root : IsRootSum r.0 q 1 (value r.0 x) = subst (λ u. IsRootSum u q 1 (value u x)) order
    (subst (IsRootSum c.in_ok-order.order.n q 1) (sym c.in_ok-factor.ensures.value) (root_sum_of_power c.in_ok-order.order.n q 0 some)) in
    let limited = subst (λ u. u ≤ 12000) order c.in_ok-order.order.limited in
    multiple_fits r.0 r.1 r.3 c.args.m.now r.4 x (fit_of_multiple r.0 r.2 limited r.6 r.1 r.3 r.5 q (value r.0 x) small root)

-- 1 z^0
whole_power : (n q : ℕ) → (numbers n).mul (whole (numbers n) q) (root_power n 0) ≡ whole (numbers n) q
whole_power n q = ap ((numbers n).mul (whole (numbers n) q)) (root_power-zero n) ∙ mul-one (numbers n) (whole (numbers n) q)

pub returns : goal.returns
returns g c =
    let value = g.S.Scalar.value in
    let x = c.in_ok-factor.factor in
    let q = c.args.number in
    if_ok_all c.scale.result _ _ _ _ _ (λ z r k o v n d a is.
    let order : c.in_ok-order.order.n ≡ n = c.in_ok-order.ensures ∙ c.order.ensures ∙ c.at.ensures.order ∙ is.order in
    scaled n d a c.args.m.now is x (whole (numbers n) q)
    (subst (λ u. value u x ≡ (numbers u).mul (whole (numbers u) q) (root_power u 0)) order c.in_ok-factor.ensures.value ∙ whole_power n q) z r k o v)
    c.scale.ensures.rows c.scale.ensures.cols c.scale.ensures.order c.scale.ensures.value
