-- A multiple of a phase times a matrix.
use Rattle.std.proofs.Common.{◌≡◌, sym, ◌∙◌, ap, subst, ◌*◌, ◌/◌, ◌<◌, ◌≤◌, length, Result, Ok, Err, IfOk}
use native.Mathlib.Nat as Nat
use Rattle.std.specs.Int.{◌∣◌}
use Rattle.irr_algebra.proofs.Indices.{from_nat, to_nat-from_nat}
use Rattle.irr_algebra.specs.Ring.{whole}
use Rattle.irr_number.specs.Number.{numbers, root_power}
use Rattle.irr_number.proofs.Lifts.{lift-root_power}
use Rattle.irr_canonical.specs.RootSum.{IsRootSum}
use Rattle.irr_space.specs.PhaseTable.{phases_over}
use Rattle.irr_rep.specs.Family.{matrix_at}
use Rattle.irr_rep.specs.Twisted.{place_count, phase_table}
use Rattle.irr_rep.proofs.CommonDenominators.{root_sum_of_power}
use Rattle.irr_rep.proofs.MatrixForms.{fit_of_multiple, item-matrix, multiple_fits, scaled}
use Rattle.irr_rep.proofs.defects.expected_product.Goals as goal

if_ok_all : {A E : Type 0} (r : Result A E) (P Q R V W : A → Type 0) → ((x : A) → P x → Q x → R x → V x → W x) → IfOk r P → IfOk r Q → IfOk r R
    → IfOk r V → IfOk r W
if_ok_all (Ok x) P Q R V W f p q s v = f x p q s v
if_ok_all (Err e) P Q R V W f p q s v = p

pub phase_exponent-requires-clause-divides : goal.phase_exponent-requires-clause-divides
phase_exponent-requires-clause-divides g c =
    let f = c.args.f.now in
    let p = c.requires.checkable in
    let l : c.table.result < length f.mats.items = subst (λ k. c.table.result < k) (sym p.limits.shape.count) c.table.ensures.within in
    let i = from_nat (place_count c.args.t.now) c.table.result c.table.ensures.within in
    let m = item-matrix p.n f.dim f.mats.items c.table.result c.index-matrix.result.now l c.index-matrix.ensures p.limits.shape i
    (to_nat-from_nat (place_count c.args.t.now) c.table.result c.table.ensures.within) in
    subst (λ u. (phase_table c.args.t.now).order ∣ u) (sym
    (c.n.ensures.value ∙ c.in_ok-order.ensures ∙ c.order.ensures ∙ c.at.ensures.order ∙ m.order)) p.divides

pub scale-requires-clause-sizes : goal.scale-requires-clause-sizes
scale-requires-clause-sizes g c =
    let value = g.S.Scalar.value in
    let f = c.args.f.now in
    let p = c.requires.checkable in
    let l : c.table.result < length f.mats.items = subst (λ k. c.table.result < k) (sym p.limits.shape.count) c.table.ensures.within in
    let i = from_nat (place_count c.args.t.now) c.table.result c.table.ensures.within in
    let m = item-matrix p.n f.dim f.mats.items c.table.result c.index-matrix.result.now l c.index-matrix.ensures p.limits.shape i
    (to_nat-from_nat (place_count c.args.t.now) c.table.result c.table.ensures.within) in
    let order : c.in_ok-order.order.n ≡ p.n = c.in_ok-order.ensures ∙ c.order.ensures ∙ c.at.ensures.order ∙ m.order in
    let q = c.args.number in
    let root : IsRootSum p.n q 1 (value p.n c.in_ok-phase.phase) = subst (λ u. IsRootSum u q 1 (value u c.in_ok-phase.phase)) order
    (subst (IsRootSum c.in_ok-order.order.n q 1) (sym c.in_ok-phase.ensures.value)
    (root_sum_of_power c.in_ok-order.order.n q c.phase_exponent.result c.requires.positive)) in
    multiple_fits p.n f.dim (matrix_at p.n f.dim f.mats.items i) c.index-matrix.result.now m c.in_ok-phase.phase
    (fit_of_multiple p.n p.denominator (subst (λ u. u ≤ 12000) order c.in_ok-order.order.limited) p.limits.limited f.dim
    (matrix_at p.n f.dim f.mats.items i) (p.limits.within i) q (value p.n c.in_ok-phase.phase) c.requires.limited root)

pub returns : goal.returns
returns g c =
    let value = g.S.Scalar.value in
    let f = c.args.f.now in
    let T = phase_table c.args.t.now in
    if_ok_all c.scale.result _ _ _ _ _ (λ z r k o v p a b ea eb.
    let l : c.table.result < length f.mats.items = subst (λ k. c.table.result < k) (sym p.limits.shape.count) c.table.ensures.within in
    let i = T.product a b in
    let m = item-matrix p.n f.dim f.mats.items c.table.result c.index-matrix.result.now l c.index-matrix.ensures p.limits.shape i
    (sym (c.table.ensures.product a b ea eb)) in
    let order : c.in_ok-order.order.n ≡ p.n = c.in_ok-order.ensures ∙ c.order.ensures ∙ c.at.ensures.order ∙ m.order in
    scaled p.n f.dim (matrix_at p.n f.dim f.mats.items i) c.index-matrix.result.now m c.in_ok-phase.phase
    ((numbers p.n).mul (whole (numbers p.n) c.args.number) ((phases_over T p.n p.divides).phase a b))
    (subst (λ u. value u c.in_ok-phase.phase ≡ (numbers u).mul (whole (numbers u) c.args.number) (root_power u c.phase_exponent.result)) order
    c.in_ok-phase.ensures.value
    ∙ ap ((numbers p.n).mul (whole (numbers p.n) c.args.number))
    (ap (root_power p.n) (c.phase_exponent.ensures.exponent a b ea eb ∙ ap (λ u. T.exponent a b * (u / T.order)) (c.n.ensures.value ∙ order)
    ∙ Nat.mul_comm (T.exponent a b) (p.n / T.order))
    ∙ sym (lift-root_power T.order p.n T.order_positive p.divides (T.exponent a b))))
    z r k o v)
    c.scale.ensures.rows c.scale.ensures.cols c.scale.ensures.order c.scale.ensures.value
