-- The family that is tried.
use Rattle.std.proofs.Common.{◌≡◌, sym, ◌∙◌, subst, ◌<◌, ◌≤◌, length, rules}
use Rattle.std.specs.Int.{◌∣◌}
use native.Mathlib.Nat as Nat
use Rattle.irr_rep.specs.Twisted.{phase_table}
use Rattle.irr_real.proofs.PowerMatrices.{MatricesSoFar, checkable, matrices_more, represented, small_family}
use Rattle.irr_real.proofs.tests.type_of.Goals as goal

pub loop-powers-preserved : goal.loop-powers-preserved
loop-powers-preserved g c = matrices_more c.in_ok-order.order.n c.args.rows c.loop-powers.powers-index
    c.loop-powers.mats.items
    c.push.new.self.items c.in_ok-matrix.matrix c.loop-powers.invariant c.in_ok-push.ensures.items
    (record {
      rows = c.in_ok-matrix.ensures.rows;
      cols = c.in_ok-matrix.ensures.cols;
      order = c.in_ok-matrix.ensures.order;
      within = c.in_ok-matrix.ensures.within;
    })

pub first_defect-requires : goal.first_defect-requires
first_defect-requires g c =
    let n = c.in_ok-order.order.n in
    let T = phase_table c.in-Ok.t in
    let rows = c.args.rows in
    let mats = c.loop-powers.mats.items in
    let some : 0 < rows = search rules in
    let few : rows ≤ 2 = search rules in
    let done : c.loop-powers.powers-index ≡ length c.args.matrices.now = search rules in
    let v = subst (λ u. T.order ∣ u) (sym (c.in_ok-order.ensures ∙ c.order.ensures.order)) (Nat.dvd_refl T.order) in
    checkable T n c.in_ok-order.order.limited v rows some few mats
    (subst (λ k. MatricesSoFar n rows k mats) (done ∙ c.if-matrices-len.false ∙ c.len.ensures.count)
    c.loop-powers.invariant)

pub reality-requires-clause-family : goal.reality-requires-clause-family
reality-requires-clause-family g c =
    let n = c.in_ok-order.order.n in
    let T = phase_table c.in-Ok.t in
    let rows = c.args.rows in
    let mats = c.loop-powers.mats.items in
    let some : 0 < rows = search rules in
    let few : rows ≤ 2 = search rules in
    let done : c.loop-powers.powers-index ≡ length c.args.matrices.now = search rules in
    let v = subst (λ u. T.order ∣ u) (sym (c.in_ok-order.ensures ∙ c.order.ensures.order)) (Nat.dvd_refl T.order) in
    let so = subst (λ k. MatricesSoFar n rows k mats) (done ∙ c.if-matrices-len.false ∙ c.len.ensures.count)
    c.loop-powers.invariant in
    let limited = c.in_ok-order.order.limited in (
      n,
      small_family T n limited v (record { dim = rows; mats = c.loop-powers.mats }) some few so
          (represented T n limited v rows some few mats so c.in_ok-_defect.field-0 c.in_default-2.is
          (c.in_ok-_defect.ensures (checkable T n limited v rows some few mats so))),
    )
