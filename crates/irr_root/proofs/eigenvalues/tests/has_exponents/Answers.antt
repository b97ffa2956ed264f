-- The family can be checked, and has no defect where its eigenvalues are asked for.
use Rattle.std.proofs.Common.{sym, subst, ◌≤◌}
use native.Mathlib.Nat as Nat
use Rattle.std.specs.Int.{◌∣◌}
use Rattle.irr_rep.specs.Twisted.{phase_table}
use Rattle.irr_rep.proofs.SingleEntries.{SinglesSoFar, checkable_singles}
use Rattle.irr_root.proofs.SingleFamilies.{no_defect, singles_fit, two_singles}
use Rattle.irr_root.proofs.Walks.{table-order-le}
use Rattle.irr_root.proofs.eigenvalues.tests.has_exponents.Goals as goal

pub first_defect-requires : goal.first_defect-requires
first_defect-requires g c =
    let n = c.args.order.now.n in
    let T = phase_table c.args.t.now in
    let mats = c.push-2.new.self.items in
    let singles = two_singles n c.new-mats.result.items c.push.new.self.items mats c.in_ok-unit.unit c.in_ok-screw.screw c.new-mats.ensures.items
    c.in_ok-push.ensures.items c.in_ok-push-2.ensures.items
    (record { rows = c.in_ok-unit.ensures.rows; cols = c.in_ok-unit.ensures.cols; order = c.in_ok-unit.ensures.order; within = c.in_ok-unit.ensures.within })
    (record { rows = c.in_ok-screw.ensures.rows; cols = c.in_ok-screw.ensures.cols; order = c.in_ok-screw.ensures.order; within = c.in_ok-screw.ensures.within }) in
    checkable_singles n T (subst (λ u. T.order ∣ u) (sym c.requires.order) (Nat.dvd_refl T.order)) mats
    (subst (λ k. SinglesSoFar n k mats) (sym c.requires.places) singles)

pub eigen_exponents-requires-clause-representation : goal.eigen_exponents-requires-clause-representation
eigen_exponents-requires-clause-representation g c =
    let n = c.args.order.now.n in
    let T = phase_table c.args.t.now in
    let mats = c.push-2.new.self.items in
    let v = subst (λ u. T.order ∣ u) (sym c.requires.order) (Nat.dvd_refl T.order) in
    let singles = two_singles n c.new-mats.result.items c.push.new.self.items mats c.in_ok-unit.unit c.in_ok-screw.screw c.new-mats.ensures.items
    c.in_ok-push.ensures.items c.in_ok-push-2.ensures.items
    (record { rows = c.in_ok-unit.ensures.rows; cols = c.in_ok-unit.ensures.cols; order = c.in_ok-unit.ensures.order; within = c.in_ok-unit.ensures.within })
    (record { rows = c.in_ok-screw.ensures.rows; cols = c.in_ok-screw.ensures.cols; order = c.in_ok-screw.ensures.order; within = c.in_ok-screw.ensures.within }) in
    let p = checkable_singles n T v mats (subst (λ k. SinglesSoFar n k mats) (sym c.requires.places) singles) in
    (p.n, p.divides, p.limits.shape, no_defect T p.n p.divides 1 mats c.in_ok-defect.defect c.in-None.is (c.in_ok-defect.ensures p))

pub eigen_exponents-requires-clause-sizes : goal.eigen_exponents-requires-clause-sizes
eigen_exponents-requires-clause-sizes g c =
    let n = c.args.order.now.n in
    let mats = c.push-2.new.self.items in
    let singles = two_singles n c.new-mats.result.items c.push.new.self.items mats c.in_ok-unit.unit c.in_ok-screw.screw c.new-mats.ensures.items
    c.in_ok-push.ensures.items c.in_ok-push-2.ensures.items
    (record { rows = c.in_ok-unit.ensures.rows; cols = c.in_ok-unit.ensures.cols; order = c.in_ok-unit.ensures.order; within = c.in_ok-unit.ensures.within })
    (record { rows = c.in_ok-screw.ensures.rows; cols = c.in_ok-screw.ensures.cols; order = c.in_ok-screw.ensures.order; within = c.in_ok-screw.ensures.within }) in
    singles_fit n 2 mats singles (subst (λ k. k ≤ 12000) (sym c.requires.order) (table-order-le c.args.t.now))
