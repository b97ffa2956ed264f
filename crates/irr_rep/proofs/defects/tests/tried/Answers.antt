-- The family can be checked.
use Rattle.std.proofs.Common.{◌≡◌, sym, ◌∙◌, subst, length, rules}
use native.Mathlib.Nat as Nat
use Rattle.std.specs.Int.{◌∣◌}
use Rattle.irr_rep.specs.Twisted.{phase_table}
use Rattle.irr_rep.proofs.SingleEntries.{SinglesSoFar, checkable_singles}
use Rattle.irr_rep.proofs.defects.tests.tried.Goals as goal

pub first_defect-requires : goal.first_defect-requires
first_defect-requires g c =
    let n = c.args.order.now.n in
    let T = phase_table c.args.t.now in
    let done : c.loop-e.e-index ≡ length c.args.exponents.now = search rules in
    checkable_singles n T (subst (λ u. T.order ∣ u) (sym c.requires.order) (Nat.dvd_refl T.order)) c.loop-e.mats.items
    (subst (λ k. SinglesSoFar n k c.loop-e.mats.items) (done ∙ c.requires.count) c.loop-e.invariant)
