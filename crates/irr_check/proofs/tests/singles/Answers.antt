-- Matrices of one entry.
use Rattle.std.proofs.Common.{◌≡◌, subst, length, rules}
use Rattle.irr_rep.proofs.SingleEntries.{SinglesSoFar}
use Rattle.irr_check.proofs.MadeReports.{limited_singles}
use Rattle.irr_check.proofs.tests.singles.Goals as goal

pub returns : goal.returns
returns g c =
    let done : c.loop-e.e-index ≡ length c.args.exponents.now = search rules in
    limited_singles c.args.order.now.n (length c.args.exponents.now) c.loop-e.mats.items
    (subst (λ k. SinglesSoFar c.args.order.now.n k c.loop-e.mats.items) done c.loop-e.invariant)
