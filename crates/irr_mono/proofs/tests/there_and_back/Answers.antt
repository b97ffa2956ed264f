-- The entries can be compared with powers of z.
use Rattle.std.proofs.Common.{sym, subst, length, ◌≤◌}
use Rattle.irr_mat.specs.Entries.{first_order, matrix_of}
use Rattle.irr_mono.proofs.MonomialSizes.{powers_fit}
use Rattle.irr_mono.proofs.Trial.{within-numbers}
use Rattle.irr_mono.proofs.tests.there_and_back.Goals as goal

pub from_mat-requires : goal.from_mat-requires
from_mat-requires g c =
    let n = c.args.order.now.n in
    let m = c.in_ok-numbers.numbers in
    let k = first_order g.S.Scalar.order_of m.entries.items in
    let place = c.args.m.now.place.items in
    let made = c.in_ok-numbers.ensures in
    powers_fit k m.rows m.cols (matrix_of g.S.Scalar.value k m.rows m.cols m.entries.items) (subst (λ q. q ≤ 12000) (sym made.order) (g.met.S.Scalar.admitted_limited n c.requires.admitted))
    (within-numbers g.S.Scalar.value k n m.rows m.cols (length place) m.entries.items place c.args.m.now.exp.items made.order made.rows made.cols made.value)
