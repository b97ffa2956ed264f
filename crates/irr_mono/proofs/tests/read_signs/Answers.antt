-- The entries can be compared with powers of z.
use Rattle.irr_mat.specs.Entries.{first_order}
use Rattle.irr_mono.proofs.Trial.{fits-read}
use Rattle.irr_mono.proofs.tests.read_signs.Goals as goal

pub from_mat-requires : goal.from_mat-requires
from_mat-requires g c =
    let n = c.args.order.now.n in
    let m = c.in_ok-m.m in
    fits-read g.S.Scalar.value (first_order g.S.Scalar.order_of m.entries.items) n m.rows c.args.rows m.cols c.args.cols m.entries.items c.in_ok-m.ensures.order c.in_ok-m.ensures.rows c.in_ok-m.ensures.cols
    (g.met.S.Scalar.admitted_limited n c.requires.admitted) c.in_ok-m.ensures.within
