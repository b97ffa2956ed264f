-- Sizes.
use Rattle.std.proofs.Common.{refl, ◌^◌, ◌*◌, ◌+◌, ◌<◌, ◌≤◌, ℕ, arith}
use Rattle.irr_mat.proofs.Sizes.{sum_denominators, sum_sizes}
use Rattle.irr_power.proofs.returns.more.Goals as goal

room : (n : ℕ) → n ≤ 12000 → 110592 * n * 1 + 48 * n * 1 < 2 ^ 110
room n l = omega (arith, l)

pub add-requires-clause-denominators : goal.add-requires-clause-denominators
add-requires-clause-denominators g c =
    let n = g.S.Scalar.order_of c.args.sum in
    sum_denominators g.S.Scalar.value n n (g.met.S.Scalar.admitted_positive n (g.met.S.Scalar.order_admitted c.args.sum))
    refl 110592 1 48 1 c.args.sum c.args.x.now c.requires.few c.requires.small (2 ^ 60) (omega arith)

pub add-requires-clause-sizes : goal.add-requires-clause-sizes
add-requires-clause-sizes g c =
    let n = g.S.Scalar.order_of c.args.sum in
    let admitted = g.met.S.Scalar.order_admitted c.args.sum in
    sum_sizes g.S.Scalar.value n n (g.met.S.Scalar.admitted_positive n admitted)
    refl 110592 1 48 1 c.args.sum c.args.x.now c.requires.few c.requires.small (2 ^ 110) (room n (g.met.S.Scalar.admitted_limited n admitted))
