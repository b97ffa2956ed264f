use Rattle.std.proofs.Common.{◌<◌, length, arith}
use Rattle.irr_close.proofs.Bareness.{first_of}
use Rattle.irr_star.proofs.shifts.with_rotation.Goals as goal

pub unreachable-requires : goal.unreachable-requires
unreachable-requires c =
    let r = c.requires in
    let l : r.0 < length c.args.products.now = r.1 in
    let end = c.loop-product-test.false in
    let d = first_of c.args.products.now (omega (arith, l)) in
    c.loop-product.invariant r.0 (omega (arith, l, end)) d (r.2 d)
