-- Sizes of three exponents.
use Rattle.std.proofs.Common.{rules, ◌<◌, ◌≤◌, ◌+◌, ◌^◌, ℕ, Fits, w32, arith}
use Rattle.irr_rep.specs.Twisted.{phase_table}
use Rattle.irr_root.proofs.Walks.{table-order-le}
use Rattle.irr_root.proofs.turned.turned_product.Goals as goal

fits_small : (a : ℕ) → a < 2 ^ 32 → Fits w32 a
fits_small a l = search rules

pub overflow_add-exponent : goal.overflow_add-exponent
overflow_add-exponent c =
    let few : (phase_table c.args.t.now).order ≤ 12000 = table-order-le c.args.t.now in
    let a : c.args.x.exponent < (phase_table c.args.t.now).order = c.requires.left_exponent in
    let b : c.args.y.exponent < (phase_table c.args.t.now).order = c.requires.right_exponent in
    fits_small (c.args.x.exponent + c.args.y.exponent) (omega (arith, few, a, b))

pub overflow_add-exponent-2 : goal.overflow_add-exponent-2
overflow_add-exponent-2 c =
    let few : (phase_table c.args.t.now).order ≤ 12000 = table-order-le c.args.t.now in
    let a : c.args.x.exponent < (phase_table c.args.t.now).order = c.requires.left_exponent in
    let b : c.args.y.exponent < (phase_table c.args.t.now).order = c.requires.right_exponent in
    let x : c.phase.result < (phase_table c.args.t.now).order = c.phase.ensures.within in
    fits_small (c.args.x.exponent + c.args.y.exponent + c.phase.result) (omega (arith, few, a, b, x))
