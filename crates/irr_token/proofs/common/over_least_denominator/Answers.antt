-- Each fraction over the product of the denominators.
use Rattle.std.proofs.Common.{sym, ◌∙◌, ◌≤◌, ℤ, FitsSigned, to_z, of_z, unsigned_abs, arith}
use Rattle.std.specs.Int.{w64, w128}
use Rattle.std.proofs.lemmas.Int.{fits_signed_from_abs}
use Rattle.irr_token.proofs.Narrowing.{numerator_of, wide-fits, three-fits, three-ratios, components-of, small-of, AreOver, are_over}
use Rattle.irr_token.proofs.common.over_least_denominator.Goals as goal

pub narrowed-requires-clause-fits : goal.narrowed-requires-clause-fits
narrowed-requires-clause-fits c = three-fits (to_z w128 (of_z w128 c.wide.result)) (to_z w128 (of_z w128 c.wide-2.result)) (to_z w128 (of_z w128 c.wide-3.result))
    (wide-fits c.wide.result c.multiple_again.result (record { sfits = c.wide.type_inv }) (record { sfits = c.multiple_again.type_inv }) c.wide.ensures)
    (wide-fits c.wide-2.result c.multiple_again-2.result (record { sfits = c.wide-2.type_inv }) (record { sfits = c.multiple_again-2.type_inv }) c.wide-2.ensures)
    (wide-fits c.wide-3.result c.multiple_again-3.result (record { sfits = c.wide-3.type_inv }) (record { sfits = c.multiple_again-3.type_inv }) c.wide-3.ensures)

small : (n : ℤ) → unsigned_abs n ≤ 1000000 → FitsSigned w64 n
small n h = fits_signed_from_abs w64 n (omega arith)

over : (c : goal.After-narrowed) → AreOver (to_z w128 (of_z w128 c.wide.result)) (to_z w128 (of_z w128 c.wide-2.result)) (to_z w128 (of_z w128 c.wide-3.result)) c.args.x.num c.args.y.num c.args.z.num
    c.args.x.den c.args.y.den c.args.z.den c.product-2.result
over c = are_over (to_z w128 (of_z w128 c.wide.result)) (to_z w128 (of_z w128 c.wide-2.result)) (to_z w128 (of_z w128 c.wide-3.result)) c.args.x.num c.args.y.num c.args.z.num
    c.args.x.den c.args.y.den c.args.z.den c.product-2.result c.product.result c.from.result c.requires.positive.0 c.requires.positive.1 c.requires.positive.2
    (numerator_of c.wide.result c.multiple_again.result c.multiple.result c.args.x.num c.args.y.den c.args.z.den (record { sfits = c.wide.type_inv }) (record { sfits = c.multiple_again.type_inv })
    (record { sfits = c.multiple.type_inv }) (small c.args.x.num c.requires.nums.0) c.wide.ensures c.multiple_again.ensures.value c.multiple.ensures.value)
    (numerator_of c.wide-2.result c.multiple_again-2.result c.multiple-2.result c.args.y.num c.args.x.den c.args.z.den (record { sfits = c.wide-2.type_inv }) (record { sfits = c.multiple_again-2.type_inv })
    (record { sfits = c.multiple-2.type_inv }) (small c.args.y.num c.requires.nums.1) c.wide-2.ensures c.multiple_again-2.ensures.value c.multiple-2.ensures.value)
    (numerator_of c.wide-3.result c.multiple_again-3.result c.multiple-3.result c.args.z.num c.args.x.den c.args.y.den (record { sfits = c.wide-3.type_inv }) (record { sfits = c.multiple_again-3.type_inv })
    (record { sfits = c.multiple-3.type_inv }) (small c.args.z.num c.requires.nums.2) c.wide-3.ensures c.multiple_again-3.ensures.value c.multiple-3.ensures.value)
    c.product-2.ensures.value c.product.ensures.value c.from.ensures

pub returns-clause-components : goal.returns-clause-components
returns-clause-components c = let o = over c in components-of c.narrowed.result _ _ _ c.product-2.result _ _ _ c.narrowed.ensures.same o.at_x o.at_y o.at_z

pub returns-clause-none : goal.returns-clause-none
returns-clause-none c = λ is num den low ex ey ez. let o = over c in
    c.narrowed.ensures.none is num den low (three-ratios num den _ _ _ c.product-2.result (ex ∙ sym o.at_x) (ey ∙ sym o.at_y) (ez ∙ sym o.at_z))

pub returns-clause-small : goal.returns-clause-small
returns-clause-small c = let o = over c in small-of c.narrowed.result c.args.x.num c.args.y.num c.args.z.num c.args.x.den c.args.y.den c.args.z.den c.narrowed.ensures.within
    c.requires.nums.0 c.requires.nums.1 c.requires.nums.2 c.requires.positive.0 c.requires.positive.1 c.requires.positive.2
    (components-of c.narrowed.result _ _ _ c.product-2.result _ _ _ c.narrowed.ensures.same o.at_x o.at_y o.at_z)
