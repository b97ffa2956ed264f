use Rattle.std.proofs.Common.{sym, ◌∙◌, ap₂, subst₂, pos, ◌+ℤ◌, get_or, FitsSigned, rules}
use Rattle.std.specs.Int.{w64, w128}
use Rattle.std.proofs.lemmas.Int.{to_z-of_z}
use Rattle.irr_rat.proofs.Vectors.{fits_add, read_product}
use Rattle.irr_rat.proofs.vec3.Vec3.sum_at.Goals as goal

pub overflow_add-result : goal.overflow_add-result
overflow_add-result c = subst₂ (λ x y. FitsSigned w128 (x +ℤ y)) (sym (to_z-of_z w128 c.product.result (record { sfits = c.product.type_inv })))
    (sym (to_z-of_z w128 c.product-2.result (record { sfits = c.product-2.type_inv }))) (fits_add c.product.result c.product-2.result c.product.ensures.small c.product-2.ensures.small)

pub returns : goal.returns
returns c =
    let f : FitsSigned w64 (get_or c.args.self.now.num c.args.i (pos 0)) = search rules in
    let g : FitsSigned w64 (get_or c.args.other.now.num c.args.i (pos 0)) = search rules in
    to_z-of_z w128 _ (subst₂ (λ x y. FitsSigned w128 (x +ℤ y)) (sym (to_z-of_z w128 c.product.result (record { sfits = c.product.type_inv })))
    (sym (to_z-of_z w128 c.product-2.result (record { sfits = c.product-2.type_inv }))) (fits_add c.product.result c.product-2.result c.product.ensures.small c.product-2.ensures.small))
    ∙ ap₂ ◌+ℤ◌ (read_product c.product.result _ c.args.other.now.den (record { sfits = c.product.type_inv }) f c.product.ensures.value)
    (read_product c.product-2.result _ c.args.self.now.den (record { sfits = c.product-2.type_inv }) g c.product-2.ensures.value)
