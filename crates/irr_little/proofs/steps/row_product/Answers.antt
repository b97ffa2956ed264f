use Rattle.std.proofs.Common.{◌≡◌, ◌∙◌, ap, ap₂, ℤ, pos, ◌+ℤ◌, ◌*ℤ◌, get_or, [], ◌∷◌, to_z, of_z}
use Rattle.std.specs.Int.{w128}
use Rattle.std.proofs.lemmas.Int.{to_z-of_z}
use Rattle.irr_algebra.specs.Fin.{to_nat}
use Rattle.irr_rational.specs.Ratio.{entry}
use Rattle.irr_rat.proofs.Vectors.{each_of_three}
use Rattle.irr_kvec.proofs.Actions.{row_at}
use Rattle.irr_little.proofs.steps.row_product.Goals as goal

product_same : (a b c x y z u v w r : ℤ) → r ≡ ((a *ℤ x) +ℤ (b *ℤ y)) +ℤ (c *ℤ z) → x ≡ u → y ≡ v → z ≡ w → r ≡ ((a *ℤ u) +ℤ (b *ℤ v)) +ℤ (c *ℤ w)
product_same a b c x y z u v w r e p q s = e ∙ ap₂ ◌+ℤ◌ (ap₂ ◌+ℤ◌ (ap (λ t. a *ℤ t) p) (ap (λ t. b *ℤ t) q)) (ap (λ t. c *ℤ t) s)

pub returns : goal.returns
unfolding to_nat
returns c = each_of_three (λ i. entry (to_z w128 (of_z w128 c.product.result) ∷ to_z w128 (of_z w128 c.product-2.result) ∷ to_z w128 (of_z w128 c.product-3.result) ∷ []) i
    ≡ row_at c.args.row.now c.args.rot.now i)
    (to_z-of_z w128 c.product.result (record { sfits = c.product.type_inv }) ∙ product_same _ _ _ _ _ _ _ _ _ c.product.result c.product.ensures.value c.column.ensures.first c.column.ensures.second c.column.ensures.third)
    (to_z-of_z w128 c.product-2.result (record { sfits = c.product-2.type_inv }) ∙ product_same _ _ _ _ _ _ _ _ _ c.product-2.result c.product-2.ensures.value c.column-2.ensures.first c.column-2.ensures.second c.column-2.ensures.third)
    (to_z-of_z w128 c.product-3.result (record { sfits = c.product-3.type_inv }) ∙ product_same _ _ _ _ _ _ _ _ _ c.product-3.result c.product-3.ensures.value c.column-3.ensures.first c.column-3.ensures.second c.column-3.ensures.third)
