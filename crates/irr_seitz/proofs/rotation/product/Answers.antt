use Rattle.std.proofs.Common.{◌∙◌, refl}
use Rattle.std.specs.Int.{w16}
use Rattle.std.proofs.lemmas.Int.{to_z-of_z}
use Rattle.irr_algebra.specs.Fin.{to_nat}
use Rattle.irr_algebra.specs.Fin.Fin.{first, next}
use Rattle.irr_algebra.specs.Matrix.{◌·◌}
use Rattle.irr_seitz.specs.Rotation.{rotation_of}
use Rattle.irr_seitz.proofs.Rotations.{rotation_of-list, product-at}
use Rattle.irr_seitz.proofs.rotation.product.Goals as goal

pub returns : goal.returns
unfolding to_nat
returns c = rotation_of-list _ (rotation_of c.args.a.now · rotation_of c.args.b.now)
    (to_z-of_z w16 c.product_at.result (record { sfits = c.product_at.type_inv }) ∙ c.product_at.ensures ∙ product-at c.args.a.now c.args.b.now first first 0 0 refl refl)
    (to_z-of_z w16 c.product_at-2.result (record { sfits = c.product_at-2.type_inv }) ∙ c.product_at-2.ensures ∙ product-at c.args.a.now c.args.b.now first (next first) 0 1 refl refl)
    (to_z-of_z w16 c.product_at-3.result (record { sfits = c.product_at-3.type_inv }) ∙ c.product_at-3.ensures ∙ product-at c.args.a.now c.args.b.now first (next (next first)) 0 2 refl refl)
    (to_z-of_z w16 c.product_at-4.result (record { sfits = c.product_at-4.type_inv }) ∙ c.product_at-4.ensures ∙ product-at c.args.a.now c.args.b.now (next first) first 1 0 refl refl)
    (to_z-of_z w16 c.product_at-5.result (record { sfits = c.product_at-5.type_inv }) ∙ c.product_at-5.ensures ∙ product-at c.args.a.now c.args.b.now (next first) (next first) 1 1 refl refl)
    (to_z-of_z w16 c.product_at-6.result (record { sfits = c.product_at-6.type_inv }) ∙ c.product_at-6.ensures ∙ product-at c.args.a.now c.args.b.now (next first) (next (next first)) 1 2 refl refl)
    (to_z-of_z w16 c.product_at-7.result (record { sfits = c.product_at-7.type_inv }) ∙ c.product_at-7.ensures ∙ product-at c.args.a.now c.args.b.now (next (next first)) first 2 0 refl refl)
    (to_z-of_z w16 c.product_at-8.result (record { sfits = c.product_at-8.type_inv }) ∙ c.product_at-8.ensures ∙ product-at c.args.a.now c.args.b.now (next (next first)) (next first) 2 1 refl refl)
    (to_z-of_z w16 c.product_at-9.result (record { sfits = c.product_at-9.type_inv }) ∙ c.product_at-9.ensures ∙ product-at c.args.a.now c.args.b.now (next (next first)) (next (next first)) 2 2 refl refl)
