use Rattle.std.proofs.Common.{◌≡◌, ◌∙◌, [], ◌∷◌, to_z, of_z}
use Rattle.std.specs.Int.{w64}
use Rattle.std.proofs.lemmas.Int.{to_z-of_z}
use Rattle.irr_algebra.specs.Fin.{to_nat}
use Rattle.irr_rational.specs.Ratio.{entry}
use Rattle.irr_rat.proofs.Vectors.{each_of_three}
use Rattle.irr_kvec.proofs.Actions.{row_at}
use Rattle.irr_kvec.proofs.action.row_product.Goals as goal

pub returns : goal.returns
unfolding to_nat
returns c = each_of_three (λ i. entry (to_z w64 (of_z w64 c.product_at.result) ∷ to_z w64 (of_z w64 c.product_at-2.result) ∷ to_z w64 (of_z w64 c.product_at-3.result) ∷ []) i
    ≡ row_at c.args.num.now c.args.rot.now i)
    (to_z-of_z w64 c.product_at.result (record { sfits = c.product_at.type_inv }) ∙ c.product_at.ensures)
    (to_z-of_z w64 c.product_at-2.result (record { sfits = c.product_at-2.type_inv }) ∙ c.product_at-2.ensures)
    (to_z-of_z w64 c.product_at-3.result (record { sfits = c.product_at-3.type_inv }) ∙ c.product_at-3.ensures)
