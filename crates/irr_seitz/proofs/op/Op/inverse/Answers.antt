use Rattle.std.proofs.Common.{refl, ◌∙◌, ap, [], ◌∷◌, to_z, of_z}
use Rattle.std.specs.Int.{w64}
use Rattle.std.proofs.lemmas.Int.{to_z-of_z}
use Rattle.irr_algebra.specs.Matrix.{◌⊖◌, null}
use Rattle.irr_space.specs.Operation.{Vector}
use Rattle.irr_seitz.specs.OperationMeaning.{operation}
use Rattle.irr_seitz.proofs.Vectors.{turned_at, turned_vector}
use Rattle.irr_seitz.proofs.Inverses.{inverse_of, opposite_vector}
use Rattle.irr_seitz.proofs.op.Op.inverse.Goals as goal

pub returns : goal.returns
returns c = inverse_of (operation c.args.self.now) _ c.inverse-rot.ensures.right c.inverse-rot.ensures.left
    (c.new-shift.ensures
    ∙ opposite_vector (turned_at c.inverse-rot.result c.args.self.now.num 0 ∷ turned_at c.inverse-rot.result c.args.self.now.num 1 ∷ turned_at c.inverse-rot.result c.args.self.now.num 2 ∷ [])
    (to_z w64 (of_z w64 c.opposite_by.result) ∷ to_z w64 (of_z w64 c.opposite_by-2.result) ∷ to_z w64 (of_z w64 c.opposite_by-3.result) ∷ []) c.args.self.now.den c.args.self.now.lowest.positive
    (to_z-of_z w64 c.opposite_by.result (record { sfits = c.opposite_by.type_inv }) ∙ c.opposite_by.ensures)
    (to_z-of_z w64 c.opposite_by-2.result (record { sfits = c.opposite_by-2.type_inv }) ∙ c.opposite_by-2.ensures)
    (to_z-of_z w64 c.opposite_by-3.result (record { sfits = c.opposite_by-3.type_inv }) ∙ c.opposite_by-3.ensures)
    ∙ ap (λ (v : Vector). null ⊖ v) (turned_vector c.inverse-rot.result c.args.self.now.num _ c.args.self.now.den c.args.self.now.lowest.positive (record { x = refl; y = refl; z = refl })))
