use Rattle.std.proofs.Common.{sym, ◌∙◌, subst, [], ◌∷◌, to_z, of_z}
use Rattle.std.specs.Int.{w64}
use Rattle.std.proofs.lemmas.Int.{to_z-of_z}
use Rattle.irr_algebra.specs.Fin.{Fin}
use Rattle.irr_algebra.specs.Matrix.{◌⊖◌}
use Rattle.irr_rational.specs.Rational.{IsWhole}
use Rattle.irr_space.specs.Operation.{component}
use Rattle.irr_space.specs.CanonicalOperation.{IsInCell}
use Rattle.irr_rat.specs.VectorMeaning.{vector}
use Rattle.irr_rat.proofs.Reduction.{rests, reduced_in_cell, reduced_whole}
use Rattle.irr_rat.proofs.vec3.Vec3.reduce.Goals as goal

pub returns-clause-in_cell : goal.returns-clause-in_cell
returns-clause-in_cell c = subst IsInCell (sym c.new.ensures) (reduced_in_cell c.args.self.now.num _ c.args.self.now.den c.args.self.now.lowest.positive
    (rests c.args.self.now.num (to_z w64 (of_z w64 c.rest_at.result) ∷ to_z w64 (of_z w64 c.rest_at-2.result) ∷ to_z w64 (of_z w64 c.rest_at-3.result) ∷ []) c.args.self.now.den
    (to_z-of_z w64 c.rest_at.result (record { sfits = c.rest_at.type_inv }) ∙ c.rest_at.ensures)
    (to_z-of_z w64 c.rest_at-2.result (record { sfits = c.rest_at-2.type_inv }) ∙ c.rest_at-2.ensures)
    (to_z-of_z w64 c.rest_at-3.result (record { sfits = c.rest_at-3.type_inv }) ∙ c.rest_at-3.ensures)))

pub returns-clause-whole : goal.returns-clause-whole
returns-clause-whole c = subst (λ v. (i : Fin 3) → IsWhole (component (vector c.args.self.now ⊖ v) i)) (sym c.new.ensures)
    (reduced_whole c.args.self.now.num _ c.args.self.now.den c.args.self.now.lowest.positive
    (rests c.args.self.now.num (to_z w64 (of_z w64 c.rest_at.result) ∷ to_z w64 (of_z w64 c.rest_at-2.result) ∷ to_z w64 (of_z w64 c.rest_at-3.result) ∷ []) c.args.self.now.den
    (to_z-of_z w64 c.rest_at.result (record { sfits = c.rest_at.type_inv }) ∙ c.rest_at.ensures)
    (to_z-of_z w64 c.rest_at-2.result (record { sfits = c.rest_at-2.type_inv }) ∙ c.rest_at-2.ensures)
    (to_z-of_z w64 c.rest_at-3.result (record { sfits = c.rest_at-3.type_inv }) ∙ c.rest_at-3.ensures)))
