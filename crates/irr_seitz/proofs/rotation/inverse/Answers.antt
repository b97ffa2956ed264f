use Rattle.std.proofs.Common.{◌≡◌, refl, ◌∙◌, ap, [], ◌∷◌, ◌*ℤ◌, to_z, of_z}
use Rattle.std.specs.Int.{w16, w64}
use Rattle.std.proofs.lemmas.Int.{to_z-of_z}
use Rattle.irr_algebra.specs.Fin.{to_nat}
use Rattle.irr_algebra.specs.Fin.Fin.{first, next}
use Rattle.irr_algebra.specs.Matrix.{◌·◌}
use Rattle.irr_space.specs.Operation.{Rotation}
use Rattle.irr_seitz.specs.Rotation.{rotation_of, determinant}
use Rattle.irr_seitz.proofs.Rotations.{rotation_of-list}
use Rattle.irr_seitz.proofs.Adjugate.{adjoint, cofactor, mul-adjoint, adjoint-mul}
use Rattle.irr_seitz.proofs.rotation.inverse.Goals as goal

read : (c : goal.After-inverse_at-9) → to_z w64 (of_z w64 c.determinant-det.result) ≡ determinant (rotation_of c.args.rot.now)
read c = to_z-of_z w64 c.determinant-det.result (record { sfits = c.determinant-det.type_inv }) ∙ c.determinant-det.ensures

is_adjoint : (c : goal.After-inverse_at-9) → rotation_of ((to_z w16 (of_z w16 c.inverse_at.result) ∷ to_z w16 (of_z w16 c.inverse_at-2.result) ∷ to_z w16 (of_z w16 c.inverse_at-3.result) ∷ []) ∷ (to_z w16 (of_z w16 c.inverse_at-4.result) ∷ to_z w16 (of_z w16 c.inverse_at-5.result) ∷ to_z w16 (of_z w16 c.inverse_at-6.result) ∷ []) ∷ (to_z w16 (of_z w16 c.inverse_at-7.result) ∷ to_z w16 (of_z w16 c.inverse_at-8.result) ∷ to_z w16 (of_z w16 c.inverse_at-9.result) ∷ []) ∷ []) ≡ adjoint (determinant (rotation_of c.args.rot.now)) (rotation_of c.args.rot.now)
unfolding adjoint rotation_of to_nat
is_adjoint c = rotation_of-list ((to_z w16 (of_z w16 c.inverse_at.result) ∷ to_z w16 (of_z w16 c.inverse_at-2.result) ∷ to_z w16 (of_z w16 c.inverse_at-3.result) ∷ []) ∷ (to_z w16 (of_z w16 c.inverse_at-4.result) ∷ to_z w16 (of_z w16 c.inverse_at-5.result) ∷ to_z w16 (of_z w16 c.inverse_at-6.result) ∷ []) ∷ (to_z w16 (of_z w16 c.inverse_at-7.result) ∷ to_z w16 (of_z w16 c.inverse_at-8.result) ∷ to_z w16 (of_z w16 c.inverse_at-9.result) ∷ []) ∷ []) (adjoint (determinant (rotation_of c.args.rot.now)) (rotation_of c.args.rot.now))
    (to_z-of_z w16 c.inverse_at.result (record { sfits = c.inverse_at.type_inv }) ∙ c.inverse_at.ensures.value ∙ ap (λ d. d *ℤ cofactor (rotation_of c.args.rot.now) first first) (read c))
    (to_z-of_z w16 c.inverse_at-2.result (record { sfits = c.inverse_at-2.type_inv }) ∙ c.inverse_at-2.ensures.value ∙ ap (λ d. d *ℤ cofactor (rotation_of c.args.rot.now) (next first) first) (read c))
    (to_z-of_z w16 c.inverse_at-3.result (record { sfits = c.inverse_at-3.type_inv }) ∙ c.inverse_at-3.ensures.value ∙ ap (λ d. d *ℤ cofactor (rotation_of c.args.rot.now) (next (next first)) first) (read c))
    (to_z-of_z w16 c.inverse_at-4.result (record { sfits = c.inverse_at-4.type_inv }) ∙ c.inverse_at-4.ensures.value ∙ ap (λ d. d *ℤ cofactor (rotation_of c.args.rot.now) first (next first)) (read c))
    (to_z-of_z w16 c.inverse_at-5.result (record { sfits = c.inverse_at-5.type_inv }) ∙ c.inverse_at-5.ensures.value ∙ ap (λ d. d *ℤ cofactor (rotation_of c.args.rot.now) (next first) (next first)) (read c))
    (to_z-of_z w16 c.inverse_at-6.result (record { sfits = c.inverse_at-6.type_inv }) ∙ c.inverse_at-6.ensures.value ∙ ap (λ d. d *ℤ cofactor (rotation_of c.args.rot.now) (next (next first)) (next first)) (read c))
    (to_z-of_z w16 c.inverse_at-7.result (record { sfits = c.inverse_at-7.type_inv }) ∙ c.inverse_at-7.ensures.value ∙ ap (λ d. d *ℤ cofactor (rotation_of c.args.rot.now) first (next (next first))) (read c))
    (to_z-of_z w16 c.inverse_at-8.result (record { sfits = c.inverse_at-8.type_inv }) ∙ c.inverse_at-8.ensures.value ∙ ap (λ d. d *ℤ cofactor (rotation_of c.args.rot.now) (next first) (next (next first))) (read c))
    (to_z-of_z w16 c.inverse_at-9.result (record { sfits = c.inverse_at-9.type_inv }) ∙ c.inverse_at-9.ensures.value ∙ ap (λ d. d *ℤ cofactor (rotation_of c.args.rot.now) (next (next first)) (next (next first))) (read c))

pub returns-clause-right : goal.returns-clause-right
returns-clause-right c = ap (λ (S : Rotation). rotation_of c.args.rot.now · S) (is_adjoint c) ∙ mul-adjoint (determinant (rotation_of c.args.rot.now)) (rotation_of c.args.rot.now) refl c.requires.unimodular

pub returns-clause-left : goal.returns-clause-left
returns-clause-left c = adjoint-mul (rotation_of c.args.rot.now) _ (returns-clause-right c)
