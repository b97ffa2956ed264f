use Rattle.std.proofs.Common.{◌≡◌, sym, refl, ◌∙◌, IsTrue, false, true}
use Rattle.irr_seitz.specs.Rotation.{rotation_of}
use Rattle.irr_seitz.proofs.Orders.{unit_rotation}
use Rattle.irr_seitz.proofs.RotationOrder.{below_irrefl}
use Rattle.irr_seitz.proofs.rotation.is_unit.Goals as goal

not_true : IsTrue false → ⊥
not_true h = let e : false ≡ true = h in cc

pub returns-in-Equal : goal.returns-in-Equal
returns-in-Equal c = ((λ h. c.in-Equal.ensures ∙ unit_rotation), λ e. refl)

pub returns-in-Less : goal.returns-in-Less
returns-in-Less c = ((λ h. absurd (not_true h)), λ e. absurd (below_irrefl (rotation_of c.args.rot.now) _ (e ∙ sym unit_rotation) c.in-Less.ensures))

pub returns-in-Greater : goal.returns-in-Greater
returns-in-Greater c = ((λ h. absurd (not_true h)), λ e. absurd (below_irrefl _ (rotation_of c.args.rot.now) (unit_rotation ∙ sym e) c.in-Greater.ensures))
