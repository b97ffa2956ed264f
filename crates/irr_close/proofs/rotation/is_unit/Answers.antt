use Rattle.std.proofs.Common.{sym, ◌∙◌}
use Rattle.irr_seitz.proofs.Orders.{unit_rotation}
use Rattle.irr_close.proofs.rotation.is_unit.Goals as goal

pub returns : goal.returns
returns c = (λ t. c.same.ensures.0 t ∙ unit_rotation, λ u. c.same.ensures.1 (u ∙ sym unit_rotation))
