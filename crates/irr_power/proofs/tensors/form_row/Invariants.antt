-- The traces so far.
use Rattle.std.proofs.Common.{◌≡◌, get_or}
use Rattle.irr_algebra.specs.Matrix.{trace}
use Rattle.irr_number.specs.Number.{numbers}
use Rattle.irr_seitz.specs.OperationMeaning.{operation}
use Rattle.irr_seitz.specs.declared.op.Op.{Op}
use Rattle.irr_side.specs.ArmTraces.{AreEach}
use Rattle.irr_power.specs.Tensors.{form_matrix}
use Rattle.irr_power.proofs.tensors.form_row.Given as goal

abbrev pub invariant-loop-op : goal.invariant-loop-op
invariant-loop-op g l = AreEach (λ k (x : g.row.S.Denot). (o : Op) → (g.S.Scalar.order_of x ≡ l.order.n)
    × (g.S.Scalar.value l.order.n x ≡ trace (form_matrix (numbers l.order.n) l.form (operation (get_or l.ops k o))))) l.op-index l.row.items
