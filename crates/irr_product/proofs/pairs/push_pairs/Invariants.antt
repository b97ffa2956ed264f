-- The entries so far.
use Rattle.std.proofs.Common.{◌+◌, ◌*◌, List, length}
use Rattle.irr_space.specs.Operation.{WaveVector}
use Rattle.irr_kvec.specs.declared.wave.Wave.{Wave}
use Rattle.irr_close.specs.declared.group.Group.{Group}
use Rattle.irr_product.specs.Meetings.{AreEntries, Setting}
use Rattle.irr_product.proofs.pairs.push_pairs.Given as goal

abbrev pub invariant-loop-b : goal.invariant-loop-b
invariant-loop-b g l = (group : Group) (k w : WaveVector) (sums : List Wave)
    (s : Setting {V = g.S.Scalar} group k w l.order.n l.left l.right sums l.stars l.meetings)
    → AreEntries l.order.n s.given.left s.given.right (l.a * length l.right.fulls.items) l.fn.pairs.items
    → AreEntries l.order.n s.given.left s.given.right (l.a * length l.right.fulls.items + l.b) l.pairs.items
