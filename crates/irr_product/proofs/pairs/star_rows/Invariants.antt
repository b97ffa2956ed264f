-- The rows so far.
use Rattle.std.proofs.Common.{get_or, Vec, Global}
use Rattle.irr_mult.specs.declared.star.StarCharacters.{StarCharacters}
use Rattle.irr_side.specs.ArmTraces.{AreEach}
use Rattle.irr_product.specs.Meetings.{IsPairRow}
use Rattle.irr_product.specs.declared.meetings.Meeting.{Meeting}
use Rattle.irr_product.proofs.pairs.star_rows.Given as goal

abbrev pub invariant-loop-i : goal.invariant-loop-i
invariant-loop-i g l = AreEach (λ n (row : Vec g.row.S.Denot Global). (e : StarCharacters g.row.S.Denot) (t : Meeting g.row.S.Denot)
    → IsPairRow g.S.Scalar.order_of g.S.Scalar.value l.order.n l.a l.b (get_or l.stars n e) (get_or l.meetings n t) row.items)
    l.i l.rows.items
