-- The rows so far.
use Rattle.std.proofs.Common.{get_or, Vec, Global}
use Rattle.irr_mult.specs.declared.star.StarCharacters.{StarCharacters}
use Rattle.irr_side.specs.ArmTraces.{AreEach}
use Rattle.irr_power.specs.FormTraces.{IsStarRow}
use Rattle.irr_power.proofs.tensors.star_rows.Given as goal

abbrev pub invariant-loop-star : goal.invariant-loop-star
invariant-loop-star g l = AreEach (λ i (row : Vec g.row.S.Denot Global). (e : StarCharacters g.row.S.Denot)
    → IsStarRow g.S.Scalar.order_of g.S.Scalar.value l.order.n l.group l.form (get_or l.stars i e).wave row.items) l.star-index l.rows.items
