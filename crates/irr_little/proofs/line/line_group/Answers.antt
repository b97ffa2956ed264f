-- The order, the places and the table.
use Rattle.std.proofs.Common.{◌≡◌, sym, ◌∙◌, ap, subst, ℕ, suc, ◌<◌, ◌≤◌, length, get_or}
use Rattle.irr_algebra.specs.Fin.{to_nat}
use Rattle.irr_algebra.proofs.Indices.{from_nat, to_nat-from_nat}
use Rattle.irr_kvec.specs.WaveMeaning.{wave_vector}
use Rattle.irr_close.specs.StandsFor.{stands_for}
use Rattle.irr_cocycle.specs.SubgroupTable.{IsOrderAt}
use Rattle.irr_close.proofs.Bareness.{first_of}
use Rattle.irr_line.proofs.Tables.{line_order_at, line_order-positive}
use Rattle.irr_little.specs.Line.{line_points}
use Rattle.irr_little.specs.Steps.{IsWholeMultiple}
use Rattle.irr_little.proofs.LineTables.{before, length-before}
use Rattle.irr_little.proofs.StepNumbers.{order_multiple}
use Rattle.irr_little.proofs.line.line_group.Goals as goal

pub line_places-requires-clause-positive : goal.line_places-requires-clause-positive
line_places-requires-clause-positive c = line_order-positive (stands_for c.args.group.now)
    (line_points (before c.args.points.now) c.args.points.now (first_of c.args.points.now c.requires.points)) c.in_ok-order.order
    (c.in_ok-order.ensures.order (before c.args.points.now) (first_of c.args.points.now c.requires.points) (length-before c.args.points.now c.requires.points))

pub line_places-requires-clause-multiples : goal.line_places-requires-clause-multiples
line_places-requires-clause-multiples c = λ i d l.
    let size = length-before c.args.points.now c.requires.points in
    let b : i < suc (before c.args.points.now) = subst (λ m. i < m) size l in
    order_multiple c.args.group.now (wave_vector (get_or c.args.points.now i d)) c.in_ok-order.order
    (subst (λ m. IsOrderAt (stands_for c.args.group.now) (wave_vector (get_or c.args.points.now m d)) c.in_ok-order.order) (to_nat-from_nat (suc (before c.args.points.now)) i b)
    (line_order_at (stands_for c.args.group.now) (line_points (before c.args.points.now) c.args.points.now d) c.in_ok-order.order
    (c.in_ok-order.ensures.order (before c.args.points.now) d size) (from_nat (suc (before c.args.points.now)) i b)))

pub returns-clause-accepted : goal.returns-clause-accepted
returns-clause-accepted c = subst (λ m. m ≤ 12000) (sym c.in_ok-t.ensures.order) c.in_ok-order.ensures.within
