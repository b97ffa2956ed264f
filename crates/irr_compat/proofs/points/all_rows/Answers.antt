-- Point by point.
use Rattle.std.proofs.Common.{◌≡◌, sym, ◌∙◌, subst, ℕ, suc, ◌<◌, ◌≤◌, List, map, refl, arith}
use Rattle.irr_algebra.specs.Fin.{Fin}
use Rattle.irr_algebra.proofs.Indices.{from_nat, to_nat-from_nat, to_nat-lt}
use Rattle.irr_seitz.specs.PhaseMeaning.{sign_of}
use Rattle.irr_rep.specs.Twisted.{phase_table}
use Rattle.irr_close.specs.StandsFor.{stands_for}
use Rattle.irr_number.specs.Number.{Number}
use Rattle.irr_close.specs.declared.group.Group.{Group}
use Rattle.irr_kvec.specs.declared.wave.Wave.{Wave}
use Rattle.irr_rep.specs.declared.table.Twisted.{Twisted}
use Rattle.irr_mult.specs.declared.star.SmallCharacter.{SmallCharacter}
use Rattle.irr_compat.specs.Relations.{PointRelations}
use Rattle.irr_compat.specs.Rows.{RowView, point_rows, row_view}
use Rattle.irr_compat.specs.LineTables.{IsLineHere, here_operation, here_point}
use Rattle.irr_compat.proofs.Gathering.{IsGatheredFrom, from_none, from_more, from_all, gathered-same}
use Rattle.irr_compat.proofs.points.all_rows.Goals as goal

abbrev AreRowsAt : {S : Type 0} {order : S → ℕ} {value : (n : ℕ) → S → Number n} {group : Group} {points : List Wave} {line : Twisted}
    {members : List (SmallCharacter S)} (e : IsLineHere order value group points line members) → Fin (suc e.others) → List RowView → Type 0
AreRowsAt {group = group} {line = line} e i rows = (R : PointRelations (sign_of group.phase) (stands_for group) (here_point e) (here_operation e) (phase_table line) e.known.list i)
    × (rows ≡ point_rows R)

pub loop-i-init : goal.loop-i-init
loop-i-init g c = λ e. subst (λ rows. IsGatheredFrom (AreRowsAt e) 0 (map row_view rows)) (sym c.new-rows.ensures.items) (from_none (AreRowsAt e))

pub push_point-requires-clause-order : goal.push_point-requires-clause-order
push_point-requires-clause-order g c = c.in_ok-order.ensures ∙ c.order.ensures.order

pub loop-i-preserved : goal.loop-i-preserved
loop-i-preserved g c = λ e.
    let l : c.loop-i.i < suc e.others = subst (λ m. c.loop-i.i < m) e.count c.loop-i-test.true in
    let p = from_nat (suc e.others) c.loop-i.i l in
    let number = to_nat-from_nat (suc e.others) c.loop-i.i l in
    let made = c.in_ok-push_point.ensures e p number in
    from_more (AreRowsAt e) c.loop-i.i p number (point_rows made.0) (made.0, refl) (map row_view c.loop-i.rows.items) (map row_view c.push_point.new.rows.items) made.1
    (c.loop-i.invariant e)

pub returns : goal.returns
returns g c = λ e.
    let so = c.loop-i.invariant e in
    let done : suc e.others ≤ c.loop-i.i = (let n = e.count in omega (arith, n, c.loop-i.auto.i-end, c.loop-i-test.false)) in (
      λ i. (so.holds i (let b = to_nat-lt i in omega (arith, b, done))).0,
      from_all (AreRowsAt e) c.loop-i.i done (map row_view c.loop-i.rows.items) so
          ∙ gathered-same (suc e.others) so.lists (λ i. point_rows (so.holds i (let b = to_nat-lt i in omega (arith, b, done))).0) (λ i. (so.holds i (let b = to_nat-lt i in omega (arith, b, done))).1),
    )
