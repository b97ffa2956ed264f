-- The character, and its numbers over the other order.
use Rattle.std.proofs.Common.{sym, subst}
use Rattle.irr_algebra.specs.Matrix.{trace}
use Rattle.irr_space.specs.PhaseTable.{phases_at}
use Rattle.irr_char.specs.Characters.{IsRowOf}
use Rattle.irr_climb.proofs.MemberTraces.{character_row, traces_fit}
use Rattle.irr_mult.proofs.LiftedRows.{lifted_character, trace_row}
use Rattle.irr_mult.proofs.lifting.small_character.Goals as goal

pub character-requires-clause-sizes : goal.character-requires-clause-sizes
character-requires-clause-sizes g c =
    let r = c.requires in
    traces_fit (λ x. g.met.S.Scalar.admitted_limited (g.S.Scalar.order_of x) (g.met.S.Scalar.order_admitted x))
    r.1.order (phases_at r.1) r.2 r.5 r.6
    c.args.f.now r.7 r.8

pub lifted-requires : goal.lifted-requires
lifted-requires g c =
    let r = c.requires in (
      r.1.order,
      r.0,
      r.3,
      trace_row r.1 r.4 r.5 c.args.f.now r.7 r.6 r.8 c.in_ok-row.row.items c.in_ok-row.ensures c.as_slice.result.now
          c.as_slice.ensures.value,
    )

pub returns : goal.returns
returns g c h T v d D is = record {
  size = is.size;
  row = lifted_character T d D c.args.f.now is c.args.order.now.n v c.as_slice.result.now
      c.in_ok-numbers.numbers.items c.in_ok-numbers.ensures
      (subst (IsRowOf {h = h} g.S.Scalar.order_of g.S.Scalar.value T.order (λ i. trace (D.at i)))
      (sym c.as_slice.ensures.value)
      (character_row T.order (phases_at T) D c.args.f.now is c.in_ok-row.row.items c.in_ok-row.ensures));
}
