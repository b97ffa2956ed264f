-- The character.
use Rattle.std.proofs.Common.{sym, ◌∙◌}
use Rattle.irr_algebra.proofs.Homomorphisms.{map-trace}
use Rattle.irr_number.specs.Lift.{lift}
use Rattle.irr_number.proofs.Lifts.{lift_self}
use Rattle.irr_algebra.specs.Matrix.{trace}
use Rattle.irr_theory.specs.Scalars.{map_family}
use Rattle.irr_space.specs.PhaseTable.{phases_at}
use Rattle.irr_climb.proofs.MemberTraces.{character_row, traces_fit}
use Rattle.irr_site.proofs.characters.small_character.Goals as goal

pub character-requires-clause-sizes : goal.character-requires-clause-sizes
character-requires-clause-sizes g c =
    let r = c.requires in
    traces_fit (λ x. g.met.S.Scalar.admitted_limited (g.S.Scalar.order_of x) (g.met.S.Scalar.order_admitted x))
    r.1.order (phases_at r.1) r.2 r.4 r.5
    c.args.f.now r.6 r.7

pub returns : goal.returns
unfolding map_family
returns g c h T v d D is =
    let row = character_row T.order (phases_at T) D c.args.f.now is c.in_ok-row.row.items c.in_ok-row.ensures in
    record {
      size = is.size;
      row = record {
        count = row.count;
        orders = row.orders;
        numbers_at = λ i. row.numbers_at i ∙ sym (lift_self T.order T.order_positive v (trace (D.at i)))
            ∙ map-trace (lift T.order T.order T.order_positive v) (D.at i);
      };
    }
