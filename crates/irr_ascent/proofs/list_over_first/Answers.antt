-- Lists over the first members.
use Rattle.irr_ascent.proofs.Climbed.{union_climb, union_full}
use Rattle.irr_ascent.proofs.First.{first_start, first_step, first_over}
use Rattle.irr_ascent.proofs.list_over_first.Goals as goal

pub returns : goal.returns
returns g c = record {
  start = λ T H Q L turn. first_start Q L turn;
  step = λ T H Q L turn k l M B e h b. first_step Q L turn k l M B e h b;
  all = λ T H Q L turn M s f t h. (
    union_climb g.N.InField.field Q s L f turn t h.over (first_over Q L turn M h) M h.union,
    union_full g.N.InField.field Q s L f turn t h.over (first_over Q L turn M h) M h.union,
  );
}
