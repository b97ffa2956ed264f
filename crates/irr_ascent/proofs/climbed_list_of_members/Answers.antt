-- The lists over all members.
use Rattle.irr_ascent.specs.Joined.{joined}
use Rattle.irr_ascent.proofs.Climbed.{lists_exist, union_climb, union_full}
use Rattle.irr_ascent.proofs.Union.{joined_union}
use Rattle.irr_ascent.proofs.climbed_list_of_members.Goals as goal

pub returns : goal.returns
returns g c = record {
  union = λ T H Q L turn over M s f t h u.
      (union_climb g.N.InField.field Q s L f turn t over h M u, union_full g.N.InField.field Q s L f turn t over h M u);
  exists = λ T H Q L s f c l. lists_exist g.N.InField.field Q s L f c l;
  climb = λ T H Q L turn over s f t h. union_climb g.N.InField.field Q s L f turn t over h (joined L.count over) (joined_union L.count over);
  full = λ T H Q L turn over s f t h. union_full g.N.InField.field Q s L f turn t over h (joined L.count over) (joined_union L.count over);
}
