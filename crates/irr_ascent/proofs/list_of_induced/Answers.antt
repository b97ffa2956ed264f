-- Induced families as lists over a member.
use Rattle.irr_ascent.proofs.Members.{induced_over, none_over, induced_by_matrix}
use Rattle.irr_ascent.proofs.list_of_induced.Goals as goal

pub returns : goal.returns
returns g c = record {
  list = λ T H Q L turn l e E n h i. induced_over Q L turn l E n h i;
  none = λ T H Q L turn l n h. none_over Q L turn l n h;
  by_matrix = λ T H Q d D E s. induced_by_matrix Q D E s;
}
