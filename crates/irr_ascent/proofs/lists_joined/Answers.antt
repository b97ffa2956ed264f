-- Lists one after another.
use Rattle.irr_ascent.proofs.Places.{append-count, append-before, append-after, on_last-widen, on_last-last, to_nat-widen, to_nat-last, widen_or_last}
use Rattle.irr_ascent.proofs.SameLists.{append_assoc, append_none, listed_more, listed_none, same_list}
use Rattle.irr_ascent.proofs.Union.{joined_grown, joined_union}
use Rattle.irr_ascent.proofs.lists_joined.Goals as goal

pub returns : goal.returns
returns g c = record {
  union = λ T n over. joined_union n over;
  grown = λ T n over B. joined_grown n over B;
  kept = λ T n over B l. on_last-widen over B l;
  added = λ T n over B. on_last-last over B;
  places = λ n l. widen_or_last n l;
  numbers = λ n l. (to_nat-widen l, to_nat-last n);
  count = λ T A B. append-count A B;
  before = λ T A B m i e. append-before A B m i e;
  after = λ T A B m j e. append-after A B m j e;
  same = λ T A B e h. same_list A B e h;
  grouped = λ T A B C. append_assoc A B C;
  nothing = λ T A. append_none A;
  unlisted = λ T d E. listed_none d E;
  pushed = λ T n d E D. listed_more d E D;
}
