-- The terms that are left end as the whole does.
use Rattle.std.proofs.Common.{◌≡◌, ◌+◌, List, ◌++◌, length}
use Rattle.irr_token.specs.Token.{Token}
use Rattle.irr_token.specs.Spelling.{AreSpelled}
use Rattle.irr_triplet.specs.WrittenTriplet.{Term, later_tokens, AreDistinct}
use Rattle.irr_triplet.specs.WrittenTerms.{HaveDigits, IsBehindComponent}
use Rattle.irr_triplet.proofs.SlotReading.{Progress}
use Rattle.irr_triplet.proofs.slots.later_terms.Given as goal

abbrev pub invariant-loop-left : goal.invariant-loop-left
invariant-loop-left l = (l.left.place + length l.left.text.now ≡ l.rest.place + length l.rest.text.now) × HaveDigits l.all
    × ((ts : List Term) (tail : List Token) → AreDistinct ts → IsBehindComponent tail → AreSpelled l.rest.place (later_tokens ts ++ tail) l.rest.text.now
    → Progress l.slots l.all l.left.place l.left.text.now ts tail)

abbrev pub decreases-loop-left : goal.decreases-loop-left
decreases-loop-left l = length l.left.text.now
