-- The bytes so far lead to the front, and a text completes it.
use Rattle.std.proofs.Common.{◌≡◌, Some, take, true}
use Rattle.irr_grammar.proofs.Recognisers.{state_after}
use Rattle.irr_token.specs.declared.kind.Kind.TheVariants.{Mark}
use Rattle.irr_triplet.specs.declared.shape.Front.TheVariants.{Before}
use Rattle.irr_triplet.proofs.TripletScanner.{is_live}
use Rattle.irr_triplet.proofs.TripletRecogniser.{triplet_recogniser}
use Rattle.irr_triplet.proofs.shape.check_shape.Given as goal

abbrev pub invariant-loop-place : goal.invariant-loop-place
invariant-loop-place l = (state_after triplet_recogniser (Before, Mark) (take l.place l.text) ≡ Some (l.front, l.last)) × (is_live l.front ≡ true)
