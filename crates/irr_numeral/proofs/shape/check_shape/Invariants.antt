-- The bytes so far lead to the front.
use Rattle.std.proofs.Common.{◌≡◌, Some, take}
use Rattle.irr_grammar.proofs.Recognisers.{state_after}
use Rattle.irr_numeral.specs.declared.shape.Front.TheVariants.{Start}
use Rattle.irr_numeral.proofs.NumberRecogniser.{number_recogniser}
use Rattle.irr_numeral.proofs.shape.check_shape.Given as goal

abbrev pub invariant-loop-place : goal.invariant-loop-place
invariant-loop-place l = state_after number_recogniser Start (take l.place l.text) ≡ Some l.front
