-- The bytes so far lead to the front.
use Rattle.std.proofs.Common.{◌≡◌, Some, take}
use Rattle.irr_grammar.proofs.Recognisers.{state_after}
use Rattle.irr_setting_text.specs.declared.shape.Stage.TheVariants.{Start}
use Rattle.irr_setting_text.specs.LineFront.{state_of}
use Rattle.irr_setting_text.proofs.LineRecogniser.{line_recogniser}
use Rattle.irr_setting_text.proofs.shape.check_shape.Given as goal

abbrev pub invariant-loop-place : goal.invariant-loop-place
invariant-loop-place l = state_after (line_recogniser l.word l.count) (record { stage = Start; word = l.word; left = l.count }) (take l.place l.line) ≡ Some (state_of l.front)
