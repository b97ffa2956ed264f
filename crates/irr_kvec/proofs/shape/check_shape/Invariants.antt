-- The bytes so far lead to the front.
use Rattle.std.proofs.Common.{◌≡◌, Some, take}
use Rattle.irr_grammar.proofs.Recognisers.{state_after}
use Rattle.irr_token.specs.declared.kind.Kind.TheVariants.{Mark}
use Rattle.irr_kvec.specs.declared.shape.Part.TheVariants.{First}
use Rattle.irr_kvec.specs.declared.shape.Front.TheVariants.{Start}
use Rattle.irr_kvec.proofs.WaveRecogniser.{wave_recogniser}
use Rattle.irr_kvec.proofs.shape.check_shape.Given as goal

abbrev pub invariant-loop-place : goal.invariant-loop-place
invariant-loop-place l = state_after wave_recogniser (Start First, Mark) (take l.place l.text) ≡ Some (l.front, l.last)
