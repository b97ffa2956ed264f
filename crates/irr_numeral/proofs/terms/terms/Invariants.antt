-- The text is read as far as the terms so far.
use Rattle.std.proofs.Common.{length}
use Rattle.irr_numeral.proofs.Splits.{IsReadTo}
use Rattle.irr_numeral.proofs.terms.terms.Given as goal

abbrev pub invariant-loop-text : goal.invariant-loop-text
invariant-loop-text l = IsReadTo l.text l.terms.items l.rest

abbrev pub decreases-loop-text : goal.decreases-loop-text
decreases-loop-text l = length l.rest
