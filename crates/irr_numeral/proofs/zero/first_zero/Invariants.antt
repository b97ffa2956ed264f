-- None of the terms so far has the denominator 0.
use Rattle.std.proofs.Common.{ℕ, ◌<◌, get_or}
use Rattle.irr_numeral.specs.declared.terms.Written.{Written}
use Rattle.irr_numeral.specs.TermPlaces.{HasZero, written_term}
use Rattle.irr_numeral.proofs.zero.first_zero.Given as goal

abbrev pub invariant-loop-term : goal.invariant-loop-term
invariant-loop-term l = (k : ℕ) (d : Written) → k < l.term-index → ¬ (HasZero (written_term (get_or l.terms k d)))
