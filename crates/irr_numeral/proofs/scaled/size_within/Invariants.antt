-- The size of the terms so far.
use Rattle.std.proofs.Common.{◌≡◌, ◌≤◌, take, map}
use Rattle.irr_numeral.specs.declared.limits.TheConstants.{COEFFICIENT_LIMIT}
use Rattle.irr_numeral.specs.TermPlaces.{written_term}
use Rattle.irr_numeral.specs.WrittenValue.{written_size}
use Rattle.irr_numeral.proofs.scaled.size_within.Given as goal

abbrev pub invariant-loop-term : goal.invariant-loop-term
invariant-loop-term l = (l.size ≡ written_size l.den (take l.term-index (map written_term l.terms))) × (l.size ≤ COEFFICIENT_LIMIT)
