-- The least common denominator of the terms so far.
use Rattle.std.proofs.Common.{take, map, ◌≤◌}
use Rattle.irr_numeral.specs.declared.limits.TheConstants.{DENOMINATOR_LIMIT}
use Rattle.irr_numeral.specs.TermPlaces.{written_term}
use Rattle.irr_numeral.specs.WrittenValue.{IsCommonDenominator}
use Rattle.irr_numeral.proofs.denominator.common_denominator.Given as goal

abbrev pub invariant-loop-term : goal.invariant-loop-term
invariant-loop-term l = IsCommonDenominator (take l.term-index (map written_term l.terms)) l.common × (l.common ≤ DENOMINATOR_LIMIT)
