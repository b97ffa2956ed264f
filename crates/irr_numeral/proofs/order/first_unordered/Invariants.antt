-- The exponents so far increase, and the digits are those of the last.
use Rattle.std.proofs.Common.{map}
use Rattle.irr_numeral.specs.TermPlaces.{written_term}
use Rattle.irr_numeral.proofs.ExponentOrder.{IsOrderedTo}
use Rattle.irr_numeral.proofs.order.first_unordered.Given as goal

abbrev pub invariant-loop-term : goal.invariant-loop-term
invariant-loop-term l = IsOrderedTo (map written_term l.terms) l.term-index l.last
