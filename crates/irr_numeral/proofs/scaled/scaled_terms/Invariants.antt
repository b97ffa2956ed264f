-- The scaled terms so far.
use Rattle.std.proofs.Common.{◌≡◌, take, map}
use Rattle.irr_numeral.specs.ScaledTerm.{scaled_term}
use Rattle.irr_numeral.specs.TermPlaces.{written_term}
use Rattle.irr_numeral.proofs.scaled.scaled_terms.Given as goal

abbrev pub invariant-loop-term : goal.invariant-loop-term
invariant-loop-term l = l.scaled.items ≡ map (scaled_term l.den) (take l.term-index (map written_term l.terms))
