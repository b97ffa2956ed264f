-- The terms so far.
use Rattle.std.proofs.Common.{◌≡◌}
use Rattle.irr_cyc.specs.Form.{at}
use Rattle.irr_cyc.specs.Terms.{nonzero_terms}
use Rattle.irr_cyc.proofs.polynomials.nonzero.Given as goal

abbrev pub invariant-loop-i : goal.invariant-loop-i
invariant-loop-i l = l.terms.items ≡ nonzero_terms l.i (at l.xs)
