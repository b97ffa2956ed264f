-- The coefficients so far have been divided.
use Rattle.std.proofs.Common.{◌≡◌, pos, ◌++◌, map, take, drop, int_div}
use Rattle.irr_sparse.proofs.lowest.divide.Given as goal

abbrev pub invariant-loop-term : goal.invariant-loop-term
invariant-loop-term l = l.terms ≡ map (λ t. (t.0, int_div t.1 (pos l.fn.divisor))) (take l.term-index l.initial.terms) ++ drop l.term-index l.initial.terms
