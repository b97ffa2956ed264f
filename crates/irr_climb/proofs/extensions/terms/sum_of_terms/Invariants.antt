-- The sum of the first terms.
use Rattle.std.proofs.Common.{◌≡◌}
use Rattle.irr_algebra.specs.Fin.{Fin, to_nat}
use Rattle.irr_rep.specs.Defects.{IsMatrix}
use Rattle.irr_rep.specs.Twisted.{place_count}
use Rattle.irr_climb.specs.Extensions.{HasExtension, trace_term}
use Rattle.irr_climb.proofs.ExtensionSums.{first_terms}
use Rattle.irr_climb.proofs.extensions.terms.sum_of_terms.Given as goal

abbrev pub invariant-loop-m : goal.invariant-loop-m
invariant-loop-m g l = (e : HasExtension l.order.n l.step l.family l.traces) (p : Fin (place_count l.step.outer)) → to_nat p ≡ l.x
    → IsMatrix l.order.n e.d (first_terms l.order.n (trace_term e.is e.D e.E p) l.m) l.sum
