-- The columns so far are those of the multiple.
use Rattle.irr_mono.proofs.Multiples.{AreMultiple}
use Rattle.irr_mono.proofs.monomial.Mono.times_power.Given as goal

abbrev pub invariant-loop-column : goal.invariant-loop-column
invariant-loop-column l = AreMultiple l.order.n l.e l.self.place.items l.self.exp.items l.column l.place.items l.exp.items
