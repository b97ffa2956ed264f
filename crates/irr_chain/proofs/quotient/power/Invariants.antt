-- The power so far.
use Rattle.std.proofs.Common.{◌≡◌, ◌<◌}
use Rattle.irr_algebra.specs.Fin.{Fin, to_nat}
use Rattle.irr_rep.specs.Twisted.{phase_table, place_count}
use Rattle.irr_chain.specs.Quotient.{power}
use Rattle.irr_chain.proofs.quotient.power.Given as goal

abbrev pub invariant-loop-e : goal.invariant-loop-e
invariant-loop-e l = record {
  within : l.power < place_count l.t;
  is_power : (q : Fin (place_count l.t)) → to_nat q ≡ l.i → l.power ≡ to_nat (power (phase_table l.t) q l._e);
}
