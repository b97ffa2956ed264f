-- The part is what is left of the place behind a power of g, and was in none of the cosets so far.
use Rattle.std.proofs.Common.{◌≡◌, ◌<◌}
use Rattle.irr_algebra.specs.Fin.{Fin, to_nat}
use Rattle.irr_rep.specs.Twisted.{phase_table, place_count}
use Rattle.irr_chain.specs.Quotient.{power, Cover}
use Rattle.irr_chain.specs.Marks.{Marked}
use Rattle.irr_chain.proofs.quotient.is_covered.Given as goal

abbrev pub invariant-loop-e : goal.invariant-loop-e
invariant-loop-e l = record {
  within : l.part < place_count l.t;
  is_part : (a b : Fin (place_count l.t)) → to_nat a ≡ l.g → to_nat b ≡ l.i
      → l.part ≡ to_nat ((phase_table l.t).product ((phase_table l.t).opposite (power (phase_table l.t) a l._e)) b);
  none : (a b : Fin (place_count l.t)) → to_nat a ≡ l.g → to_nat b ≡ l.i → Cover (phase_table l.t) (Marked l.inner) l._e a b → ⊥;
}
