-- The power of g, and that no power before it splits the place.
use Rattle.std.proofs.Common.{ℕ, ◌≡◌, ◌<◌}
use Rattle.irr_algebra.specs.Fin.{Fin, to_nat}
use Rattle.irr_rep.specs.Twisted.{phase_table, place_count}
use Rattle.irr_chain.specs.Quotient.{power}
use Rattle.irr_climb.specs.Splits.{IsSplit}
use Rattle.irr_climb.proofs.splits.split.Given as goal

abbrev pub invariant-loop-e : goal.invariant-loop-e
invariant-loop-e l = record {
  within : l.power < place_count l.t;
  is_power : (a : Fin (place_count l.t)) → to_nat a ≡ l.g → l.power ≡ to_nat (power (phase_table l.t) a l.e);
  none : (e n : ℕ) → e < l.e → IsSplit (phase_table l.t) l.members l.g l.p l.x e n → ⊥;
}
