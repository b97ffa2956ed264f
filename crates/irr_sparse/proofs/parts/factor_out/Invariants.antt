-- What was taken out and what is left make up the number.
use Rattle.std.proofs.Common.{ℕ, ◌≡◌, ◌*◌, ◌^◌, ◌<◌}
use Rattle.irr_sparse.proofs.parts.factor_out.Given as goal

abbrev pub invariant-loop-rest : goal.invariant-loop-rest
invariant-loop-rest l = record {
  equal : l.number ≡ l.base * l.p * l.rest;
  power : (exponent : ℕ) × (l.base ≡ l.p ^ exponent);
  positive : 0 < l.rest;
}

abbrev pub decreases-loop-rest : goal.decreases-loop-rest
decreases-loop-rest l = l.rest
