-- The least of the vectors that the translations so far give.
use Rattle.std.proofs.Common.{ℕ, ◌<◌}
use Rattle.std.specs.List.{All}
use Rattle.std.specs.Int.{◌∣◌}
use Rattle.irr_seitz.specs.OperationMeaning.{operation}
use Rattle.irr_close.proofs.LeastVectors.{IsLeastAmong}
use Rattle.irr_close.proofs.canonical.least_vector.Given as goal

abbrev pub invariant-loop-centring : goal.invariant-loop-centring
invariant-loop-centring l = record {
  least : IsLeastAmong l.centrings (operation l.op) l.least l.centring-index;
  divides : (D : ℕ) → 0 < D → l.op.den ∣ D → All (λ c. c.den ∣ D) l.centrings → l.least.den ∣ D;
}
