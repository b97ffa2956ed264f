-- No vector so far is the one that is sought.
use Rattle.std.proofs.Common.{◌≡◌, ℕ, ◌<◌}
use Rattle.std.specs.List.{HoldsAt}
use Rattle.irr_rat.specs.VectorMeaning.{vector}
use Rattle.irr_close.proofs.centring.has.Given as goal

abbrev pub invariant-loop-c : goal.invariant-loop-c
invariant-loop-c l = (j : ℕ) → j < l.c-index → HoldsAt (λ c. ¬ (vector c ≡ vector l.v)) l.centrings j
