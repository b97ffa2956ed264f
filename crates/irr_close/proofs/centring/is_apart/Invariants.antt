-- The vectors differ by none of the translations so far.
use Rattle.std.proofs.Common.{ℕ, ◌<◌}
use Rattle.std.specs.List.{HoldsAt}
use Rattle.irr_algebra.specs.Matrix.{◌⊖◌}
use Rattle.irr_rat.specs.VectorMeaning.{vector}
use Rattle.irr_close.specs.Whole.{IsWholeVector}
use Rattle.irr_close.proofs.centring.is_apart.Given as goal

abbrev pub invariant-loop-centring : goal.invariant-loop-centring
invariant-loop-centring l = (j : ℕ) → j < l.centring-index → HoldsAt (λ c. ¬ (IsWholeVector ((vector l.a ⊖ vector l.b) ⊖ vector c))) l.centrings j
