-- The number is none of the powers so far.
use Rattle.std.proofs.Common.{ℕ, ◌≡◌, ◌<◌}
use Rattle.irr_number.specs.Number.{root_power}
use Rattle.irr_mono.proofs.columns.exponent_of.Given as goal

abbrev pub invariant-loop-exponent : goal.invariant-loop-exponent
invariant-loop-exponent g l = (e : ℕ) → e < l.exponent → g.S.Scalar.value l.order.n l.x ≡ root_power l.order.n e → ⊥
