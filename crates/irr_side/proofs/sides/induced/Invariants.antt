-- The full representations so far.
use Rattle.std.proofs.Common.{ℕ, ◌≡◌, ◌<◌, ◌≤◌, length, get_or}
use Rattle.irr_rep.specs.declared.family.Family.{Family}
use Rattle.irr_star.specs.declared.full.Full.{Full}
use Rattle.irr_side.specs.Sides.{IsInducedFrom}
use Rattle.irr_side.proofs.sides.induced.Given as goal

abbrev pub invariant-loop-family : goal.invariant-loop-family
invariant-loop-family g l = record {
  count : length l.fulls.items ≡ l.family-index;
  within : l.family-index ≤ length l.families;
  each : (n : ℕ) (x : Full g.row.S.Denot g.S.Scalar) → n < l.family-index → (f : Family g.row.S.Denot g.S.Scalar)
      → IsInducedFrom l.group l.star.arms.items l.t (get_or l.families n f) (get_or l.fulls.items n x);
}
