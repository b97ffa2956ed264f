-- The first places are split.
use Rattle.std.proofs.Common.{ℕ, ◌≡◌, ◌<◌, length, slice_index}
use Rattle.irr_rep.specs.Twisted.{phase_table}
use Rattle.irr_climb.specs.Splits.{IsSplit}
use Rattle.irr_climb.proofs.splits.split_all.Given as goal

abbrev pub invariant-loop-x : goal.invariant-loop-x
invariant-loop-x l = record {
  exponents : length l.exponents.items ≡ l.x;
  parts : length l.parts.items ≡ l.x;
  splits : (x : ℕ) → x < l.x → IsSplit (phase_table l.t) l.members l.g l.p x (slice_index l.exponents.items x) (slice_index l.parts.items x);
}
