-- The earlier rows so far are others.
use Rattle.std.proofs.Common.{ℕ, ◌≡◌, ◌<◌, slice_index}
use Rattle.irr_mono.proofs.tests.is_new.Given as goal

abbrev pub invariant-loop-earlier : goal.invariant-loop-earlier
invariant-loop-earlier l = (j : ℕ) → j < l.earlier → slice_index l.place j ≡ slice_index l.place l.column → ⊥
