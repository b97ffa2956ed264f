-- The places so far are those of the line group so far.
use Rattle.std.proofs.Common.{◌≡◌, ℕ, suc, length}
use Rattle.irr_kvec.specs.declared.wave.Wave.{Wave}
use Rattle.irr_little.specs.Places.{AreListed}
use Rattle.irr_little.specs.Line.{line_points, IsLinePlace}
use Rattle.irr_little.proofs.line.line_places.Given as goal

abbrev pub invariant-loop-place : goal.invariant-loop-place
invariant-loop-place l = (n : ℕ) (d : Wave) → length l.points ≡ suc n → AreListed (IsLinePlace l.group (line_points n l.points d)) l.place l.places.items
