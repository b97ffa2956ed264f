-- None of the numbers so far.
use Rattle.std.proofs.Common.{ℕ, ◌<◌, slice_index}
use Rattle.irr_site.specs.Products.{IsRotationProduct}
use Rattle.irr_site.proofs.orbits.is_reached.Given as goal

abbrev pub invariant-loop-place : goal.invariant-loop-place
invariant-loop-place l = (n : ℕ) → n < l.place-index → IsRotationProduct l.group l.i (slice_index l.places n) l.j → ⊥
