-- None of the earlier operations so far.
use Rattle.std.proofs.Common.{ℕ, ◌<◌, Contains}
use Rattle.irr_site.specs.Products.{IsRotationProduct}
use Rattle.irr_site.proofs.orbits.is_first.Given as goal

abbrev pub invariant-loop-i : goal.invariant-loop-i
invariant-loop-i l = (i b : ℕ) → i < l.i → Contains l.places b → IsRotationProduct l.group i b l.j → ⊥
