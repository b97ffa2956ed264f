-- None of the places so far.
use Rattle.std.proofs.Common.{ℕ, ◌<◌, slice_index}
use Rattle.irr_site.specs.Rests.{IsConjugate}
use Rattle.irr_site.proofs.rests.rest_place.Given as goal

abbrev pub invariant-loop-n : goal.invariant-loop-n
invariant-loop-n l = (n : ℕ) → n < l.n → IsConjugate l.group l.op l.carrier (slice_index l.places n) → ⊥
