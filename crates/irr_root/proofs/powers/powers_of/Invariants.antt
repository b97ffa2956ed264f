-- The powers so far.
use Rattle.std.proofs.Common.{◌≡◌, length, ◌-◌}
use Rattle.irr_algebra.specs.Fin.{Fin, to_nat}
use Rattle.irr_rep.specs.Twisted.{phase_table, place_count}
use Rattle.irr_root.proofs.Walks.{Walked}
use Rattle.irr_root.proofs.powers.powers_of.Given as goal

abbrev pub invariant-loop-place : goal.invariant-loop-place
invariant-loop-place l = (p : Fin (place_count l.t)) → to_nat p ≡ l.i → Walked (phase_table l.t) p l.places.items l.exponents.items l.place l.exponent

abbrev pub decreases-loop-place : goal.decreases-loop-place
decreases-loop-place l = (phase_table l.t).order - length l.places.items
