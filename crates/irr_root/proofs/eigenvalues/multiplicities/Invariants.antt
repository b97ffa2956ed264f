-- How often each of the numbers so far is an eigenvalue.
use Rattle.std.proofs.Common.{ℕ, ◌≡◌, ◌<◌, ◌+◌, ◌*◌, ◌/◌, length, slice_index}
use Rattle.irr_algebra.specs.Fin.{Fin}
use Rattle.irr_number.specs.Number.{numbers, root_power}
use Rattle.irr_eigen.specs.Eigenspace.{Occurs}
use Rattle.irr_eigen.specs.Power.{power}
use Rattle.irr_rep.specs.Twisted.{phase_table, place_count}
use Rattle.irr_root.specs.Characters.{IsCharacter}
use Rattle.irr_root.specs.Powers.{ArePowers}
use Rattle.irr_root.proofs.eigenvalues.multiplicities.Given as goal

abbrev pub invariant-loop-a : goal.invariant-loop-a
invariant-loop-a g l = (length l.times.items ≡ l.a)
    × ((d : IsCharacter g.S.Scalar.order_of g.S.Scalar.value (phase_table l.t) l.character) (p : Fin (place_count l.t))
    → ArePowers (phase_table l.t) p l.powers.places.items l.powers.exponents.items l.powers.turn → (b : ℕ) → b < l.a
    → Occurs (d.representation.at p) (power (numbers d.n) (root_power d.n (d.n / (phase_table l.t).order)) (l.first + b * l.step)) (slice_index l.times.items b))
