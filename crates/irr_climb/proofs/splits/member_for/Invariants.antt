-- None of the first members has the product.
use Rattle.std.proofs.Common.{ℕ, ◌≡◌, ◌<◌, slice_index}
use Rattle.irr_algebra.specs.Fin.{Fin, to_nat}
use Rattle.irr_rep.specs.Twisted.{phase_table, place_count}
use Rattle.irr_climb.proofs.splits.member_for.Given as goal

abbrev pub invariant-loop-n : goal.invariant-loop-n
invariant-loop-n l = record {
  none : (n : ℕ) → n < l.n → (a b : Fin (place_count l.t)) → to_nat a ≡ l.left → to_nat b ≡ slice_index l.members n
      → to_nat ((phase_table l.t).product a b) ≡ l.x → ⊥;
}
