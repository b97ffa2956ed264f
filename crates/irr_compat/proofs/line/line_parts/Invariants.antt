-- The parts of the members so far.
use Rattle.std.proofs.Common.{◌≡◌, ◌≤◌, ℕ, [], ◌++◌}
use Rattle.irr_algebra.specs.Fin.{Fin, to_nat}
use Rattle.irr_algebra.specs.Action.{HasDimension}
use Rattle.irr_algebra.specs.Matrix.{trace}
use Rattle.irr_theory.specs.FactorSystem.{Representation}
use Rattle.irr_theory.specs.Representations.{Representations}
use Rattle.irr_space.specs.PhaseTable.{phases_at}
use Rattle.irr_rep.specs.Twisted.{phase_table}
use Rattle.irr_char.specs.Characters.{IsRowOf}
use Rattle.irr_compat.specs.Parts.{AreCharactersOn, part_of}
use Rattle.irr_compat.proofs.Gathering.{first_gathered}
use Rattle.irr_compat.proofs.line.line_parts.Given as goal

abbrev pub invariant-loop-j : goal.invariant-loop-j
invariant-loop-j g l = (L : Representations (phases_at (phase_table l.line))) → AreCharactersOn g.S.Scalar.order_of g.S.Scalar.value (phase_table l.line) L l.members
    → (d : ℕ) (A : Representation (phases_at (phase_table l.line)) d) → (d ≤ 48) → IsRowOf g.S.Scalar.order_of g.S.Scalar.value (phase_table l.line).order (λ a. trace (A.at a)) l.row
    → (q : Fin L.count → ℕ) → ((j : Fin L.count) → HasDimension (L.member j).at A.at (q j))
    → l.parts.items ≡ [] ++ first_gathered l.j (λ j. part_of (to_nat j) (q j) (L.size j))
