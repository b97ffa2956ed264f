-- The rows so far.
use Rattle.std.proofs.Common.{◌≡◌, ℕ, [], ◌∷◌, ◌++◌, map}
use Rattle.irr_algebra.specs.Fin.{Fin, to_nat}
use Rattle.irr_algebra.specs.Action.{HasDimension}
use Rattle.irr_theory.specs.Representations.{Representations}
use Rattle.irr_space.specs.PhaseTable.{phases_at}
use Rattle.irr_rep.specs.Twisted.{phase_table}
use Rattle.irr_compat.specs.Parts.{AreCharactersOn, parts_of}
use Rattle.irr_compat.specs.Rows.{AreReadings, member_row, row_view}
use Rattle.irr_compat.proofs.Gathering.{first_gathered}
use Rattle.irr_compat.proofs.points.push_rows.Given as goal

abbrev pub invariant-loop-m : goal.invariant-loop-m
invariant-loop-m g l = (L : Representations (phases_at (phase_table l.line)))
    → AreCharactersOn g.S.Scalar.order_of g.S.Scalar.value (phase_table l.line) L l.members
    → (e : AreReadings g.S.Scalar.order_of g.S.Scalar.value (phase_table l.line) l.turns l.characters) (q : Fin e.members.count → Fin L.count → ℕ)
    → ((m : Fin e.members.count) (j : Fin L.count) → HasDimension (L.member j).at (e.reading m).at (q m j))
    → map row_view l.rows.items ≡ map row_view l.fn.rows.items ++ first_gathered l.m (λ m.
    member_row l.point (to_nat m) (e.members.size m) (parts_of (q m) L.size) ∷ [])
