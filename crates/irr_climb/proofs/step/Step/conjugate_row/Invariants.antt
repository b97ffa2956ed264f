-- The first numbers of the conjugate's character.
use Rattle.std.proofs.Common.{ℕ, map}
use Rattle.irr_algebra.specs.Fin.{Fin}
use Rattle.irr_number.specs.Number.{numbers}
use Rattle.irr_level.specs.Scalar.{conjugate_exponent, phase_number}
use Rattle.irr_rep.specs.Twisted.{phase_table, place_count}
use Rattle.irr_char.specs.Characters.{IsSmallRow}
use Rattle.irr_char.specs.Rows.{row_of}
use Rattle.irr_climb.specs.Steps.{IsStep}
use Rattle.irr_climb.proofs.RowMade.{NumbersSoFar}
use Rattle.irr_climb.proofs.step.Step.conjugate_row.Given as goal

abbrev pub invariant-loop-i : goal.invariant-loop-i
invariant-loop-i g l = (M : ℕ) (step : IsStep M l.self) → IsSmallRow g.S.Scalar.order_of g.S.Scalar.value M (place_count l.self.inner) l.row
    → NumbersSoFar g.S.Scalar.order_of g.S.Scalar.value M
    (λ (p : Fin (place_count l.self.inner)). (numbers M).mul
    (phase_number (phase_table l.self.outer) M (conjugate_exponent (phase_table l.self.outer) (step.part.place p) step.quotient.generator
    (step.part.place (step.quotient.conj p)))) (row_of M (map (g.S.Scalar.value M) l.row) (step.quotient.conj p))) l.i l.conjugate.items
