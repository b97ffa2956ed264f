-- The first rows are the characters of the first members.
use Rattle.std.proofs.Common.{ℕ, map}
use Rattle.irr_number.specs.Number.{numbers}
use Rattle.irr_theory.specs.FactorSystem.{FactorSystem}
use Rattle.irr_theory.specs.Representations.{Representations}
use Rattle.irr_climb.specs.Families.{AreRead}
use Rattle.irr_climb.proofs.MemberTraces.{RowsSoFar}
use Rattle.irr_climb.proofs.families.characters.Given as goal

abbrev pub invariant-loop-family : goal.invariant-loop-family
invariant-loop-family g l = (M : ℕ) (P : FactorSystem (numbers M)) (L : Representations P) → AreRead M P L l.families
    → RowsSoFar g.S.Scalar.order_of g.S.Scalar.value M P L l.family-index (map (λ row. row.items) l.rows.items)
