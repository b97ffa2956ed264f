-- The first numbers are the same.
use Rattle.std.proofs.Common.{ℕ, ◌≡◌, ◌<◌, map}
use Rattle.irr_algebra.specs.Fin.{Fin, to_nat}
use Rattle.irr_char.specs.Characters.{IsSmallRow}
use Rattle.irr_char.specs.Rows.{row_of}
use Rattle.irr_climb.proofs.turns.is_same_row.Given as goal

abbrev pub invariant-loop-i : goal.invariant-loop-i
invariant-loop-i g l = (M h : ℕ) → IsSmallRow g.S.Scalar.order_of g.S.Scalar.value M h l.left
    → IsSmallRow g.S.Scalar.order_of g.S.Scalar.value M h l.right
    → (i : Fin h) → to_nat i < l.i → row_of M (map (g.S.Scalar.value M) l.left) i ≡ row_of M (map (g.S.Scalar.value M) l.right) i
