-- None of the numbers so far is a root.
use Rattle.std.proofs.Common.{ℕ, ◌≡◌, ◌<◌, get_or}
use Rattle.irr_number.specs.Number.{numbers}
use Rattle.irr_clifford.specs.Roots.{number_power}
use Rattle.irr_root.proofs.solutions.first_root.Given as goal

abbrev pub invariant-loop-r : goal.invariant-loop-r
invariant-loop-r g l =
    let n = g.S.Scalar.order_of l.factor in
    (a : ℕ) → a < l.r-index → (x : g.row.S.Denot) → x ≡ get_or l.candidates a x
    → (numbers n).mul (g.S.Scalar.value n l.factor) ((numbers n).mul (g.S.Scalar.value n x) (number_power (numbers n) (g.S.Scalar.value n x) l.q)) ≡ g.S.Scalar.value n l.target → ⊥
