-- The halves so far.
use Rattle.std.proofs.Common.{◌≡◌, ℕ, get_or}
use Rattle.irr_number.specs.Number.{numbers}
use Rattle.irr_side.specs.ArmTraces.{AreEach}
use Rattle.irr_power.specs.Halves.{ArePairs, IsHalf}
use Rattle.irr_power.proofs.halves.half_differences.Given as goal

abbrev pub invariant-loop-i : goal.invariant-loop-i
invariant-loop-i g l = (n : ℕ) → ArePairs g.S.Scalar.order_of g.S.Scalar.value n l.xs l.ys
    → AreEach (λ k (z : g.row.S.Denot). (x y : g.row.S.Denot) → (g.S.Scalar.order_of z ≡ n)
    × IsHalf n ((numbers n).add (g.S.Scalar.value n (get_or l.xs k x)) ((numbers n).neg (g.S.Scalar.value n (get_or l.ys k y))))
    (g.S.Scalar.value n z)) l.i l.row.items
