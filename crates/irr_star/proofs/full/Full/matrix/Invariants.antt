-- The entries so far.
use Rattle.std.proofs.Common.{ℕ, ◌+◌, ◌*◌}
use Rattle.std.specs.Int.{◌∣◌}
use Rattle.irr_algebra.specs.Matrix.{Matrix}
use Rattle.irr_algebra.specs.Pair.{times}
use Rattle.irr_number.specs.Number.{numbers}
use Rattle.irr_theory.specs.FactorSystem.{Representation}
use Rattle.irr_space.specs.Operation.{Operation, WaveVector}
use Rattle.irr_space.specs.PhaseTable.{phases_over}
use Rattle.irr_seitz.specs.OperationMeaning.{operation}
use Rattle.irr_seitz.specs.PhaseMeaning.{sign_of}
use Rattle.irr_mat.proofs.Entries.{Filled}
use Rattle.irr_close.specs.StandsFor.{stands_for}
use Rattle.irr_close.specs.declared.group.Group.{Group}
use Rattle.irr_full.specs.Star.{Star}
use Rattle.irr_full.specs.Full.{IsFullOf}
use Rattle.irr_star.specs.Induced.{IsInduced}
use Rattle.irr_star.proofs.full.Full.matrix.Given as goal

abbrev pub invariant-loop-j : goal.invariant-loop-j
invariant-loop-j g l = (group : Group) (k : WaveVector) (U : Star (sign_of group.phase) (stands_for group) k) (M : ℕ)
    (v : U.table.order ∣ M)
    (d : ℕ) (D : Representation (phases_over U.table M v) d) → IsInduced group U M v D l.self
    → (A : Operation → Matrix (numbers M) (times U.arms d) (times U.arms d)) → IsFullOf U M v D A
    → Filled g.S.Scalar.order_of g.S.Scalar.value M (A (operation l.op)) (l.i * times U.arms d + l.j) l.entries.items

abbrev pub invariant-loop-i : goal.invariant-loop-i
invariant-loop-i g l = (group : Group) (k : WaveVector) (U : Star (sign_of group.phase) (stands_for group) k) (M : ℕ)
    (v : U.table.order ∣ M)
    (d : ℕ) (D : Representation (phases_over U.table M v) d) → IsInduced group U M v D l.self
    → (A : Operation → Matrix (numbers M) (times U.arms d) (times U.arms d)) → IsFullOf U M v D A
    → Filled g.S.Scalar.order_of g.S.Scalar.value M (A (operation l.op)) (l.i * times U.arms d) l.entries.items
