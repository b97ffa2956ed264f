-- The sums of the members so far are 0.
use Rattle.std.proofs.Common.{◌≡◌, ◌<◌}
use Rattle.irr_algebra.specs.Fin.{Fin, to_nat}
use Rattle.irr_number.specs.Number.{Number, numbers}
use Rattle.irr_rep.specs.Twisted.{phase_table, place_count}
use Rattle.irr_root.specs.Choice.{IsChoice, IsSumAt}
use Rattle.irr_root.proofs.choice.first_member.Given as goal

abbrev pub invariant-loop-k : goal.invariant-loop-k
invariant-loop-k g l =
    (d : IsChoice g.S.Scalar.order_of g.S.Scalar.value l.order.n (phase_table l.t)
    (phase_table l.inner) l.members l.p l.g l.rows l.positions l.character)
    (n : Fin (place_count l.inner)) → to_nat n < l.k → ((x : Number l.order.n) → IsSumAt d n n x → x ≡ (numbers l.order.n).zero → ⊥) → ⊥
