-- The traces of the members so far.
use Rattle.std.proofs.Common.{◌≡◌, ◌<◌, ◌-◌, length, map, All}
use Rattle.irr_algebra.specs.Fin.{Fin, to_nat}
use Rattle.irr_number.specs.Number.{Number, numbers}
use Rattle.irr_clifford.specs.Roots.{number_power}
use Rattle.irr_rep.specs.Twisted.{phase_table, place_count}
use Rattle.irr_char.specs.Rows.{row_of}
use Rattle.irr_root.specs.Choice.{IsChoice, IsTraceAt}
use Rattle.irr_root.specs.CyclicStep.{coset_place}
use Rattle.irr_root.proofs.choice.all_traces.Given as goal

abbrev pub invariant-loop-n : goal.invariant-loop-n
invariant-loop-n g l =
    (length l.traces.items ≡ l.n) × All (λ x. g.S.Scalar.order_of x ≡ l.order.n) l.traces.items
    × ((d : IsChoice g.S.Scalar.order_of g.S.Scalar.value l.order.n (phase_table l.t)
    (phase_table l.inner) l.members l.p l.g l.rows l.positions l.character)
    (m : Fin (place_count l.inner)) (s : Number l.order.n) → to_nat (coset_place d.step m) ≡ l.y
    → g.S.Scalar.value l.order.n l.power ≡ number_power (numbers l.order.n) s (l.p - 1)
    → (n : Fin (place_count l.inner)) → to_nat n < l.n → IsTraceAt d s n m (row_of l.order.n (map (g.S.Scalar.value l.order.n) l.traces.items) n))
