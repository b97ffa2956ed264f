-- The texts so far.
use Rattle.std.proofs.Common.{List, ℕ}
use Rattle.irr_report.specs.ValueTexts.{IsScaleOf}
use Rattle.irr_report.proofs.ValueLines.{AreReadTo}
use Rattle.irr_report.proofs.values.read_values.Given as goal

abbrev pub invariant-loop : goal.invariant-loop
invariant-loop g l = (earlier : List (List ℕ)) → IsScaleOf l.scale earlier
    → AreReadTo g.S.Scalar.order_of g.S.Scalar.value l.order.n earlier l.count l.text l.counter l.rest l.values.numbers.items l.values.scale
