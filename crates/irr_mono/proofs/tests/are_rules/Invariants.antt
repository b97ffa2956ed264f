-- The columns so far keep the rules.
use Rattle.irr_mono.proofs.Trial.{HoldRules}
use Rattle.irr_mono.proofs.tests.are_rules.Given as goal

abbrev pub invariant-loop-column : goal.invariant-loop-column
invariant-loop-column l = HoldRules l.order.n l.column l.place l.exp
