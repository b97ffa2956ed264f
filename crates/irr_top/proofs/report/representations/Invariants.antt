-- The families so far, with their characters.
use Rattle.std.proofs.Common.{◌≡◌, ◌++◌, map}
use Rattle.std.specs.List.{All}
use Rattle.irr_rep.specs.Twisted.{phase_table, place_count}
use Rattle.irr_report.specs.declared.report.RepText.{RepText}
use Rattle.irr_top.specs.Members.{HasTraces, IsMember}
use Rattle.irr_top.proofs.report.representations.Given as goal

abbrev pub invariant-loop-family : goal.invariant-loop-family
invariant-loop-family g l = record {
  families : map (λ (r : RepText g.row.S.Denot g.S.Scalar). r.family) l.reps.items ++ l.family-iterator.rest.items ≡ l.fn.families.items;
  members : All (IsMember (phase_table l.t).order (place_count l.t)) l.family-iterator.rest.items;
  traces : All (HasTraces (phase_table l.t).order (place_count l.t)) l.reps.items;
}
