-- No representation is past the limits.
use Rattle.std.proofs.Common.{sym, subst, All}
use Rattle.std.proofs.lemmas.List.Elements.{All-nil}
use Rattle.irr_report.specs.Limits.{IsChecked}
use Rattle.irr_check.proofs.tests.verdict_on_none.Goals as goal

pub verdict_on-requires-clause-checked : goal.verdict_on-requires-clause-checked
verdict_on-requires-clause-checked c = subst (All (IsChecked 4 2)) (sym c.new-reps.ensures.items) (All-nil (IsChecked 4 2))
