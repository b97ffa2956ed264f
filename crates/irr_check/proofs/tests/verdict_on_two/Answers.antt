-- Two representations are within the limits.
use Rattle.std.proofs.Common.{◌≡◌, sym, ap, subst, ◌≤◌, length, All, arith}
use Rattle.irr_report.specs.Limits.{IsChecked}
use Rattle.irr_check.proofs.MadeReports.{all_two, two_pushed}
use Rattle.irr_check.proofs.tests.verdict_on_two.Goals as goal

pub verdict_on-requires-clause-checked : goal.verdict_on-requires-clause-checked
verdict_on-requires-clause-checked g c =
    let reps = two_pushed c.new-reps.result.items c.push.new.self.items c.push-2.new.self.items c.args.first c.args.second c.new-reps.ensures.items
    c.in_ok-push.ensures.items c.in_ok-push-2.ensures.items in
    subst (All (IsChecked c.args.order 2)) (sym reps) (all_two (IsChecked c.args.order 2) c.args.first c.args.second c.requires.first c.requires.second)

pub verdict_on-requires-clause-few : goal.verdict_on-requires-clause-few
verdict_on-requires-clause-few g c =
    let reps = two_pushed c.new-reps.result.items c.push.new.self.items c.push-2.new.self.items c.args.first c.args.second c.new-reps.ensures.items
    c.in_ok-push.ensures.items c.in_ok-push-2.ensures.items in
    let count : length c.push-2.new.self.items ≡ 2 = ap length reps in
    omega (arith, count)
