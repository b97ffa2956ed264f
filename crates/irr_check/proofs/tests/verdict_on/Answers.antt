-- The report is within the limits.
use Rattle.std.proofs.Common.{◌≡◌, sym, ap, subst, ◌<◌, ◌≤◌, length, All, arith}
use Rattle.irr_rep.proofs.WrongPairs.{is-true}
use Rattle.irr_report.specs.Limits.{IsChecked}
use Rattle.irr_check.proofs.MadeReports.{two_pushed}
use Rattle.irr_check.proofs.tests.verdict_on.Goals as goal

pub check-requires : goal.check-requires
check-requires g c =
    let short = is-true c.is_within_limits.result c.if-not-is_within_limits.false in
    let ops = two_pushed c.new-ops.result.items c.push.new.self.items c.push-2.new.self.items c.op.result c.op-screw.result c.new-ops.ensures.items
    c.in_ok-push.ensures.items c.in_ok-push-2.ensures.items in
    let count : length c.push-2.new.self.items ≡ 2 = ap length ops in
    record {
      wave = c.is_within_limits.ensures short;
      some_operation = omega (arith, count);
      few_operations = omega (arith, count);
      few_representations = c.requires.few;
      representations = subst (λ n. All (IsChecked c.args.order n) c.args.reps.items) (sym count) c.requires.checked;
    }
