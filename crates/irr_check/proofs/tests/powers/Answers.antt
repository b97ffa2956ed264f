-- A representation of one row is within the limits.
use Rattle.std.proofs.Common.{subst, length, ◌≡◌}
use Rattle.irr_report.specs.Limits.{IsLimitedRow}
use Rattle.irr_check.proofs.tests.powers.Goals as goal

pub returns : goal.returns
returns g c = record {
  denominator = 1;
  family = c.in_ok-mats.ensures;
  row = subst (λ k. IsLimitedRow g.S.Scalar.order_of g.S.Scalar.value c.args.order.now.n k 1 c.in_ok-row.row.items) c.requires.same c.in_ok-row.ensures;
}
