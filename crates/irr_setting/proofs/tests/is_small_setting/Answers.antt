-- The limits, one by one.
use Rattle.std.proofs.Common.{◌*◌, ℕ, subst}
use Rattle.irr_seitz.specs.OperationMeaning.{AreWithin}
use Rattle.irr_setting.proofs.tests.is_small_setting.Goals as goal

pub returns : goal.returns
returns c = λ t. record {
  basis = c.are_small_rows.ensures c.if-not-are_small_rows.false;
  denominator = c.if-setting-gt100.false;
  origin = c.are_within.ensures c.if-not-are_within.false;
  near = subst (λ n. AreWithin (1000 * n) c.args.setting.now.shift.num) c.from-limit.ensures (c.are_within-2.ensures t);
  origin_denominator = c.if-setting-gt1000.false;
}
