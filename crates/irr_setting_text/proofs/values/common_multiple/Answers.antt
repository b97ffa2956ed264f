use Rattle.std.proofs.Common.{refl}
use Rattle.irr_setting_text.proofs.LeastDenominators.{least_of_lcm, lcm_beyond, multiple_beyond}
use Rattle.irr_setting_text.proofs.values.common_multiple.Goals as goal

pub returns-in_err-multiple-clause-none : goal.returns-in_err-multiple-clause-none
returns-in_err-multiple-clause-none c = λ is k h v w. lcm_beyond c.args.a c.args.b c.args.limit k c.requires.positive c.ranges.limit.fits (c.in_err-multiple.ensures.none.0 refl) h v w

pub returns-then-multiple-limit-clause-none : goal.returns-then-multiple-limit-clause-none
returns-then-multiple-limit-clause-none c = λ is k h v w. multiple_beyond c.args.a c.args.b c.in_ok-multiple.multiple c.args.limit k c.in_ok-multiple.ensures.least c.if-multiple-limit.true h v w

pub returns-clause-least : goal.returns-clause-least
returns-clause-least c = least_of_lcm c.args.a c.args.b c.in_ok-multiple.multiple c.requires.positive c.requires.other_positive c.in_ok-multiple.ensures.least
