use Rattle.irr_kvec.proofs.Membership.{tests_of_reciprocal, reciprocal_of_tests}
use Rattle.irr_kvec.proofs.reciprocal.is_reciprocal.Goals as goal

pub returns-then-is_whole : goal.returns-then-is_whole
returns-then-is_whole c = (
  λ t. reciprocal_of_tests c.args.centrings.now c.requires.zero c.args.num.now c.args.den c.told-num (c.is_whole.ensures.0 c.if-is_whole.true) (c.is_whole_along_each.ensures.0 t),
  λ h. c.is_whole_along_each.ensures.1 (tests_of_reciprocal c.args.centrings.now c.requires.zero c.args.num.now c.args.den c.told-num h).1,
)

pub returns-else-is_whole : goal.returns-else-is_whole
returns-else-is_whole c = (
  λ t. absurd (cc (t, c.if-is_whole.false)),
  λ h. c.is_whole.ensures.1 (tests_of_reciprocal c.args.centrings.now c.requires.zero c.args.num.now c.args.den c.told-num h).0,
)
