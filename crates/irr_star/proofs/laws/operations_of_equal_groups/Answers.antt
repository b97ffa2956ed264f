use Rattle.irr_star.proofs.MemberSizes.{member_same, same_member}
use Rattle.irr_star.proofs.laws.operations_of_equal_groups.Goals as goal

pub returns : goal.returns
returns c a b same g = (member_same a b same g, same_member a b same g)
