-- The root law.
use Rattle.irr_level.proofs.RootLaw.{power_scalar_root}
use Rattle.irr_level.proofs.RootSums.{power_scalar_sum}
use Rattle.irr_level.proofs.root.roots_of_scalars.Goals as goal

pub returns : goal.returns
returns k = record {
  root = λ h n T members outer S p g prime normal generated restriction M v w positive d D u c scalar t.
      power_scalar_root T members outer S p prime normal g generated restriction M v w D u c scalar positive t;
  sum = λ h n T members outer S p g prime normal generated restriction M v w positive d D u c scalar t.
      power_scalar_sum T members outer S p prime normal g generated restriction M v w D u c scalar positive t;
}
