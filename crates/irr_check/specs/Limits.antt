-- When there is no verdict.
--   IsCheckRefusal group k e    the order of k is above the limit; want of memory says nothing
use Rattle.std.specs.Prelude.{◌<◌}
use Rattle.irr_space.specs.Operation.{WaveVector}
use Rattle.irr_space.specs.Reciprocal.{IsOrder}
use Rattle.irr_cyc.specs.declared.orders.TheConstants.{ORDER_LIMIT}
use Rattle.irr_close.specs.StandsFor.{stands_for}
use Rattle.irr_close.specs.declared.group.Group.{Group}
use Rattle.irr_check.specs.declared.verdict.CheckError.{CheckError}
use Rattle.irr_check.specs.declared.verdict.CheckError.TheVariants.{Memory, OrderTooLarge}

abbrev pub IsCheckRefusal : Group → WaveVector → CheckError → Type 0
IsCheckRefusal group k (OrderTooLarge n) = IsOrder (stands_for group) k n × (ORDER_LIMIT < n)
IsCheckRefusal group k Memory = Unit {0}
