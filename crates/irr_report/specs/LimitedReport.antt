-- Reports whose counts and numbers are limited, as those that are read are.
--   AreLimited r m        the characters and the entries of representation m are sums of at most 2^30 powers of z with signs, over one
--                         denominator of at most 4096
--   IsLimitedReport r     the order is above 0 and within its limit; there are one to 48 operations, at most 48 representations, each of
--                         one to 48 rows, and the numbers of each representation are limited
use Rattle.std.specs.Prelude.{ℕ, ◌<◌, ◌≤◌, ◌^◌}
use Rattle.irr_algebra.specs.Fin.{Fin}
use Rattle.irr_text.specs.ReportText.{ReportContent}
use Rattle.irr_canonical.specs.RootSum.{IsRootSum}
use Rattle.irr_mat.specs.Size.{IsWithin}
use Rattle.irr_cyc.specs.declared.orders.TheConstants.{ORDER_LIMIT}

pub record AreLimited (r : ReportContent) (m : Fin r.count) : Type 0 where
  pub denominator : ℕ
  pub limited : denominator ≤ 4096
  pub characters : (i : Fin r.places) → IsRootSum r.order (2 ^ 30) denominator (r.character m i)
  pub matrices : (i : Fin r.places) → IsWithin r.order (2 ^ 30) denominator (r.matrix m i)

pub record IsLimitedReport (r : ReportContent) : Type 0 where
  pub order : 0 < r.order
  pub order_within : r.order ≤ ORDER_LIMIT
  pub some_place : 0 < r.places
  pub few_places : r.places ≤ 48
  pub few_representations : r.count ≤ 48
  pub some_row : (m : Fin r.count) → 0 < r.size m
  pub few_rows : (m : Fin r.count) → r.size m ≤ 48
  pub numbers : (m : Fin r.count) → AreLimited r m
