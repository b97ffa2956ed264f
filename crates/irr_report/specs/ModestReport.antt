-- Reports far within the limits: their lines pass none of them.
--   IsSmallOver n e x      e is a multiple of the denominator of x, and the size of x over e is at most 2^28
--   AreSmallTogether r m   one number above 0 and of at most 2^11 is so for each trace and each entry of representation m
--   IsModest r             the order is above 0 and within its limit, there are at most 48 operations, representations and rows, and the
--                          numbers of each representation are small
use Rattle.std.specs.Prelude.{ℕ, ◌<◌, ◌≤◌, ◌*◌, ◌/◌, ◌^◌}
use Rattle.std.specs.Int.{◌∣◌}
use Rattle.irr_algebra.specs.Fin.{Fin}
use Rattle.irr_number.specs.Number.{Number}
use Rattle.irr_canonical.specs.Coefficient.{denominator, size}
use Rattle.irr_cyc.specs.declared.orders.TheConstants.{ORDER_LIMIT}
use Rattle.irr_text.specs.ReportText.{ReportContent}
use Rattle.irr_report.specs.ReportLimits.{count_limit}

-- the greatest size, and the greatest common denominator
abbrev pub modest_size : ℕ
modest_size = 2 ^ 28

abbrev pub modest_denominator : ℕ
modest_denominator = 2 ^ 11

pub record IsSmallOver (n e : ℕ) (x : Number n) : Type 0 where
  pub divides : denominator n x ∣ e
  pub size_over : size n x * (e / denominator n x) ≤ modest_size

pub record AreSmallTogether (r : ReportContent) (m : Fin r.count) : Type 0 where
  pub common : ℕ
  pub positive : 0 < common
  pub small : common ≤ modest_denominator
  pub characters : (i : Fin r.places) → IsSmallOver r.order common (r.character m i)
  pub entries : (i : Fin r.places) (a b : Fin (r.size m)) → IsSmallOver r.order common ((r.matrix m i).at a b)

pub record IsModest (r : ReportContent) : Type 0 where
  pub order : 0 < r.order
  pub order_within : r.order ≤ ORDER_LIMIT
  pub places_within : r.places ≤ count_limit
  pub count_within : r.count ≤ count_limit
  pub sizes_within : (m : Fin r.count) → r.size m ≤ count_limit
  pub numbers : (m : Fin r.count) → AreSmallTogether r m
