-- The limits within which a report is read.
--   IsLimitedRow n h e row      h numbers of order n, each a sum of at most 2^30 powers of z with signs over e
--   IsChecked n h t             a representation with h matrices and a row of h numbers, all of order n, over one denominator of at most 4096
--   IsWithinLimits r            at least one operation, at most 48 operations and representations, each of at most 48 rows, and a wave vector
--                               within the limits of all calls on wave vectors
use Rattle.std.specs.Prelude.{ℕ, ◌≡◌, ◌<◌, ◌≤◌, ◌^◌, List, length, map, slice_index_or, All}
use Rattle.irr_algebra.specs.Fin.{Fin, to_nat}
use Rattle.irr_number.specs.Number.{Number, numbers}
use Rattle.irr_canonical.specs.RootSum.{IsRootSum}
use Rattle.irr_kvec.specs.Centrings.{IsWithinLimits as IsLimitedWave}
use Rattle.irr_cyc.specs.declared.scalars.Scalar.{Ghosts}
use Rattle.irr_rep.specs.Defects.{IsLimited}
use Rattle.irr_report.specs.declared.report.RepText.{RepText}
use Rattle.irr_report.specs.declared.report.Report.{Report}

pub record IsLimitedRow {S : Type 0} (order : S → ℕ) (value : (n : ℕ) → S → Number n) (n h denominator : ℕ) (row : List S) : Type 0 where
  pub count : length row ≡ h
  pub orders : All (λ x. order x ≡ n) row
  pub within : (i : Fin h) → IsRootSum n (2 ^ 30) denominator (slice_index_or (map (value n) row) (to_nat i) (numbers n).zero)

pub record IsChecked {S : Type 0} {G : Ghosts S} (n h : ℕ) (t : RepText S G) : Type 0 where
  pub denominator : ℕ
  pub family : IsLimited n h t.family.dim denominator t.family.mats.items
  pub row : IsLimitedRow G.order_of G.value n h denominator t.chars.items

pub record IsWithinLimits {S : Type 0} {G : Ghosts S} (r : Report S G) : Type 0 where
  pub wave : IsLimitedWave r.wave
  pub some_operation : 0 < length r.ops.items
  pub few_operations : length r.ops.items ≤ 48
  pub few_representations : length r.reps.items ≤ 48
  pub representations : All (IsChecked r.order (length r.ops.items)) r.reps.items
