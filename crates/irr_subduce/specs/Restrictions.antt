-- Restrictions of the full representations at a wave vector to a subgroup in a setting of its own (Bradley and Cracknell, section 4.1).
--   RepContent                     a label, a number of rows, and parts
--   rep_content r                  what the program's value stands for
--   IsRestrictionOf s H image M m F r     r is the entry of the member m of a list: its label, from 1, the number of rows of its full
--                                  representation F, and the parts of the restriction of F to H, where the matrix at an operation is that at
--                                  its image; multiplicities times dimensions add up to that number
--   AreRestrictions s G H image k M rs    rs are the entries of the members of a complete list in canonical order at k, with the full
--                                  representations over the numbers of order M
--   AreRestrictionsAt group sub k rs      so for a subgroup of the group of the program, over the order of k
--   IsOrderRefused G k e           the order of k is above the limit; want of memory says nothing
use Rattle.std.specs.Prelude.{ℕ, suc, ◌≡◌, ◌<◌, ◌≤◌, ◌*◌, List, length, map, slice_index_or}
use Rattle.std.specs.Int.{◌∣◌}
use Rattle.irr_algebra.specs.Fin.{Fin, to_nat}
use Rattle.irr_algebra.specs.Matrix.{Matrix}
use Rattle.irr_algebra.specs.Pair.{times}
use Rattle.irr_number.specs.Number.{numbers}
use Rattle.irr_theory.specs.Representations.{Representations, count_total}
use Rattle.irr_space.specs.Operation.{Operation, WaveVector}
use Rattle.irr_space.specs.Reciprocal.{Sign, IsOrder}
use Rattle.irr_space.specs.PhaseTable.{phases_at}
use Rattle.irr_space.specs.CompleteList.{IsCompleteList, IsInOrder, over}
use Rattle.irr_cyc.specs.declared.orders.TheConstants.{ORDER_LIMIT}
use Rattle.irr_seitz.specs.PhaseMeaning.{sign_of}
use Rattle.irr_close.specs.StandsFor.{stands_for}
use Rattle.irr_close.specs.declared.group.Group.{Group}
use Rattle.irr_full.specs.Star.{Star}
use Rattle.irr_full.specs.Full.{IsFullOf}
use Rattle.irr_full.specs.Parts.{ArePartsOf, Part}
use Rattle.irr_full.specs.Restriction.{IsSubgroup, restricted}
use Rattle.irr_mult.specs.Listing.{item}
use Rattle.irr_mult.specs.StarParts.{part_of}
use Rattle.irr_mult.specs.declared.part.RepParts.{RepParts}
use Rattle.irr_mult.specs.declared.error.WorkError.{WorkError}
use Rattle.irr_mult.specs.declared.error.WorkError.TheVariants.{OrderTooLarge, Memory}
use Rattle.irr_setting.specs.Setting.{basis, origin}
use Rattle.irr_subduce.specs.declared.sub.Sub.{Sub}

pub record RepContent : Type 0 where
  pub label : ℕ
  pub dim : ℕ
  pub parts : List Part

abbrev pub rep_content : RepParts → RepContent
rep_content r = record { label = r.label; dim = r.dim; parts = map part_of r.parts.items }

pub record IsRestrictionOf (s : Sign) (H : Operation → Type 0) (image : Operation → Operation) (M : ℕ) {d : ℕ} (m : ℕ)
    (F : Operation → Matrix (numbers M) d d) (r : RepContent) : Type 0 where
  pub label : r.label ≡ suc m
  pub dim : r.dim ≡ d
  pub parts : (positive : 0 < M) → ArePartsOf s H positive (restricted image F) (item r.parts)
  pub adds_up : count_total (length r.parts) (λ i. (item r.parts i).mult * (item r.parts i).dim) ≡ r.dim

pub record AreRestrictions (s : Sign) (G H : Operation → Type 0) (image : Operation → Operation) (k : WaveVector) (M : ℕ)
    (rs : List RepContent) : Type 0 where
  pub star : Star s G k
  pub list : Representations (phases_at star.table)
  pub complete : IsCompleteList star.table list
  pub ordered : IsInOrder star.table list
  -- the full representations
  pub divides : star.table.order ∣ M
  pub full : (m : Fin list.count) → Operation → Matrix (numbers M) (times star.arms (list.size m)) (times star.arms (list.size m))
  pub is_full : (m : Fin list.count) → IsFullOf star M divides (over star.table M divides (list.member m)) (full m)
  -- the entries
  pub count : length rs ≡ list.count
  pub restriction : (m : Fin list.count) (none : RepContent)
      → IsRestrictionOf s H image M (to_nat m) (full m) (slice_index_or rs (to_nat m) none)

pub record AreRestrictionsAt (group : Group) (sub : Sub) (k : WaveVector) (rs : List RepParts) : Type 0 where
  pub order : ℕ
  pub is_order : IsOrder (stands_for group) k order
  pub within : order ≤ ORDER_LIMIT
  pub image : Operation → Operation
  pub subgroup : IsSubgroup (basis sub.setting) (origin sub.setting) (stands_for sub.group) (stands_for group) image
  pub restrictions : AreRestrictions (sign_of group.phase) (stands_for group) (stands_for sub.group) image k order
      (map rep_content rs)

abbrev pub IsOrderRefused : (Operation → Type 0) → WaveVector → WorkError → Type 0
IsOrderRefused G k (OrderTooLarge n) = (ORDER_LIMIT < n) × IsOrder G k n
IsOrderRefused G k Memory = Unit {0}
