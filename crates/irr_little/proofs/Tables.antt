-- The table of a little group, from its lists: the laws of irr_little's SubgroupTables for the little group.
--   listed_places              the numbers of the operations of the little group, as those of a subgroup
--   little_list_table          lists of products and exponents are those of a table of the little group
use Rattle.std.proofs.Common.{◌≡◌, sym, subst, ℕ, List, length}
use Rattle.irr_space.specs.Operation.{WaveVector}
use Rattle.irr_space.specs.Reciprocal.{IsOrder, IsPhase}
use Rattle.irr_space.specs.Star.{IsInLittleGroup}
use Rattle.irr_space.specs.PhaseTable.{PhaseTable, IsTableOf}
use Rattle.irr_seitz.specs.PhaseMeaning.{sign_of}
use Rattle.irr_seitz.specs.declared.op.Op.{Op}
use Rattle.irr_cocycle.proofs.Phases.{order_at}
use Rattle.irr_cocycle.specs.SubgroupTable.{IsTableAt}
use Rattle.irr_cocycle.proofs.LittleGroups.{little_subgroup}
use Rattle.irr_rep.specs.Table.{AreEntries, IsListed}
use Rattle.irr_close.specs.StandsFor.{stands_for}
use Rattle.irr_close.specs.declared.group.Group.{Group}
use Rattle.irr_close.specs.SpaceGroup.{IsSpaceGroup}
use Rattle.irr_little.specs.Places.{AreListed, AreLittlePlaces}
use Rattle.irr_little.specs.Entries.{IsProductEntry, IsPhaseEntry}
use Rattle.irr_little.specs.Table.{listed_operations, IsLittleTable}
use Rattle.irr_little.proofs.Spaces.{canonical_at}
use Rattle.irr_little.proofs.SubgroupTables.{IsPlaceOf, listed_numbering, table_of_lists}

pub listed_places : (group : Group) (k : WaveVector) (xs : List ℕ) → AreLittlePlaces group k xs
    → AreListed (IsPlaceOf group (IsInLittleGroup (stands_for group) k)) (length group.ops.items) xs
listed_places group k xs places = record {
  increasing = places.increasing;
  below = places.below;
  holds = λ p c d. record { member = (canonical_at group d p (places.below p c)).member; keeps = places.holds p c d };
  all = λ p l h. places.all p l (λ d. (h d).keeps);
}

-- a table with such lists is that of the little group
pub little_list_table : (group : Group) → IsSpaceGroup group → (k : WaveVector) (xs : List ℕ) → AreLittlePlaces group k xs → (h : ℕ) → h ≡ length xs →
    (n : ℕ) → IsOrder (stands_for group) k n
    → (products exponents : List ℕ) → AreEntries (length xs) (IsProductEntry group xs) products → AreEntries (length xs)
    (IsPhaseEntry group k n xs) exponents
    → (U : PhaseTable h) → IsListed U n products exponents → IsLittleTable group k xs U
little_list_table group space k xs places h count n order products exponents ps es U listed = record {
  count = count;
  places = places;
  numbering = λ d. listed_numbering group space k (IsInLittleGroup (stands_for group) k) (little_subgroup (stands_for group) space.is_group k) xs (listed_places group k xs places) h count d;
  table = λ d. of_table d (table_of_lists group space k (IsInLittleGroup (stands_for group) k) (little_subgroup (stands_for group) space.is_group k) xs (listed_places group k xs places) h count n
      (order_at (stands_for group) k n order) products exponents ps es U listed d);
}
  where
    of_table : (d : Op) → IsTableAt (sign_of group.phase) (stands_for group) k n (listed_operations group h xs d) U
        → IsTableOf (sign_of group.phase) (stands_for group) k (listed_operations group h xs d) U
    of_table d t = record {
      is_order = subst (IsOrder (stands_for group) k) (sym t.same_order) order;
      quotient = t.quotient;
      is_translation = t.is_translation;
      products = t.products;
      phases = λ i j. subst (λ m. IsPhase (sign_of group.phase) m k (t.quotient i j) (U.exponent i j)) (sym t.same_order) (t.phases i j);
    }
