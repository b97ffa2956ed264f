-- The table of a little group, of its canonical operations.
--   little_subgroup      the little group as a subgroup of itself
--   little_table         the table of phases of a numbering of the little group
--   little_table-is_table
use Rattle.std.proofs.Common.{◌≡◌, subst, sym, ℕ}
use Rattle.irr_algebra.specs.Fin.{Fin}
use Rattle.irr_space.specs.Operation.{Operation, WaveVector, identity}
use Rattle.irr_space.specs.Reciprocal.{IsOrder, IsPhase, Sign}
use Rattle.irr_space.specs.CanonicalOperation.{IsNumbering}
use Rattle.irr_space.specs.Star.{IsInLittleGroup}
use Rattle.irr_space.specs.PhaseTable.{PhaseTable, IsTableOf}
use Rattle.irr_cocycle.specs.SpaceGroupLaws.{IsGroup, HasCanonical}
use Rattle.irr_cocycle.specs.SubgroupTable.{IsSubgroupAt, IsTableAt}
use Rattle.irr_cocycle.proofs.Reciprocals.{little_identity, little_product, little_inverse, little_rotation}
use Rattle.irr_cocycle.proofs.Phases.{order_at}
use Rattle.irr_cocycle.proofs.PhaseTables.{subgroup_table, subgroup_table-is_table, start_is_identity}

pub little_subgroup : (G : Operation → Type 0) → IsGroup G → (k : WaveVector) → IsSubgroupAt G k (IsInLittleGroup G k)
little_subgroup G group k = record {
  little = λ g m. m;
  identity = little_identity G group k;
  product = little_product G group k;
  inverse = little_inverse G group k;
  rotation = little_rotation G group k;
}

module _ (G : Operation → Type 0) (group : IsGroup G) (chosen : HasCanonical G) (s : Sign) (k : WaveVector) {h : ℕ} (ops : Fin h → Operation)
    (numbering : IsNumbering G (IsInLittleGroup G k) ops) (n : ℕ) (order : IsOrder G k n) where
  pub little_table : PhaseTable h
  little_table = subgroup_table G (IsInLittleGroup G k) group chosen s k (little_subgroup G group k) ops numbering n (order_at G k n order)

  table_at : IsTableAt s G k n ops little_table
  unfolding little_table
  table_at = subgroup_table-is_table G (IsInLittleGroup G k) group chosen s k (little_subgroup G group k) ops numbering n (order_at G k n order)

  pub little_table-order : little_table.order ≡ n
  little_table-order = table_at.same_order

  pub little_table-is_table : IsTableOf s G k ops little_table
  little_table-is_table = record {
    is_order = subst (IsOrder G k) (sym little_table-order) order;
    quotient = table_at.quotient;
    is_translation = table_at.is_translation;
    products = table_at.products;
    phases = λ i j. subst (λ m. IsPhase s m k (table_at.quotient i j) (little_table.exponent i j)) (sym little_table-order) (table_at.phases i j);
  }

  -- the operation of its first place is the identity
  pub little_table-start : ops little_table.start ≡ identity
  little_table-start = start_is_identity G (IsInLittleGroup G k) group chosen s k (little_subgroup G group k) ops numbering n (order_at G k n order)
      little_table.start little_table.start_first
