-- The table of a line group, from its lists.
--   before, length-before        the number of points behind the first
--   line_inside, line_at         the line group as a subgroup, and its order, at the first point
--   line_list_table              lists of products and exponents are those of a table of the line group
use Rattle.std.proofs.Common.{◌≡◌, sym, subst, refl, ℕ, suc, ◌<◌, List, [], ◌∷◌, length, get_or, arith}
use Rattle.irr_algebra.specs.Fin.{Fin, to_nat}
use Rattle.irr_algebra.specs.Fin.Fin.{first}
use Rattle.irr_space.specs.Operation.{Operation, WaveVector}
use Rattle.irr_space.specs.Reciprocal.{IsPhase}
use Rattle.irr_space.specs.PhaseTable.{PhaseTable}
use Rattle.irr_seitz.specs.PhaseMeaning.{sign_of}
use Rattle.irr_seitz.specs.declared.op.Op.{Op}
use Rattle.irr_cocycle.specs.SubgroupTable.{IsOrderAt, IsSubgroupAt, IsTableAt}
use Rattle.irr_rep.specs.Table.{AreEntries, IsListed}
use Rattle.irr_kvec.specs.WaveMeaning.{wave_vector}
use Rattle.irr_kvec.specs.declared.wave.Wave.{Wave}
use Rattle.irr_close.specs.StandsFor.{stands_for}
use Rattle.irr_close.specs.declared.group.Group.{Group}
use Rattle.irr_close.proofs.SpaceGroups.{space_group}
use Rattle.irr_line.specs.LineGroup.{IsInLineGroup, IsLineOrder, IsLineTable}
use Rattle.irr_line.proofs.Tables.{line_subgroup, line_order_at}
use Rattle.irr_little.specs.Entries.{IsProductEntry, IsPhaseEntry}
use Rattle.irr_little.specs.Line.{line_points, AreLinePlaces, IsLineGroupTable}
use Rattle.irr_little.specs.Table.{listed_operations}
use Rattle.irr_little.proofs.SubgroupTables.{listed_numbering, table_of_lists}

pub before : {X : Type 0} → List X → ℕ
before [] = 0
before (x ∷ xs) = length xs

pub length-before : {X : Type 0} (xs : List X) → 0 < length xs → length xs ≡ suc (before xs)
unfolding before
length-before [] l = absurd (omega (arith, l))
length-before (x ∷ xs) l = refl

module _ (group : Group) (n : ℕ) (points : List Wave) (k : Wave) (same : k ≡ get_or points 0 k) where
  abbrev pub InLine : Operation → Type 0
  InLine = IsInLineGroup (stands_for group) (line_points n points k)

  pub line_inside : IsSubgroupAt (stands_for group) (wave_vector k) InLine
  unfolding to_nat
  line_inside = subst (λ (w : Wave). IsSubgroupAt (stands_for group) (wave_vector w) InLine) (sym same)
      (line_subgroup (stands_for group) (line_points n points k) (space_group group).is_group first)

  pub line_at : (order : ℕ) → IsLineOrder (stands_for group) (line_points n points k) order → IsOrderAt (stands_for group) (wave_vector k) order
  unfolding to_nat
  line_at order o = subst (λ (w : Wave). IsOrderAt (stands_for group) (wave_vector w) order) (sym same)
      (line_order_at (stands_for group) (line_points n points k) order o first)

pub line_list_table : (group : Group) {n : ℕ} (point : Fin (suc n) → WaveVector) (xs : List ℕ) → AreLinePlaces group point xs
    → (h : ℕ) → h ≡ length xs → (order : ℕ) → IsLineOrder (stands_for group) point order
    → (products exponents : List ℕ) → AreEntries (length xs) (IsProductEntry group xs) products
    → AreEntries (length xs) (IsPhaseEntry group (point first) order xs) exponents
    → (U : PhaseTable h) → IsListed U order products exponents → IsLineGroupTable group point xs U
line_list_table group point xs places h count order o products exponents ps es U listed = record {
  count = count;
  places = places;
  numbering = λ d. listed_numbering group (space_group group) (point first) (IsInLineGroup (stands_for group) point)
      (line_subgroup (stands_for group) point (space_group group).is_group first) xs places h count d;
  table = λ d. of_table d (table_of_lists group (space_group group) (point first) (IsInLineGroup (stands_for group) point)
      (line_subgroup (stands_for group) point (space_group group).is_group first) xs
      places h count order (line_order_at (stands_for group) point order o first) products exponents ps es U listed d);
}
  where
    of_table : (d : Op) → IsTableAt (sign_of group.phase) (stands_for group) (point first) order (listed_operations group h xs d) U
        → IsLineTable (sign_of group.phase) (stands_for group) point (listed_operations group h xs d) U
    of_table d t = record {
      is_order = subst (IsLineOrder (stands_for group) point) (sym t.same_order) o;
      quotient = t.quotient;
      is_translation = t.is_translation;
      products = t.products;
      phases = λ i j. subst (λ m. IsPhase (sign_of group.phase) m (point first) (t.quotient i j) (U.exponent i j)) (sym t.same_order) (t.phases i j);
    }
