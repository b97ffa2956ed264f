-- A complete list on the table of a line group, as the program made it.
--   line_list_here            its sizes and characters
--   places_here, operations_here     the numbers of its operations, and these with another one past the end
--   sizes_here, rows_here     the sizes and the characters apart
use Rattle.std.proofs.Common.{◌≡◌, sym, ◌∙◌, ap, subst, ℕ, suc, ◌<◌, ◌≤◌, List, length, get_or, map, slice_index}
use Rattle.std.specs.Int.{◌∣◌}
use Rattle.std.specs.List.{All}
use Rattle.std.proofs.lemmas.List.{get_or-map, get_or_default, length-map}
use Rattle.std.proofs.lemmas.List.Elements.{All-from_get_or, Contains-get_or}
use native.Mathlib.Nat as Nat
use mathlib.Core.Path.{fun_ext}
use Rattle.irr_algebra.specs.Fin.{Fin, to_nat}
use Rattle.irr_algebra.specs.Matrix.{Matrix, trace}
use Rattle.irr_algebra.proofs.Indices.{to_nat-lt}
use Rattle.irr_number.specs.Number.{Number, numbers}
use Rattle.irr_theory.specs.Representations.{Representations}
use Rattle.irr_space.specs.Operation.{WaveVector}
use Rattle.irr_space.specs.PhaseTable.{PhaseTable, phases_at}
use Rattle.irr_seitz.specs.OperationMeaning.{operation}
use Rattle.irr_seitz.specs.declared.op.Op.{Op}
use Rattle.irr_cyc.specs.declared.scalars.Scalar.{Ghosts}
use Rattle.irr_rep.specs.declared.family.Family.{Family}
use Rattle.irr_char.specs.Characters.{IsRowOf}
use Rattle.irr_close.specs.declared.group.Group.{Group}
use Rattle.irr_little.specs.Line.{IsLineGroupTable}
use Rattle.irr_little.specs.Table.{listed_operations}
use Rattle.irr_climb.specs.Families.{AreRows}
use Rattle.irr_climb.specs.Lists.{IsSmallList}
use Rattle.irr_climb.proofs.ClimbedLevel.{few_members}
use Rattle.irr_climb.proofs.FullRows.{size_few}
use Rattle.irr_mult.specs.StarParts.{IsCharacterOf}
use Rattle.irr_mult.specs.declared.star.SmallCharacter.{SmallCharacter}
use Rattle.irr_mult.proofs.StarFacts.{full_list}
use Rattle.irr_compat.specs.LineTables.{IsLineList}
use Rattle.irr_compat.specs.Parts.{AreCharactersOn}
use Rattle.irr_compat.proofs.LineParts.{own_at}

module _ {S : Type 0} {V : Ghosts S} {h : ℕ} (T : PhaseTable h) (few : h ≤ 48) (fs : List (Family S V)) (s : IsSmallList T fs) (n : ℕ) (same : n ≡ T.order)
    (cs : List (SmallCharacter S)) (count : length cs ≡ s.list.count)
    (characters : (v : T.order ∣ n) (m : Fin s.list.count) (x : SmallCharacter S) → IsCharacterOf V.order_of V.value T n v (s.list.member m) (get_or cs (to_nat m) x)) where
  at_own : (m : Fin s.list.count) (x : SmallCharacter S) → IsCharacterOf V.order_of V.value T T.order (Nat.dvd_refl T.order) (s.list.member m) (get_or cs (to_nat m) x)
  at_own = subst (λ k. (v : T.order ∣ k) (m : Fin s.list.count) (x : SmallCharacter S) → IsCharacterOf V.order_of V.value T k v (s.list.member m) (get_or cs (to_nat m) x)) same characters
      (Nat.dvd_refl T.order)

  pub line_list_here : IsLineList V.order_of V.value T cs
  line_list_here = record {
    list = s.list;
    full = full_list T fs s;
    complete = s.complete;
    in_order = s.ordered;
    characters = record {
      count = count;
      few = Nat.le_trans (few_members s.list (full_list T fs s)) few;
      small = λ m. size_few s.list (full_list T fs s) m few;
      size = λ m x. (at_own m x).size;
      row = λ m x. subst (λ (f : Fin h → Matrix (numbers T.order) (s.list.size m) (s.list.size m)). IsRowOf {h = h} V.order_of V.value T.order (λ i. trace (f i)) (get_or cs (to_nat m) x).row.items)
          (own_at T (Nat.dvd_refl T.order) (s.list.member m)) (at_own m x).row;
    };
  }

pub places_here : (group : Group) {n : ℕ} (point : Fin (suc n) → WaveVector) (xs : List ℕ) {h : ℕ} (T : PhaseTable h) → IsLineGroupTable group point xs T
    → All (λ p. p < length group.ops.items) xs
places_here group point xs T is = All-from_get_or (λ p. p < length group.ops.items) xs 0 (λ i l. is.places.below (get_or xs i 0) (Contains-get_or xs i 0 l))

pub operations_here : (group : Group) {n : ℕ} (point : Fin (suc n) → WaveVector) (xs : List ℕ) {h : ℕ} (T : PhaseTable h) → IsLineGroupTable group point xs T
    → (d e : Op) → listed_operations group h xs d ≡ listed_operations group h xs e
operations_here group point xs T is d e = fun_ext (λ i. ap operation (get_or_default group.ops.items (slice_index xs (to_nat i)) d e
    (is.places.below (slice_index xs (to_nat i)) (Contains-get_or xs (to_nat i) 0 (subst (λ m. to_nat i < m) is.count (to_nat-lt i))))))

module _ {S : Type 0} (order : S → ℕ) (value : (n : ℕ) → S → Number n) {h : ℕ} (T : PhaseTable h) (L : Representations (phases_at T)) (cs : List (SmallCharacter S))
    (are : AreCharactersOn order value T L cs) where
  inside : (m : Fin L.count) → to_nat m < length cs
  inside m = subst (λ k. to_nat m < k) (sym are.count) (to_nat-lt m)

  pub sizes_here : (x : SmallCharacter S) (dims : List ℕ) → dims ≡ map (λ (c : SmallCharacter S). c.dim) cs → (m : Fin L.count) → slice_index dims (to_nat m) ≡ L.size m
  sizes_here x dims e m = ap (λ ds. slice_index ds (to_nat m)) e ∙ get_or-map (λ (c : SmallCharacter S). c.dim) cs (to_nat m) x 0 (inside m) ∙ are.size m x

  pub rows_here : (x : Fin L.count → SmallCharacter S) (rows : List (List S)) → rows ≡ map (λ (c : SmallCharacter S). c.row.items) cs → AreRows order value T.order (phases_at T) L rows
  rows_here x rows e = record {
    count = ap length e ∙ length-map cs (λ (c : SmallCharacter S). c.row.items) ∙ are.count;
    row = λ m d. subst (IsRowOf {h = h} order value T.order (λ i. trace ((L.member m).at i)))
        (sym (ap (λ rs. get_or rs (to_nat m) d) e ∙ get_or-map (λ (c : SmallCharacter S). c.row.items) cs (to_nat m) (x m) d (inside m))) (are.row m (x m));
  }
