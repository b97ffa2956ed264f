-- Rows read at the first point of a line, number by number.
--   turned_number                the number of a turn
--   RowSoFar                     the first k numbers
--   row_none, row_more, row_all
use Rattle.std.proofs.Common.{◌≡◌, refl, sym, ◌∙◌, ap, ap₂, subst, ℕ, ◌+◌, ◌<◌, List, [], ◌∷◌, ◌++◌, length, get_or, map, take, arith}
use Rattle.std.specs.List.{All}
use Rattle.std.proofs.lemmas.List.{get_or-map, length-map, map-append, take_all, take_more}
use Rattle.std.proofs.lemmas.List.Elements.{All-nil, All-push}
use Rattle.irr_algebra.specs.Fin.{Fin, to_nat}
use Rattle.irr_algebra.proofs.Indices.{from_nat, to_nat-from_nat, to_nat-lt}
use Rattle.irr_number.specs.Number.{Number, numbers, root_power}
use Rattle.irr_char.specs.Characters.{IsRowOf}
use Rattle.irr_compat.specs.Readings.{AreTurnedBy}
use Rattle.irr_compat.specs.declared.turns.Turn.{Turn}

module _ {S : Type 0} (order : S → ℕ) (value : (n : ℕ) → S → Number n) (n : ℕ) (ts : List Turn) (row : List S) where
  abbrev pub turned_number : Turn → Number n
  turned_number t = (numbers n).mul (root_power n t.exponent) (get_or (map (value n) row) t.place (numbers n).zero)

  pub record RowSoFar (k : ℕ) (made : List S) : Type 0 where
    pub orders : All (λ x. order x ≡ n) made
    pub values : map (value n) made ≡ map turned_number (take k ts)

  pub row_none : RowSoFar 0 []
  row_none = record { orders = All-nil (λ x. order x ≡ n); values = refl }

  pub row_more : (k : ℕ) → k < length ts → (t : Turn) → t ≡ get_or ts k t → (x y : S) → x ≡ get_or row t.place x → t.place < length row
      → order y ≡ n → value n y ≡ (numbers n).mul (root_power n t.exponent) (value n x)
      → (made after : List S) → after ≡ made ++ y ∷ [] → RowSoFar k made → RowSoFar (k + 1) after
  row_more k l t is x y at inside o v made after e so = record {
    orders = subst (All (λ z. order z ≡ n)) (sym e) (All-push (λ z. order z ≡ n) made y so.orders o);
    values = ap (map (value n)) e ∙ map-append (value n) made (y ∷ [])
        ∙ ap₂ (λ xs z. xs ++ z ∷ []) so.values (v ∙ ap ((numbers n).mul (root_power n t.exponent)) (ap (value n) at ∙ sym (get_or-map (value n) row t.place x (numbers n).zero inside))
        ∙ ap turned_number is)
        ∙ sym (ap (map turned_number) (take_more ts k t l) ∙ map-append turned_number (take k ts) (get_or ts k t ∷ []));
  }

  pub row_all : (k : ℕ) → k ≡ length ts → (made : List S) → RowSoFar k made → (h m : ℕ) (f : Fin h → Number n) (g : Fin m → Number n)
      → IsRowOf {h = h} order value n f row → All (λ t. t.place < length row) ts → AreTurnedBy n ts f g → IsRowOf {h = m} order value n g made
  row_all k done made so h m f g r below by = record {
    count = sym (length-map made (value n)) ∙ ap length all ∙ length-map ts turned_number ∙ by.count;
    orders = so.orders;
    numbers_at = λ a. ap (λ xs. get_or xs (to_nat a) (numbers n).zero) all ∙ at a;
  }
    where
      all : map (value n) made ≡ map turned_number ts
      all = so.values ∙ ap (map turned_number) (take_all k ts (omega (arith, done)))

      at : (a : Fin m) → get_or (map turned_number ts) (to_nat a) (numbers n).zero ≡ g a
      at a =
          let l : to_nat a < length ts = subst (λ j. to_nat a < j) (sym by.count) (to_nat-lt a) in
          let d : Turn = record { place = 0; exponent = 0 } in
          let t = get_or ts (to_nat a) d in
          let b : t.place < h = subst (λ j. t.place < j) r.count (below (to_nat a) d l) in
          let p = from_nat h t.place b in
          let e = to_nat-from_nat h t.place b in
          get_or-map turned_number ts (to_nat a) d (numbers n).zero l
          ∙ ap ((numbers n).mul (root_power n t.exponent)) (ap (λ j. get_or (map (value n) row) j (numbers n).zero) (sym e) ∙ r.numbers_at p)
          ∙ sym (by.is a p d e)
