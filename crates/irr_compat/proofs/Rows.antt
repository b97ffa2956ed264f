-- The rows of the small representations at the points.
--   row_pushed              one more row
--   view_same               equal rows
--   own, own-number         the small representation at a place of the loop
--   character_here          its character
--   asked_row, read_here    what `read_row` asks for, and what it answers
use Rattle.std.proofs.Common.{◌≡◌, sym, ◌∙◌, ap, ap₂, subst, ℕ, suc, ◌<◌, ◌++◌, List, [], ◌∷◌, length, get_or, map}
use Rattle.std.specs.List.{All}
use Rattle.std.proofs.lemmas.List.{map-append}
use Rattle.irr_algebra.specs.Fin.{Fin, to_nat}
use Rattle.irr_algebra.specs.Matrix.{trace}
use Rattle.irr_algebra.proofs.Indices.{from_nat, to_nat-from_nat}
use Rattle.irr_number.specs.Number.{Number}
use Rattle.irr_space.specs.PhaseTable.{PhaseTable}
use Rattle.irr_space.specs.CompleteList.{over}
use Rattle.irr_char.specs.Characters.{IsRowOf, IsSmallRow}
use Rattle.irr_char.proofs.ScalarProducts.{small_row}
use Rattle.irr_mult.specs.StarParts.{IsCharacterOf}
use Rattle.irr_mult.specs.declared.star.SmallCharacter.{SmallCharacter}
use Rattle.irr_compat.specs.Readings.{AreTurnedBy}
use Rattle.irr_compat.specs.Rows.{AreReadings, RowView, row_view, member_row}
use Rattle.irr_compat.specs.declared.turns.Turn.{Turn}
use Rattle.irr_compat.specs.declared.table.LinePart.{LinePart}
use Rattle.irr_compat.specs.declared.table.PointRow.{PointRow}

pub row_pushed : (before after : List PointRow) (row : PointRow) (view : RowView) → after ≡ before ++ row ∷ [] → row_view row ≡ view
    → map row_view after ≡ map row_view before ++ view ∷ []
row_pushed before after row view e v = ap (map row_view) e ∙ map-append row_view before (row ∷ []) ∙ ap (λ x. map row_view before ++ x ∷ []) v

pub view_same : (point label m d e : ℕ) (parts others : List LinePart) → label ≡ suc m → d ≡ e → parts ≡ others
    → record { point = point; label = label; dim = d; parts = parts } ≡ member_row point m e others
view_same point label m d e parts others f g h = ap (λ n. record { point = point; label = n; dim = d; parts = parts }) f ∙ ap₂ (λ x y. member_row point m x y) g h

-- the small representation at a place of the loop
module _ {S : Type 0} (order : S → ℕ) (value : (n : ℕ) → S → Number n) {h : ℕ} (T : PhaseTable h) (ts : List Turn) (cs : List (SmallCharacter S))
    (e : AreReadings order value T ts cs) (k : ℕ) (l : k < length cs) (x : SmallCharacter S) (is : x ≡ get_or cs k x) where
  below : k < e.members.count
  below = subst (λ n. k < n) e.count l

  pub own : Fin e.members.count
  own = from_nat e.members.count k below

  pub own-number : to_nat own ≡ k
  unfolding own
  own-number = to_nat-from_nat e.members.count k below

  pub character_here : IsCharacterOf order value e.table T.order e.divides (e.members.member own) x
  character_here = subst (IsCharacterOf order value e.table T.order e.divides (e.members.member own)) (ap (λ n. get_or cs n x) own-number ∙ sym is) (e.character own x)

  row_here : (row : List S) → row ≡ x.row.items → IsRowOf {h = e.places} order value T.order (λ b. trace ((over e.table T.order e.divides (e.members.member own)).at b)) row
  row_here row same = subst (IsRowOf {h = e.places} order value T.order (λ b. trace ((over e.table T.order e.divides (e.members.member own)).at b))) (sym same) character_here.row

  -- what `read_row` asks for
  pub asked_row : (n : ℕ) → n ≡ T.order → (row : List S) → row ≡ x.row.items
      → (p : ℕ) × IsSmallRow order value n p row × All (λ t. t.place < p) ts × All (λ t. t.exponent < n) ts
  asked_row n same row f = subst (λ m. (p : ℕ) × IsSmallRow order value m p row × All (λ t. t.place < p) ts × All (λ t. t.exponent < m) ts) (sym same)
      (e.places, small_row e.table T.order T.order_positive e.divides order value (over e.table T.order e.divides (e.members.member own)) row (e.small own) (row_here row f), e.below, e.within)

  -- and what it answers
  pub read_here : (n : ℕ) → n ≡ T.order → (row : List S) → row ≡ x.row.items → (xs : List S)
      → ((p m : ℕ) (f : Fin p → Number n) (g : Fin m → Number n) → IsRowOf {h = p} order value n f row → AreTurnedBy n ts f g → IsRowOf {h = m} order value n g xs)
      → (out : List S) → out ≡ xs → IsRowOf {h = h} order value T.order (λ a. trace ((e.reading own).at a)) out
  read_here n same row f xs all out g = subst (IsRowOf {h = h} order value T.order (λ a. trace ((e.reading own).at a))) (sym g)
      (subst (λ m. (p q : ℕ) (f : Fin p → Number m) (g : Fin q → Number m) → IsRowOf {h = p} order value m f row → AreTurnedBy m ts f g → IsRowOf {h = q} order value m g xs) same all
      e.places h (λ b. trace ((over e.table T.order e.divides (e.members.member own)).at b)) (λ a. trace ((e.reading own).at a)) (row_here row f) (e.turned own))
