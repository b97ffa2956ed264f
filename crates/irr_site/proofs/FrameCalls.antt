-- The calls on each representation of a site group.
--   own_member                 the member at a place of the loop
--   asked_row, asked_fit       what `traces` asks for
--   asked_family               what `parts_of` asks for
--   made_part                  what is made of the answers
--   parts_so_far               the parts so far, with one more
use Rattle.std.proofs.Common.{◌≡◌, sym, ◌∙◌, ap, subst, refl, ℕ, suc, ◌+◌, ◌++◌, ◌∷◌, [], ◌*◌, ◌<◌, ◌≤◌, List, length, get_or, map, Vec, arith}
use native.Mathlib.Nat as Nat
use Rattle.std.specs.Prelude.{Option}
use Rattle.std.specs.Global.{Global}
use Rattle.irr_algebra.specs.Fin.{Fin, to_nat}
use Rattle.irr_algebra.specs.Matrix.{trace}
use Rattle.irr_algebra.specs.Pair.{times}
use Rattle.irr_algebra.proofs.Indices.{to_nat_inj}
use Rattle.irr_number.specs.Number.{Number}
use Rattle.irr_space.specs.Operation.{Vector, WaveVector}
use Rattle.irr_space.specs.CompleteList.{over}
use Rattle.irr_rep.specs.Twisted.{phase_table}
use Rattle.irr_rep.specs.declared.table.Twisted.{Twisted}
use Rattle.irr_close.specs.declared.group.Group.{Group}
use Rattle.irr_char.specs.Characters.{IsRowOf, IsSmallRow}
use Rattle.irr_mult.specs.declared.star.SmallCharacter.{SmallCharacter}
use Rattle.irr_mult.proofs.StarFacts.{pushed}
use Rattle.irr_site.specs.Families.{AreFamilyParts, Frame, HasRows, IsFamilyRow}
use Rattle.irr_site.specs.FamilyParts.{IsInducedPart}
use Rattle.irr_site.specs.Traces.{AreRowsWithin, AreSumsOf}
use Rattle.irr_site.specs.declared.part.SiteParts.{SiteParts}
use Rattle.irr_site.specs.declared.rest.Rest.{Rest}
use Rattle.irr_site.proofs.FrameFits.{rows_within, small_row}
use Rattle.irr_site.proofs.FrameParts.{few_rows, induced_family, induced_part, induced_row, part_row}
use Rattle.irr_site.proofs.Parts.{character_at, member, member-number, small_size}

module _ {S : Type 0} {order : S → ℕ} {value : (n : ℕ) → S → Number n} {group : Group} {x : Vector} {k : WaveVector}
    {n : ℕ} {t : Twisted} {small : List (SmallCharacter S)} {rows : List (Vec (Option Rest) Global)}
    {cs : List (SmallCharacter S)} {sites : ℕ} (f : Frame order value group x k n t small rows cs sites)
    (i : ℕ) (l : i < length cs) (y : SmallCharacter S) (is : y ≡ get_or cs i y) (row : List S) (same : row ≡ y.row.items) where
  pub own_member : Fin f.characters.list.count
  own_member = member order value f.characters i l y is

  pub own_number : to_nat own_member ≡ i
  unfolding own_member
  own_number = member-number order value f.characters i l y is

  row_is : IsRowOf order value n (λ a. trace ((over f.table n f.characters.divides (f.characters.list.member (member order value f.characters i l y is))).at a)) row
  row_is = subst (IsRowOf order value n (λ a. trace ((over f.table n f.characters.divides (f.characters.list.member (member order value f.characters i l y is))).at a)))
      (sym same) (character_at order value f.characters i l y is).row

  pub asked_row : (h : ℕ) × IsSmallRow order value n h row
  asked_row = let m = member order value f.characters i l y is in (
    f.orbit.places,
    small_row order value f.table n f.characters.positive f.characters.divides (f.characters.list.size m)
        (over f.table n f.characters.divides (f.characters.list.member m)) (f.characters.small m) row row_is,
  )

  pub asked_fit : AreRowsWithin n (length row) rows
  asked_fit = rows_within f (length row) (sym row_is.count)

  module _ (xs : List S) (sums : AreSumsOf order value n (λ j. map (value n) row) rows xs) where
    pub asked_family : (M : ℕ) × (has : HasRows order value M (phase_table t) small) × IsFamilyRow order value (phase_table t) M has.divides xs
    asked_family = let m = member order value f.characters i l y is in (
      n,
      f.small_rows,
      part_row f (induced_family f m) xs (few_rows f (f.characters.list.size m) (f.characters.small m))
          (induced_row f m y (character_at order value f.characters i l y is) row same xs sums),
    )

    pub made_part : (p : SiteParts) → p.label ≡ i + 1 → p.dim ≡ sites * y.dim → AreFamilyParts order value (phase_table t) small xs p.parts.items
        → (m : Fin f.characters.list.count) → to_nat m ≡ i → IsInducedPart f m p
    made_part p label size are m e =
        let o = member order value f.characters i l y is in
        let number = member-number order value f.characters i l y is in
        subst (λ q. IsInducedPart f q p) (to_nat_inj o m (number ∙ sym e))
        (induced_part f o y (character_at order value f.characters i l y is) row same xs sums p
        (omega (arith, label, number)) size are)

  pub few_rows_here : sites * y.dim ≤ 2304
  few_rows_here =
      let a = f.few in
      let b = small_size order value f.characters i l y is in
      let c : sites * y.dim ≤ 48 * 48 = Nat.mul-le-mul a b in
      omega (arith, c)

module _ {S : Type 0} {order : S → ℕ} {value : (n : ℕ) → S → Number n} {group : Group} {x : Vector} {k : WaveVector}
    {n : ℕ} {t : Twisted} {small : List (SmallCharacter S)} {rows : List (Vec (Option Rest) Global)}
    {cs : List (SmallCharacter S)} {sites : ℕ} (f : Frame order value group x k n t small rows cs sites) where
  pub parts_so_far : (xs after : List SiteParts) (p : SiteParts) (j : ℕ) → length xs ≡ j → after ≡ xs ++ p ∷ []
      → ((m : Fin f.characters.list.count) (e : SiteParts) → to_nat m < j → IsInducedPart f m (get_or xs (to_nat m) e))
      → ((m : Fin f.characters.list.count) → to_nat m ≡ j → IsInducedPart f m p)
      → (m : Fin f.characters.list.count) (e : SiteParts) → to_nat m < j + 1 → IsInducedPart f m (get_or after (to_nat m) e)
  parts_so_far xs after p j count is before here m e l =
      pushed (λ i q. (b : Fin f.characters.list.count) → to_nat b ≡ i → IsInducedPart f b q) xs after p j count is
      (λ i d v b same. subst (λ q. IsInducedPart f b (get_or xs q d)) same (before b d (subst (λ q. q < j) (sym same) v)))
      here (to_nat m) e l m refl
