-- The families of a site over a frame, with their traces and parts.
--   induced_family, displaced_family     the families
--   induced_row, displaced_row           their traces are the sums of the terms
--   induced_part, displaced_part         their parts
use Rattle.std.proofs.Common.{◌≡◌, sym, ◌∙◌, ap, subst, refl, ℕ, suc, ◌+◌, ◌*◌, ◌<◌, ◌≤◌, List, length, get_or, map, Vec, arith}
use Rattle.std.specs.Prelude.{Option}
use Rattle.std.specs.Global.{Global}
use native.Mathlib.Nat as Nat
use Rattle.irr_algebra.specs.Action.{HasDimension}
use Rattle.irr_algebra.specs.Fin.{Fin, to_nat}
use Rattle.irr_algebra.specs.Matrix.{trace}
use Rattle.irr_algebra.specs.Pair.{times}
use Rattle.irr_algebra.specs.Sum.{sum}
use Rattle.irr_algebra.proofs.Indices.{from_nat, to_nat-from_nat, to_nat-lt}
use Rattle.irr_algebra.proofs.Pairs.{times-mul}
use Rattle.irr_number.specs.Number.{Number, numbers}
use Rattle.irr_number.proofs.NumberField.{number_field}
use Rattle.irr_rational.specs.Integer.{whole_matrix}
use Rattle.irr_theory.specs.FactorSystem.{Representation}
use Rattle.irr_theory.specs.Representations.{count_total}
use Rattle.irr_theory.specs.Scalars.{map_families}
use Rattle.irr_theory.proofs.Scalars.{full-map_families}
use Rattle.irr_full.proofs.RegularCharacter.{sizes_add_up}
use Rattle.irr_number.specs.Lift.{lift}
use Rattle.irr_theory.proofs.Existence.{dimension_exists}
use Rattle.irr_space.specs.Operation.{Operation, Vector, WaveVector}
use Rattle.irr_space.specs.Reciprocal.{Sign}
use Rattle.irr_space.specs.CanonicalOperation.{IsNumbering}
use Rattle.irr_space.specs.PhaseTable.{IsTableOf, phases_over}
use Rattle.irr_space.specs.Star.{IsInLittleGroup}
use Rattle.irr_space.specs.CompleteList.{over}
use Rattle.irr_cocycle.specs.SpaceGroupLaws.{HasCanonical, IsGroup}
use Rattle.irr_seitz.specs.PhaseMeaning.{sign_of}
use Rattle.irr_rep.specs.Twisted.{operation_places, phase_table, place_count}
use Rattle.irr_rep.specs.declared.table.Twisted.{Twisted}
use Rattle.irr_close.specs.StandsFor.{stands_for}
use Rattle.irr_close.specs.declared.group.Group.{Group}
use Rattle.irr_close.proofs.SpaceGroups.{space_group}
use Rattle.irr_little.specs.Table.{listed_operations}
use Rattle.irr_little.proofs.Spaces.{has_canonical}
use Rattle.irr_char.specs.Characters.{IsRowOf}
use Rattle.irr_mult.specs.declared.star.SmallCharacter.{SmallCharacter}
use Rattle.irr_mult.specs.Listing.{item}
use Rattle.irr_mult.specs.StarParts.{IsCharacterOf}
use Rattle.irr_mult.proofs.Listings.{item-get}
use Rattle.irr_orbit.specs.SiteFamily.{AreTerms, IsDisplacement, IsInduced}
use Rattle.irr_orbit.proofs.SiteFamilies.{displacement, displacement-is, induced, induced-is}
use Rattle.irr_orbit.proofs.SiteTraces.{displacement_trace, induced_trace}
use Rattle.irr_site.specs.Content.{family_content}
use Rattle.irr_site.specs.Families.{AreFamilyParts, Frame, IsFamilyRow}
use Rattle.irr_site.specs.FamilyParts.{IsDisplacedPart, IsInducedPart}
use Rattle.irr_site.specs.SiteContent.{ArePartsIn}
use Rattle.irr_site.specs.Traces.{AreSumsOf, number_at}
use Rattle.irr_site.specs.declared.part.SiteParts.{SiteParts}
use Rattle.irr_site.specs.declared.part.SmallPart.{SmallPart}
use Rattle.irr_site.specs.declared.rest.Rest.{Rest}
use Rattle.irr_site.proofs.FrameRows.{are_terms, sum_is}

module _ {S : Type 0} {order : S → ℕ} {value : (n : ℕ) → S → Number n} {group : Group} {x : Vector} {k : WaveVector}
    {n : ℕ} {t : Twisted} {small : List (SmallCharacter S)} {rows : List (Vec (Option Rest) Global)}
    {cs : List (SmallCharacter S)} {sites : ℕ} (f : Frame order value group x k n t small rows cs sites) where
  abbrev G : Operation → Type 0
  G = stands_for group

  abbrev law : IsGroup (stands_for group)
  law = (space_group group).is_group

  abbrev chosen : HasCanonical (stands_for group)
  chosen = has_canonical group

  abbrev s : Sign
  s = sign_of group.phase

  abbrev ops : Fin (place_count t) → Operation
  ops = listed_operations group (place_count t) (operation_places t) f.none

  abbrev numbering : IsNumbering (stands_for group) (IsInLittleGroup (stands_for group) k)
      (listed_operations group (place_count t) (operation_places t) f.none)
  numbering = f.little.numbering f.none

  abbrev table : IsTableOf (sign_of group.phase) (stands_for group) k
      (listed_operations group (place_count t) (operation_places t) f.none) (phase_table t)
  table = f.little.table f.none

  few_sites : f.orbit.sites ≤ 48
  few_sites = subst (λ m. m ≤ 48) (sym f.count) f.few

  pub few_rows : (d : ℕ) → d ≤ 48 → times f.orbit.sites d ≤ 2304
  few_rows d l = subst (λ m. m ≤ 2304) (sym (times-mul f.orbit.sites d))
      (let a : f.orbit.sites * d ≤ 48 * 48 = Nat.mul-le-mul few_sites l in omega (arith, a))

  -- the sum at an operation, as the program lists it
  module _ (row : ℕ → List (Number n)) (xs : List S) (sums : AreSumsOf order value n row rows xs)
      (c : Fin (place_count t) → Fin f.orbit.places → Number n)
      (reads : (i : Fin (place_count t)) (l : Fin f.orbit.places) → number_at n (row (to_nat i)) (to_nat l) ≡ c i l)
      {d : ℕ} (D : Representation (phases_over (phase_table t) n f.small_rows.divides) d)
      (traced : (i : Fin (place_count t)) (g : Fin f.orbit.sites → Number n)
      → AreTerms s k n f.orbit (c i) (ops i) g
      → trace (D.at i) ≡ sum (numbers n) f.orbit.sites g) where
    at : (i : Fin (place_count t)) → number_at n (map (value n) xs) (to_nat i) ≡ trace (D.at i)
    at i =
        let below = subst (λ m. to_nat i < m) (sym f.rests.count) (to_nat-lt i) in
        let v = item rows (from_nat (length rows) (to_nat i) below) in
        let rs = (get_or rows (to_nat i) v).items in
        sum_is G law s k n f.orbit (ops i) (row (to_nat i)) (c i) (reads i) rs (f.rests.each i v)
        (number_at n (map (value n) xs) (to_nat i)) (sums.each (to_nat i) v below)
        ∙ sym (traced i _ (are_terms G law s k n f.orbit (ops i) (row (to_nat i)) (c i) (reads i) rs (f.rests.each i v)))

    pub family_row : IsRowOf order value n (λ i. trace (D.at i)) xs
    family_row = record { count = sums.count ∙ f.rests.count; orders = sums.orders; numbers_at = at }

  -- the parts of a family, by the dimensions
  module _ {d : ℕ} (D : Representation (phases_over (phase_table t) n f.small_rows.divides) d) (xs : List S)
      (few : d ≤ 2304) (row : IsRowOf order value n (λ i. trace (D.at i)) xs) where
    abbrev pub part_row : IsFamilyRow order value (phase_table t) n f.small_rows.divides xs
    part_row = record { count = d; few = few; family = D; row = row }

    mult : (m : Fin f.small_rows.list.count) → (q : ℕ)
        × HasDimension (over (phase_table t) n f.small_rows.divides (f.small_rows.list.member m)).at D.at q
    mult m = dimension_exists (number_field n f.small_rows.positive)
        (over (phase_table t) n f.small_rows.divides (f.small_rows.list.member m)) D

    adds_up : count_total f.small_rows.list.count (λ m. (mult m).0 * f.small_rows.list.size m) ≡ d
    adds_up =
        let T = phase_table t in
        let φ = lift T.order n T.order_positive f.small_rows.divides in
        sizes_add_up (number_field n f.small_rows.positive) (map_families φ f.small_rows.list)
        (full-map_families (number_field T.order T.order_positive) (number_field n f.small_rows.positive) φ f.small_rows.list f.small_rows.full)
        D (λ m. (mult m).0) (λ m. (mult m).1)

    pub family_parts : (p : SiteParts) → p.dim ≡ d → AreFamilyParts order value (phase_table t) small xs p.parts.items
        → ArePartsIn (phase_table t) f.small_rows.list n f.small_rows.divides D (family_content p)
    family_parts p size are = record {
      mult = λ m. (mult m).0;
      dimension = λ m. (mult m).1;
      size = size;
      adds_up = adds_up;
      listing = are n f.small_rows part_row (λ m. (mult m).0) (λ m. (mult m).1);
    }

  -- the family that a representation of the site group induces
  module _ (m : Fin f.characters.list.count) where
    abbrev r : Representation (phases_over f.table n f.characters.divides) (f.characters.list.size m)
    r = over f.table n f.characters.divides (f.characters.list.member m)

    pub induced_family : Representation (phases_over (phase_table t) n f.small_rows.divides)
        (times f.orbit.sites (f.characters.list.size m))
    induced_family = induced G law chosen s k ops numbering (phase_table t) table n
        f.small_rows.positive f.small_rows.divides f.orbit n f.table f.is_table f.characters.divides
        (over f.table n f.characters.divides (f.characters.list.member m))

    pub induced_family-is : (i : Fin (place_count t)) → IsInduced s k n f.orbit
        (over f.table n f.characters.divides (f.characters.list.member m)).at (ops i) (induced_family.at i)
    unfolding induced_family
    induced_family-is i = induced-is G law chosen s k ops numbering (phase_table t) table n
        f.small_rows.positive f.small_rows.divides f.orbit n f.table f.is_table f.characters.divides
        (over f.table n f.characters.divides (f.characters.list.member m)) i

    module _ (y : SmallCharacter S)
        (character : IsCharacterOf order value f.table n f.characters.divides (f.characters.list.member m) y) (row : List S)
        (same : row ≡ y.row.items) (xs : List S) (sums : AreSumsOf order value n (λ i. map (value n) row) rows xs) where
      pub induced_row : IsRowOf order value n (λ i. trace (induced_family.at i)) xs
      induced_row = family_row (λ i. map (value n) row) xs sums (λ i l. trace (r.at l))
          (λ i l. ap (λ zs. number_at n (map (value n) zs) (to_nat l)) same ∙ character.row.numbers_at l)
          induced_family
          (λ i g terms. induced_trace G law chosen s k ops numbering (phase_table t) table n
          f.small_rows.positive f.small_rows.divides f.orbit r.at i (induced_family.at i) (induced_family-is i) g terms)

      pub induced_part : (p : SiteParts) → p.label ≡ suc (to_nat m) → p.dim ≡ sites * y.dim
          → AreFamilyParts order value (phase_table t) small xs p.parts.items → IsInducedPart f m p
      induced_part p label size are = record {
        label = label;
        family = induced_family;
        is_induced = induced_family-is;
        parts = family_parts induced_family xs (few_rows (f.characters.list.size m) (f.characters.small m)) induced_row p
            (size ∙ ap (λ a. a * y.dim) (sym f.count) ∙ ap (λ a. f.orbit.sites * a) character.size
            ∙ sym (times-mul f.orbit.sites (f.characters.list.size m))) are;
      }

  -- the family of displacements
  pub displaced_family : Representation (phases_over (phase_table t) n f.small_rows.divides) (times f.orbit.sites 3)
  displaced_family = displacement G law chosen s k ops numbering (phase_table t) table n
      f.small_rows.positive f.small_rows.divides f.orbit

  pub displaced_family-is : (i : Fin (place_count t)) → IsDisplacement s k n f.orbit
      (ops i) (displaced_family.at i)
  unfolding displaced_family
  displaced_family-is i = displacement-is G law chosen s k ops numbering (phase_table t) table n
      f.small_rows.positive f.small_rows.divides f.orbit i

  module _ (row : ℕ → List (Number n)) (reads : (i : Fin (place_count t)) (l : Fin f.orbit.places)
      → number_at n (row (to_nat i)) (to_nat l) ≡ trace (whole_matrix (numbers n) (ops i).rotation)) (xs : List S)
      (sums : AreSumsOf order value n row rows xs) where
    pub displaced_row : IsRowOf order value n (λ i. trace (displaced_family.at i)) xs
    displaced_row = family_row row xs sums (λ i l. trace (whole_matrix (numbers n) (ops i).rotation)) reads displaced_family
        (λ i g terms. displacement_trace G law chosen s k ops numbering (phase_table t) table n
        f.small_rows.positive f.small_rows.divides f.orbit i (displaced_family.at i) (displaced_family-is i) g terms)

    pub displaced_part : (p : SiteParts) → p.label ≡ 0 → p.dim ≡ sites * 3 → AreFamilyParts order value (phase_table t) small xs p.parts.items
        → IsDisplacedPart f p
    displaced_part p label size are = record {
      label = label;
      family = displaced_family;
      is_displacement = displaced_family-is;
      parts = family_parts displaced_family xs (few_rows 3 (omega arith)) displaced_row p
          (size ∙ ap (λ a. a * 3) (sym f.count) ∙ sym (times-mul f.orbit.sites 3)) are;
    }
