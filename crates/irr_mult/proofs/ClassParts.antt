-- A representation whose diagonal places fall into classes, by the traces of its parts.
--   phase_of_equivalent     equivalent wave vectors have the same phases at a place
--   equivalent_at_place     wave vectors with the phases of one place are equivalent
--   mapped, unmapped        the items of a list and their values
--   row_by_items            a row, by its items
--   row_at                  a row whose items are the traces of the part
--   is_traced               such a row is that of a part
--   traced_of_classes       and the rows of the stars of some wave vectors are those of all of the representation
use Rattle.std.proofs.Common.{◌≡◌, sym, ◌∙◌, ap, subst, subst₂, refl, ℕ, suc, ◌<◌, ◌≤◌, ◌⊎◌, inl, inr, List, [], ◌∷◌, length, get_or, map, Vec, Global, arith}
use Rattle.std.proofs.lemmas.List.{get_or-map}
use Rattle.irr_algebra.specs.Fin.{Fin, to_nat}
use Rattle.irr_algebra.specs.Fin.Fin.{first, next}
use Rattle.irr_algebra.specs.Matrix.{Matrix, trace}
use Rattle.irr_algebra.proofs.Indices.{all_or_one, from_nat, same_or_not, to_nat-from_nat, to_nat-lt}
use Rattle.irr_number.specs.Number.{Number, numbers}
use Rattle.irr_theory.specs.FactorSystem.{Representation}
use Rattle.irr_rational.specs.Order.{IsBelow}
use Rattle.irr_rational.specs.Rational.{IsWhole}
use Rattle.irr_space.specs.Operation.{Operation, Vector, WaveVector, wave_component}
use Rattle.irr_space.specs.SpaceGroup.{IsTranslation}
use Rattle.irr_space.specs.Reciprocal.{Sign, IsPhase, AreEquivalent}
use Rattle.irr_space.specs.Star.{IsInStar}
use Rattle.irr_space.specs.PhaseTable.{phases_over}
use Rattle.irr_seitz.specs.PhaseMeaning.{sign_of}
use Rattle.irr_rep.specs.Twisted.{phase_table, place_count}
use Rattle.irr_kvec.specs.WaveMeaning.{wave_vector}
use Rattle.irr_cocycle.proofs.Operations.{dot-sub}
use Rattle.irr_cocycle.proofs.Reciprocals.{equivalent_sym}
use Rattle.irr_close.specs.StandsFor.{stands_for}
use Rattle.irr_close.proofs.SpaceGroups.{space_group}
use Rattle.irr_little.proofs.Spaces.{has_canonical}
use Rattle.irr_char.specs.Characters.{IsRowOf}
use Rattle.irr_full.specs.Part.{HasPhase, IsPart, IsPartOf, corner}
use Rattle.irr_full.specs.Parts.{IsRepresentative}
use Rattle.irr_full.proofs.Waves.{phase_over}
use Rattle.irr_full.proofs.LittleMatrices.{phase_exists}
use Rattle.irr_full.proofs.PartLaws.{part_representation, part_representation-is_part}
use Rattle.irr_full.proofs.PhaseLaws.{phase_equivalent, phase_difference, root_power_different}
use Rattle.irr_full.proofs.Selections.{ordered_injective, trace-corner}
use Rattle.irr_mult.specs.declared.star.StarCharacters.{StarCharacters}
use Rattle.irr_mult.specs.Listing.{item}
use Rattle.irr_mult.specs.Stars.{AreStarsOf}
use Rattle.irr_mult.specs.Traced.{AreStarCharacters, AreTraced, IsTraced, SpaceRepresentation, star_on, traces_at}
use Rattle.irr_mult.specs.Classes.{AreClassesAt, Classes, IsRowAt, class_trace, part_trace}
use Rattle.irr_mult.proofs.Listings.{item-get}
use Rattle.irr_mult.proofs.Chosen.{Chosen, chosen, sum_of_classes}

-- equivalent wave vectors have the same phases
pub phase_of_equivalent : (s : Sign) (G : Operation → Type 0) (k l : WaveVector) (M : ℕ) {e : ℕ}
    (A : Operation → Matrix (numbers M) e e) (j : Fin e) → AreEquivalent G k l → HasPhase s G k M A j → HasPhase s G l M A j
phase_of_equivalent s G k l M A j same has t x m p = has t x m (phase_equivalent s M G l k t x same m p)

-- the phases of one place are those of one wave vector, but for equivalent ones
pub equivalent_at_place : (s : Sign) (G : Operation → Type 0) (M : ℕ) → 0 < M → (k l : WaveVector)
    → ((t : Vector) → IsTranslation G t → (x : ℕ) × IsPhase s M k t x)
    → ((t : Vector) → IsTranslation G t → (x : ℕ) × IsPhase s M l t x)
    → {e : ℕ} (A : Operation → Matrix (numbers M) e e) (j : Fin e) → HasPhase s G k M A j → HasPhase s G l M A j → AreEquivalent G k l
equivalent_at_place s G M positive k l at_k at_l A j has_k has_l = record {
  is_whole = λ t m.
      let x = at_k t m in
      let y = at_l t m in
      let same = root_power_different s M positive y.0 x.0 y.1.below x.1.below (sym (has_l t y.0 m y.1) ∙ has_k t x.0 m x.1) in
      subst IsWhole (sym (dot-sub k l t)) (phase_difference s M positive k l t x.0 x.1 (subst (λ z. IsPhase s M l t z) same y.1));
}

-- the place of an item among the values, and back
pub mapped : {X Y : Type 0} (f : X → Y) (xs : List X) (i : Fin (length xs))
    → (u : Fin (length (map f xs))) × (to_nat u ≡ to_nat i) × (item (map f xs) u ≡ f (item xs i))
unfolding item to_nat
mapped f [] i = elim i [ ]
mapped f (x ∷ xs) first = (first, refl, refl)
mapped f (x ∷ xs) (next i) = let r = mapped f xs i in (next r.0, ap suc r.1, r.2)

pub unmapped : {X Y : Type 0} (f : X → Y) (xs : List X) (u : Fin (length (map f xs)))
    → (i : Fin (length xs)) × (to_nat u ≡ to_nat i) × (item (map f xs) u ≡ f (item xs i))
unfolding item to_nat
unmapped f [] u = elim u [ ]
unmapped f (x ∷ xs) first = (first, refl, refl)
unmapped f (x ∷ xs) (next u) = let r = unmapped f xs u in (next r.0, ap suc r.1, r.2)

-- the numbers at each place, by the items of the row
pub row_by_items : {S : Type 0} (order : S → ℕ) (value : (n : ℕ) → S → Number n) (n : ℕ) {h : ℕ} (f : Fin h → Number n)
    (row : List S) → length row ≡ h → ((u : Fin (length row)) → order (item row u) ≡ n)
    → ((u : Fin (length row)) (p : Fin h) → to_nat u ≡ to_nat p → value n (item row u) ≡ f p)
    → IsRowOf order value n f row
row_by_items {S} order value n {h} f row count orders items = record {
  count = count;
  orders = λ k d l. subst (λ x. order x ≡ n) (item-get row (from_nat (length row) k l) d
      ∙ ap (λ i. get_or row i d) (to_nat-from_nat (length row) k l)) (orders (from_nat (length row) k l));
  numbers_at = λ p.
      let l : to_nat p < length row = subst (λ m. to_nat p < m) (sym count) (to_nat-lt p) in
      let u = from_nat (length row) (to_nat p) l in
      let d = item row u in
      let same : to_nat u ≡ to_nat p = to_nat-from_nat (length row) (to_nat p) l in
      get_or-map (value n) row (to_nat p) d (numbers n).zero l
      ∙ ap (value n) (ap (λ i. get_or row i d) (sym same) ∙ sym (item-get row u d)) ∙ items u p same;
}

module _ {S : Type 0} (order : S → ℕ) (value : (n : ℕ) → S → Number n) (A : SpaceRepresentation) (C : Classes A) where
  -- a row whose items are the traces of the part
  pub row_at : (c : StarCharacters S) (cs : List ℕ) (row : List S) (has : AreStarCharacters order value A.group A.order c)
      (at : AreClassesAt C (wave_vector c.wave) cs) → length row ≡ place_count c.table
      → ((u : Fin (length row)) → order (item row u) ≡ A.order)
      → ((u : Fin (length row)) (p : Fin (place_count c.table)) → to_nat u ≡ to_nat p
      → value A.order (item row u) ≡ part_trace C (wave_vector c.wave) at (has.star.operation p))
      → IsRowAt order value C c cs row
  row_at c cs row has at count orders items = record {
    has = has;
    at = at;
    traces = row_by_items order value A.order
        (λ (p : Fin (place_count c.table)). part_trace C (wave_vector c.wave) at (has.star.operation p)) row count orders items;
  }

  module _ (c : StarCharacters S) (cs : List ℕ) (row : List S) (r : IsRowAt order value C c cs row) where
    -- the class of the place is listed
    Listed : Fin A.size → Type 0
    Listed j = (t : Fin (length cs)) × (r.at.index t ≡ C.class j)

    listed_or_not : (j : Fin A.size) → Listed j ⊎ (Listed j → ⊥)
    unfolding Listed
    listed_or_not j = elim (all_or_one (length cs) (λ t. r.at.index t ≡ C.class j → ⊥) (λ t. r.at.index t ≡ C.class j)
        (λ t. elim (same_or_not (r.at.index t) (C.class j)) [ inl same ↦ inr same | inr other ↦ inl other ])) [
          | inl none ↦ inr (λ found. none found.0 found.1)
          | inr found ↦ inl found
        ]

    places_of : Chosen Listed
    places_of = chosen A.size Listed listed_or_not

    phase_at_class : (d : Fin C.count) (t : Vector) → IsTranslation (stands_for A.group) t
        → (x : ℕ) × IsPhase (sign_of A.group.phase) A.order (C.wave d) t x
    phase_at_class d t m = let o = C.has_order d in
        phase_over (stands_for A.group) (sign_of A.group.phase) (C.wave d) o.0 A.order o.1 o.2 A.positive t m

    phase_at_star : (t : Vector) → IsTranslation (stands_for A.group) t
        → (x : ℕ) × IsPhase (sign_of A.group.phase) A.order (wave_vector c.wave) t x
    phase_at_star t m = phase_exists (stands_for A.group) (space_group A.group).is_group (has_canonical A.group)
        (star_on r.has.star) A.order A.positive r.has.characters.divides t m

    -- the places of the part are those of the listed classes
    listed_has_phase : (j : Fin A.size) → Listed j
        → HasPhase (sign_of A.group.phase) (stands_for A.group) (wave_vector c.wave) A.order A.at j
    unfolding Listed
    listed_has_phase j found = phase_of_equivalent (sign_of A.group.phase) (stands_for A.group) (C.wave (C.class j))
        (wave_vector c.wave) A.order A.at j
        (equivalent_sym (stands_for A.group) (wave_vector c.wave) (C.wave (C.class j))
        (subst (λ d. AreEquivalent (stands_for A.group) (wave_vector c.wave) (C.wave d)) found.1 (r.at.holds found.0)))
        (C.has_phase j)

    has_phase_listed : (j : Fin A.size)
        → HasPhase (sign_of A.group.phase) (stands_for A.group) (wave_vector c.wave) A.order A.at j → Listed j
    unfolding Listed
    has_phase_listed j has = r.at.all (C.class j) (equivalent_at_place (sign_of A.group.phase) (stands_for A.group)
        A.order A.positive (wave_vector c.wave) (C.wave (C.class j)) phase_at_star (phase_at_class (C.class j)) A.at j has (C.has_phase j))

    is_part : IsPart (sign_of A.group.phase) (stands_for A.group) (wave_vector c.wave) A.order A.at places_of.places
    is_part = record {
      has_phase = λ i. listed_has_phase (places_of.places i) (places_of.holds i);
      all = λ j has. places_of.all j (has_phase_listed j has);
      ordered = places_of.ordered;
    }

    index_injective : (t u : Fin (length cs)) → r.at.index t ≡ r.at.index u → t ≡ u
    index_injective = ordered_injective r.at.index r.at.ordered

    places_injective : (i l : Fin places_of.count) → places_of.places i ≡ places_of.places l → i ≡ l
    places_injective = ordered_injective places_of.places places_of.ordered

    trace_of_part : (g : Operation) → part_trace C (wave_vector c.wave) r.at g ≡ trace (corner places_of.places (A.at g))
    unfolding part_trace class_trace Listed
    trace_of_part g = sum_of_classes (numbers A.order) r.at.index index_injective places_of.places places_injective C.class
        (λ j t e. places_of.all j (t, e)) (λ i. places_of.holds i) (λ j. (A.at g).at j j)
        ∙ sym (trace-corner (numbers A.order) places_of.places (A.at g))

    -- the little group acts there
    abbrev part_here : Representation (phases_over (phase_table c.table) A.order r.has.characters.divides) places_of.count
    part_here = part_representation (stands_for A.group) (space_group A.group).is_group (has_canonical A.group)
        (star_on r.has.star) A.order A.positive r.has.characters.divides A.at A.is_representation A.has_diagonal
        places_of.places is_part

    -- the row is that of the part there
    pub is_traced : A.size ≤ 2304 → IsRepresentative (stands_for A.group) (wave_vector c.wave) → IsTraced order value A c row
    is_traced few representative = record {
      has = r.has;
      representative = representative;
      row = record {
        count = places_of.count;
        few = let l = places_of.few in omega (arith, l, few);
        part = part_here;
        row = record {
          count = r.traces.count;
          orders = r.traces.orders;
          numbers_at = λ p. r.traces.numbers_at p ∙ trace_of_part (r.has.star.operation p)
              ∙ ap trace (sym (part_is.matrices p));
        };
      };
      places = places_of.places;
      is_part = part_is;
    }
      where
        part_is : IsPartOf (star_on r.has.star) A.order r.has.characters.divides A.at places_of.places part_here
        part_is = part_representation-is_part (stands_for A.group) (space_group A.group).is_group (has_canonical A.group)
            (star_on r.has.star) A.order A.positive r.has.characters.divides A.at A.is_representation A.has_diagonal
            places_of.places is_part

abbrev pub star_wave : {S : Type 0} → StarCharacters S → WaveVector
star_wave c = wave_vector c.wave

-- the traces of the parts at the stars of the wave vectors of all classes
pub traced_of_classes : (A : SpaceRepresentation) (C : Classes A) → A.size ≤ 2304
    → {S : Type 0} (order : S → ℕ) (value : (n : ℕ) → S → Number n) (ws : List WaveVector)
    → ((c : Fin C.count) → (i : Fin (length ws)) × AreEquivalent (stands_for A.group) (item ws i) (C.wave c))
    → (stars : List (StarCharacters S)) (rows : List (Vec S Global)) → length rows ≡ length stars
    → AreStarsOf (stands_for A.group) ws (map (λ c. wave_vector c.wave) stars)
    → (cs : Fin (length stars) → List ℕ)
    → ((i : Fin (length stars)) → IsRowAt order value C (item stars i) (cs i) (traces_at rows (to_nat i)))
    → AreTraced order value A stars rows
traced_of_classes A C few {S} order value ws covered stars rows same_length are cs row = record {
  same_length = same_length;
  star = λ i. is_traced order value A C (item stars i) (cs i) (traces_at rows (to_nat i)) (row i) few
      (let u = at_star i in subst (IsRepresentative (stands_for A.group)) u.2 (are.representative u.0));
  ordered = λ i j l.
      let u = at_star i in
      let w = at_star j in
      let less : to_nat u.0 < to_nat w.0 = subst₂ (λ a b. a < b) (sym u.1) (sym w.1) l in
      subst₂ (λ (k : WaveVector) (n : WaveVector). IsBelow (wave_component k) (wave_component n)) u.2 w.2 (are.ordered u.0 w.0 less);
  all = λ j.
      let w = covered (C.class j) in
      let u = are.all w.0 in
      let i = unmapped star_wave stars u.0 in (
        i.0,
        item ws w.0,
        subst (λ (k : WaveVector). IsInStar (stands_for A.group) k (item ws w.0)) i.2 u.1,
        phase_of_equivalent (sign_of A.group.phase) (stands_for A.group) (C.wave (C.class j)) (item ws w.0) A.order A.at j
            (equivalent_sym (stands_for A.group) (item ws w.0) (C.wave (C.class j)) w.1) (C.has_phase j),
      );
}
  where
    at_star : (i : Fin (length stars)) → (u : Fin (length (map star_wave stars))) × (to_nat u ≡ to_nat i)
        × (item (map star_wave stars) u ≡ wave_vector (item stars i).wave)
    at_star i = mapped star_wave stars i
