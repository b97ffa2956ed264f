-- The parts of the tensors of a form.
--   one_wave             what holds of one wave vector
--   form_orders          the order at the wave vector 0
--   form_traced, traced_here     the rows at the stars of 0 are those of the tensors
use Rattle.std.proofs.Common.{◌≡◌, sym, ◌∙◌, ap, subst, subst₂, refl, ℕ, ◌<◌, List, [], ◌∷◌, length, get_or, map, Vec, Global, arith}
use Rattle.std.specs.Int.{◌∣◌}
use Rattle.std.specs.List.{All}
use Rattle.std.proofs.lemmas.List.{get_or-map}
use native.Mathlib.Nat as Nat
use Rattle.irr_algebra.specs.Fin.{Fin, to_nat}
use Rattle.irr_algebra.specs.Fin.Fin.{first, next}
use Rattle.irr_algebra.proofs.Indices.{to_nat-lt}
use Rattle.irr_number.specs.Number.{Number}
use Rattle.irr_space.specs.Operation.{WaveVector}
use Rattle.irr_space.specs.Reciprocal.{AreEquivalent, IsOrder}
use Rattle.irr_cocycle.proofs.Reciprocals.{equivalent_refl}
use Rattle.irr_kvec.specs.WaveMeaning.{wave_vector}
use Rattle.irr_kvec.specs.declared.wave.Wave.{Wave}
use Rattle.irr_close.specs.StandsFor.{stands_for}
use Rattle.irr_close.specs.declared.group.Group.{Group}
use Rattle.irr_close.proofs.SpaceGroups.{space_group}
use Rattle.irr_mult.specs.Classes.{IsRowAt}
use Rattle.irr_mult.specs.Listing.{item}
use Rattle.irr_mult.specs.OrderedWaves.{waves_of}
use Rattle.irr_mult.specs.Stars.{AreStarsOf}
use Rattle.irr_mult.specs.StarSearch.{HasOrder}
use Rattle.irr_mult.specs.Traced.{AreStarCharacters, AreTraced, traces_at}
use Rattle.irr_mult.specs.declared.star.StarCharacters.{StarCharacters}
use Rattle.irr_mult.proofs.ClassParts.{traced_of_classes}
use Rattle.irr_mult.proofs.Listings.{item-get}
use Rattle.irr_side.specs.ArmTraces.{AreEach}
use Rattle.irr_side.proofs.SideLists.{some_item}
use Rattle.irr_side.proofs.StarsByWaves.{stars_of_waves}
use Rattle.irr_power.specs.FormTraces.{IsStarRow}
use Rattle.irr_power.specs.Tensors.{origin}
use Rattle.irr_input.specs.declared.form.Form.{Form}
use Rattle.irr_power.proofs.FormSpaces.{few_components, form_classes, form_row_at, form_space, near_origin}

-- one wave vector
pub one_wave : (P : Wave → Type 0) (w : Wave) → P w → All P (w ∷ [])
one_wave P w here k d l = subst (λ j. P (get_or (w ∷ []) j d)) (let none : 0 ≡ k = omega (arith, l) in none) here

pub form_orders : (group : Group) (M n : ℕ) → IsOrder (stands_for group) origin n → n ∣ M → (w : Wave) → wave_vector w ≡ origin
    → All (HasOrder group M) (w ∷ [])
form_orders group M n order divides w e = one_wave (HasOrder group M) w
    (n, subst (λ v. IsOrder (stands_for group) v n) (sym e) order, divides)

module _ (group : Group) (M : ℕ) (positive : 0 < M) (f : Form) (n : ℕ) (order : IsOrder (stands_for group) origin n) (divides : n ∣ M)
    (w : Wave) (is : wave_vector w ≡ origin) {S : Type 0} (order_of : S → ℕ) (value : (n : ℕ) → S → Number n)
    (stars : List (StarCharacters S)) (are : AreStarsOf (stands_for group) (waves_of (w ∷ [])) (map (λ c. wave_vector c.wave) stars))
    (characters : All (AreStarCharacters order_of value group M) stars) (rows : List (Vec S Global))
    (made : AreEach (λ i (row : Vec S Global). (c : StarCharacters S)
    → IsStarRow order_of value M group f (get_or stars i c).wave row.items) (length stars) rows) where
  covered : (c : Fin 1) → (i : Fin (length (waves_of (w ∷ [])))) × AreEquivalent (stands_for group) (item (waves_of (w ∷ [])) i) origin
  unfolding item
  covered c = (first, subst (λ v. AreEquivalent (stands_for group) v origin) (sym is) (equivalent_refl (stands_for group) origin))

  -- the wave vectors of the stars are equivalent to 0
  near_listed : (vs : List WaveVector) → AreStarsOf (stands_for group) (waves_of (w ∷ [])) vs → (i : Fin (length vs))
      → AreEquivalent (stands_for group) (item vs i) origin
  unfolding item
  near_listed vs these i =
      let from = these.from i in
      near_origin (stands_for group) (space_group group).is_group (item (waves_of (w ∷ [])) from.0) (item vs i) (origin_at from.0) from.1
    where
      origin_at : (j : Fin (length (waves_of (w ∷ [])))) → item (waves_of (w ∷ [])) j ≡ origin
      origin_at first = is
      origin_at (next j) = elim j [ ]

  near_at : (i : Fin (length stars)) → AreEquivalent (stands_for group) (wave_vector (item stars i).wave) origin
  unfolding item
  near_at i = let m = mapped_item stars i in subst (λ v. AreEquivalent (stands_for group) v origin) m.1
      (near_listed (map (λ (c : StarCharacters S). wave_vector c.wave) stars) are m.0)
    where
      mapped_item : (xs : List (StarCharacters S)) (i : Fin (length xs)) → (u : Fin (length (map (λ (c : StarCharacters S). wave_vector c.wave) xs)))
          × (item (map (λ (c : StarCharacters S). wave_vector c.wave) xs) u ≡ wave_vector (item xs i).wave)
      mapped_item [] i = elim i [ ]
      mapped_item (x ∷ xs) first = (first, refl)
      mapped_item (x ∷ xs) (next i) = let m = mapped_item xs i in (next m.0, m.1)

  pub form_traced : AreTraced order_of value (form_space group M positive f) stars rows
  form_traced = traced_of_classes (form_space group M positive f) (form_classes group M positive f n order divides) (few_components f)
      order_of value (waves_of (w ∷ [])) covered stars rows made.count are (λ i. 0 ∷ []) row_at
    where
      row_at : (i : Fin (length stars)) → IsRowAt order_of value (form_classes group M positive f n order divides) (item stars i)
          (0 ∷ []) (traces_at rows (to_nat i))
      row_at i =
          let listed : to_nat i < length rows = subst (λ z. to_nat i < z) (sym made.count) (to_nat-lt i) in
          let some = some_item rows (to_nat i) listed in
          let here = sym (item-get stars i (item stars i)) in
          subst₂ (λ (e : StarCharacters S) xs. IsRowAt order_of value (form_classes group M positive f n order divides) e (0 ∷ []) xs)
          here (sym (get_or-map (λ (v : Vec S Global). v.items) rows (to_nat i) some [] listed))
          (form_row_at group M positive f n order divides order_of value (get_or stars (to_nat i) (item stars i))
          (characters (to_nat i) (item stars i) (to_nat-lt i))
          (subst (λ (e : StarCharacters S). AreEquivalent (stands_for group) (wave_vector e.wave) origin) (sym here) (near_at i))
          (get_or rows (to_nat i) some).items (made.each (to_nat i) some (to_nat-lt i) (item stars i)))

-- the same from what the program has made
pub traced_here : (group : Group) (M : ℕ) (positive : 0 < M) (f : Form) → IsOrder (stands_for group) origin M → (w : Wave)
    → wave_vector w ≡ origin → {S : Type 0} (order_of : S → ℕ) (value : (n : ℕ) → S → Number n) (found waves : List Wave)
    (made stars : List (StarCharacters S)) (rows xs : List (Vec S Global)) → waves ≡ found → stars ≡ made → xs ≡ rows
    → AreStarsOf (stands_for group) (waves_of (w ∷ [])) (waves_of found) → map (λ (c : StarCharacters S). c.wave) made ≡ waves
    → All (AreStarCharacters order_of value group M) made
    → AreEach (λ i (row : Vec S Global). (c : StarCharacters S) → IsStarRow order_of value M group f (get_or stars i c).wave row.items)
    (length stars) rows → AreTraced order_of value (form_space group M positive f) stars xs
traced_here group M positive f order w is {S} order_of value found waves made stars rows xs is_waves is_stars is_rows are same characters each =
    form_traced group M positive f M order (Nat.dvd_refl M) w is order_of value stars
    (stars_of_waves group (waves_of (w ∷ [])) found stars (ap (map (λ (c : StarCharacters S). c.wave)) is_stars ∙ same ∙ is_waves) are)
    (subst (λ cs. All (AreStarCharacters order_of value group M) cs) (sym is_stars) characters) xs
    (subst (λ ys. AreEach (λ i (row : Vec S Global). (c : StarCharacters S)
    → IsStarRow order_of value M group f (get_or stars i c).wave row.items) (length stars) ys) (sym is_rows) each)
