-- Stars with characters, by their wave vectors.
--   stars_limits, stars_reduced     what holds of the wave vectors
--   stars_of_waves                  the stars of some wave vectors
use Rattle.std.proofs.Common.{◌≡◌, refl, sym, ◌∙◌, ap, subst, ℕ, ◌<◌, List, [], ◌∷◌, length, get_or, map}
use Rattle.std.specs.List.{All}
use Rattle.std.proofs.lemmas.List.{get_or-map, length-map}
use Rattle.irr_algebra.proofs.Indices.{from_nat, to_nat-from_nat}
use Rattle.irr_space.specs.Operation.{WaveVector}
use Rattle.irr_space.specs.Reciprocal.{IsReduced}
use Rattle.irr_kvec.specs.Centrings.{IsWithinLimits}
use Rattle.irr_kvec.specs.WaveMeaning.{wave_vector}
use Rattle.irr_kvec.specs.declared.wave.Wave.{Wave}
use Rattle.irr_close.specs.StandsFor.{stands_for}
use Rattle.irr_close.specs.declared.group.Group.{Group}
use Rattle.irr_mult.specs.Listing.{item}
use Rattle.irr_mult.specs.OrderedWaves.{waves_of}
use Rattle.irr_mult.specs.Stars.{AreStarsOf}
use Rattle.irr_mult.specs.StarSearch.{IsReducedIn}
use Rattle.irr_mult.specs.declared.star.StarCharacters.{StarCharacters}
use Rattle.irr_mult.proofs.Listings.{item-get}

-- the stars, by their wave vectors
module _ {X : Type 0} (group : Group) (ws : List WaveVector) (waves : List Wave) (stars : List (StarCharacters X))
    (same : map (λ (c : StarCharacters X). c.wave) stars ≡ waves) where
  along : (P : Wave → Type 0) → All P waves → All (λ (c : StarCharacters X). P c.wave) stars
  along P all n c below = subst P (ap (λ xs. get_or xs n c.wave) (sym same) ∙ get_or-map (λ (c : StarCharacters X). c.wave) stars n c c.wave below)
      (all n c.wave (subst (λ z. n < z) (sym (length-map stars (λ (c : StarCharacters X). c.wave)) ∙ ap length same) below))

  pub stars_limits : All IsWithinLimits waves → All (λ (c : StarCharacters X). IsWithinLimits c.wave) stars
  stars_limits = along IsWithinLimits

  module _ (are : AreStarsOf (stands_for group) ws (waves_of waves)) where
    waves_reduced : All (IsReducedIn group) waves
    waves_reduced n d below =
        let m : n < length (waves_of waves) = subst (λ z. n < z) (sym (length-map waves wave_vector)) below in
        let i = from_nat (length (waves_of waves)) n m in
        let star : item (waves_of waves) i ≡ wave_vector (get_or waves n d) =
        item-get (waves_of waves) i (wave_vector d)
        ∙ ap (λ z. get_or (waves_of waves) z (wave_vector d)) (to_nat-from_nat (length (waves_of waves)) n m)
        ∙ get_or-map wave_vector waves n d (wave_vector d) below in
        subst (λ (w : WaveVector). IsReduced (stands_for group) w w) star (are.representative i).reduced

    pub stars_reduced : All (λ (c : StarCharacters X). IsReducedIn group c.wave) stars
    stars_reduced = along (IsReducedIn group) waves_reduced

    pub stars_of_waves : AreStarsOf (stands_for group) ws (map (λ (c : StarCharacters X). wave_vector c.wave) stars)
    stars_of_waves = subst (AreStarsOf (stands_for group) ws) (ap waves_of (sym same) ∙ twice stars) are
      where
        twice : (xs : List (StarCharacters X)) → waves_of (map (λ (c : StarCharacters X). c.wave) xs)
            ≡ map (λ (c : StarCharacters X). wave_vector c.wave) xs
        twice [] = refl
        twice (x ∷ xs) = ap (λ ys. wave_vector x.wave ∷ ys) (twice xs)
