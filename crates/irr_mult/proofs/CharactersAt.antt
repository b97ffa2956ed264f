-- The characters at some wave vectors, one after another.
--   AtFirst, none_at, more_at      at the first ones
use Rattle.std.proofs.Common.{◌≡◌, refl, sym, ◌∙◌, ap₂, subst, ℕ, ◌+◌, ◌<◌, List, [], ◌∷◌, ◌++◌, length, get_or, map, take}
use Rattle.std.specs.List.{All}
use Rattle.std.proofs.lemmas.List.{map-append, take_more}
use Rattle.std.proofs.lemmas.List.Elements.{All-nil, All-push}
use Rattle.irr_kvec.specs.declared.wave.Wave.{Wave}
use Rattle.irr_mult.specs.declared.star.StarCharacters.{StarCharacters}

module _ {S : Type 0} (has : StarCharacters S → Type 0) (waves : List Wave) where
  pub record AtFirst (k : ℕ) (stars : List (StarCharacters S)) : Type 0 where
    pub waves_are : map (λ (c : StarCharacters S). c.wave) stars ≡ take k waves
    pub characters : All has stars

  pub none_at : (stars : List (StarCharacters S)) → stars ≡ [] → AtFirst 0 stars
  none_at stars e = subst (AtFirst 0) (sym e) (record { waves_are = refl; characters = All-nil has })

  pub more_at : (k : ℕ) → k < length waves → (w : Wave) → w ≡ get_or waves k w → (c : StarCharacters S) → c.wave ≡ w
      → has c → (stars after : List (StarCharacters S)) → after ≡ stars ++ c ∷ [] → AtFirst k stars
      → AtFirst (k + 1) after
  more_at k l w is c own holds stars after e h = subst (AtFirst (k + 1)) (sym e) (record {
    waves_are = map-append (λ (x : StarCharacters S). x.wave) stars (c ∷ [])
        ∙ ap₂ (λ ws v. ws ++ v ∷ []) h.waves_are (own ∙ is) ∙ sym (take_more waves k w l);
    characters = All-push has stars c h.characters holds;
  })
