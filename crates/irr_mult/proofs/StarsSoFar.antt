-- The representatives of the stars of some wave vectors, with one more wave vector.
--   representative_of_arms       the least arm of a star is its representative
--   known_stars, more_stars      one more wave vector: its star is known, or its representative comes in its place
--   kept_with, present_with      what one of a list has, and the new one, with one more in its place
use Rattle.std.proofs.Common.{sym, subst, ℕ, inl, inr, List, [], ◌∷◌, ◌++◌, length, take, drop}
use Rattle.std.proofs.lemmas.List.{take-append-drop}
use Rattle.irr_algebra.specs.Fin.{Fin}
use Rattle.irr_rational.specs.Order.{IsAtMost}
use Rattle.irr_space.specs.Operation.{Operation, WaveVector, wave_component}
use Rattle.irr_space.specs.Star.{IsArms, IsInStar}
use Rattle.irr_cocycle.specs.SpaceGroupLaws.{IsGroup}
use Rattle.irr_full.specs.Parts.{IsRepresentative}
use Rattle.irr_mult.specs.Listing.{item}
use Rattle.irr_mult.specs.OrderedWaves.{IsWith}
use Rattle.irr_mult.specs.Stars.{AreStarsOf}
use Rattle.irr_mult.proofs.WaveOrder.{Below}
use Rattle.irr_mult.proofs.StarOrders.{reduced_same, star_symmetric, star_transitive}
use Rattle.irr_mult.proofs.WaveLists.{Each, InOrder, Some, each-item, each-map, each-push, each-put, of-each, of-order}
use Rattle.irr_mult.proofs.WaveLists.{of-some, order-item, order-put, some-item, some-last, some-new, some-push, some-put}

module _ (G : Operation → Type 0) (group : IsGroup G) where
  -- the least arm
  module _ (k : WaveVector) {n a : ℕ} (ops : Fin n → Operation) (arm : Fin a → WaveVector) (number : Fin a → Fin n)
      (are : IsArms G k ops arm number) (member : (j : Fin n) → G (ops j)) where
    pub arm_in_star : (i : Fin a) → IsInStar G k (arm i)
    arm_in_star i = record { operation = ops (number i); member = member (number i); carries = are.carries i }

    pub representative_of_arms : (i : Fin a)
        → ((j : Fin a) → IsAtMost (wave_component (arm i)) (wave_component (arm j))) → IsRepresentative G (arm i)
    representative_of_arms i least = record {
      reduced = are.reduced i;
      least = λ w s reduced.
          let found = are.all w (star_transitive G group k (arm i) w (arm_in_star i) s) in
          subst (λ v. IsAtMost (wave_component (arm i)) (wave_component v))
          (sym (reduced_same G w (arm found.0) reduced (are.reduced found.0) found.1)) (least found.0);
    }

  record IsStarOf (ws : List WaveVector) (r : WaveVector) : Type 0 where
    pub representative : IsRepresentative G r
    pub from : Some (λ w. IsInStar G w r) ws

  record SoFar (ws rs : List WaveVector) : Type 0 where
    pub each : Each (IsStarOf ws) rs
    pub all : Each (λ w. Some (λ r. IsInStar G r w) rs) ws
    pub ordered : InOrder Below rs

  so_far : (ws rs : List WaveVector) → AreStarsOf G ws rs → SoFar ws rs
  so_far ws rs h = record {
    each = of-each (IsStarOf ws) rs (λ i. record {
      representative = h.representative i;
      from = of-some (λ w. IsInStar G w (item rs i)) ws (h.from i).0 (h.from i).1;
    });
    all = of-each (λ w. Some (λ r. IsInStar G r w) rs) ws
        (λ j. of-some (λ r. IsInStar G r (item ws j)) rs (h.all j).0 (h.all j).1);
    ordered = of-order Below rs h.ordered;
  }

  stars_so_far : (ws rs : List WaveVector) → SoFar ws rs → AreStarsOf G ws rs
  stars_so_far ws rs h = record {
    representative = λ i. (each-item (IsStarOf ws) rs h.each i).representative;
    from = λ i. some-item (λ w. IsInStar G w (item rs i)) ws (each-item (IsStarOf ws) rs h.each i).from;
    all = λ j. some-item (λ r. IsInStar G r (item ws j)) rs
        (each-item (λ w. Some (λ r. IsInStar G r w) rs) ws h.all j);
    ordered = order-item Below rs h.ordered;
  }

  from_more : (ws : List WaveVector) (w r : WaveVector) → IsStarOf ws r → IsStarOf (ws ++ w ∷ []) r
  from_more ws w r s = record {
    representative = s.representative;
    from = some-push (λ v. IsInStar G v r) ws w s.from;
  }

  known : (ws rs : List WaveVector) (w : WaveVector) → SoFar ws rs → Some (λ r. IsInStar G r w) rs
      → SoFar (ws ++ w ∷ []) rs
  known ws rs w h s = record {
    each = each-map (IsStarOf ws) (IsStarOf (ws ++ w ∷ [])) (from_more ws w) rs h.each;
    all = each-push (λ v. Some (λ r. IsInStar G r v) rs) ws w h.all s;
    ordered = h.ordered;
  }

  added : (ws front back : List WaveVector) (w r : WaveVector) → SoFar ws (front ++ back) → IsRepresentative G r
      → IsInStar G w r → Each (λ x. Below x r) front → Each (Below r) back
      → SoFar (ws ++ w ∷ []) (front ++ r ∷ back)
  added ws front back w r h is s before behind = record {
    each = each-put (IsStarOf (ws ++ w ∷ [])) front back r
        (record { representative = is; from = some-last (λ v. IsInStar G v r) ws w s })
        (each-map (IsStarOf ws) (IsStarOf (ws ++ w ∷ [])) (from_more ws w) (front ++ back) h.each);
    all = each-push (λ v. Some (λ x. IsInStar G x v) (front ++ r ∷ back)) ws w
        (each-map (λ v. Some (λ x. IsInStar G x v) (front ++ back)) (λ v. Some (λ x. IsInStar G x v) (front ++ r ∷ back))
        (λ v. some-put (λ x. IsInStar G x v) front back r) ws h.all)
        (some-new (λ x. IsInStar G x w) front back r (star_symmetric G group w r s));
    ordered = order-put Below front back r before behind h.ordered;
  }

  pub known_stars : (ws rs : List WaveVector) (w : WaveVector) → AreStarsOf G ws rs → (i : Fin (length rs))
      → IsInStar G (item rs i) w → AreStarsOf G (ws ++ w ∷ []) rs
  known_stars ws rs w h i s = stars_so_far (ws ++ w ∷ []) rs
      (known ws rs w (so_far ws rs h) (of-some (λ r. IsInStar G r w) rs i s))

  pub more_stars : (ws rs new : List WaveVector) (w r : WaveVector) → AreStarsOf G ws rs → IsRepresentative G r
      → IsInStar G w r → IsWith rs r new → AreStarsOf G (ws ++ w ∷ []) new
  more_stars ws rs new w r h is s (inl (u, e)) = subst (AreStarsOf G (ws ++ w ∷ [])) (sym e)
      (known_stars ws rs w h u.0 (subst (λ x. IsInStar G x w) (sym u.1) (star_symmetric G group w r s)))
  more_stars ws rs new w r h is s (inr (n, p, e)) = subst (AreStarsOf G (ws ++ w ∷ [])) (sym e)
      (stars_so_far (ws ++ w ∷ []) (take n rs ++ r ∷ drop n rs) (added ws (take n rs) (drop n rs) w r
      (subst (SoFar ws) (sym (take-append-drop n rs)) (so_far ws rs h)) is s
      (of-each (λ x. Below x r) (take n rs) p.before) (of-each (Below r) (drop n rs) p.behind)))

-- what one of a list has, and the new one
pub kept_with : (P : WaveVector → Type 0) (rs new : List WaveVector) (r : WaveVector) → IsWith rs r new
    → (i : Fin (length rs)) → P (item rs i) → (j : Fin (length new)) × P (item new j)
kept_with P rs new r (inl (u, e)) i p = subst (λ (xs : List WaveVector). (j : Fin (length xs)) × P (item xs j)) (sym e) (i, p)
kept_with P rs new r (inr (n, q, e)) i p = subst (λ (xs : List WaveVector). (j : Fin (length xs)) × P (item xs j)) (sym e)
    (some-item P (take n rs ++ r ∷ drop n rs) (some-put P (take n rs) (drop n rs) r
    (subst (Some P) (sym (take-append-drop n rs)) (of-some P rs i p))))

pub present_with : (P : WaveVector → Type 0) (rs new : List WaveVector) (r : WaveVector) → IsWith rs r new
    → P r → (j : Fin (length new)) × P (item new j)
present_with P rs new r (inl (u, e)) p = subst (λ (xs : List WaveVector). (j : Fin (length xs)) × P (item xs j)) (sym e)
    (u.0, subst P (sym u.1) p)
present_with P rs new r (inr (n, q, e)) p = subst (λ (xs : List WaveVector). (j : Fin (length xs)) × P (item xs j)) (sym e)
    (some-item P (take n rs ++ r ∷ drop n rs) (some-new P (take n rs) (drop n rs) r p))
