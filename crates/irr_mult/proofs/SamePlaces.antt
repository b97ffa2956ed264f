-- The places of the wave vectors that are equal to one.
--   SameSoFar, none_same, more_same      among the first ones
--   all_equivalent                       those that are equivalent to it, where all are reduced
use Rattle.std.proofs.Common.{◌≡◌, sym, ◌∙◌, ap, subst, ℕ, ◌+◌, ◌<◌, ◌⊎◌, inl, inr, List, [], ◌∷◌, ◌++◌, length, get_or, arith}
use Rattle.std.specs.List.{All}
use Rattle.std.proofs.lemmas.Bool.{cases_lt}
use Rattle.irr_algebra.specs.Fin.{Fin, to_nat}
use Rattle.irr_algebra.proofs.Indices.{from_nat, to_nat-from_nat, to_nat-lt, to_nat_inj}
use Rattle.irr_space.specs.Reciprocal.{AreEquivalent}
use Rattle.irr_cocycle.proofs.Reciprocals.{equivalent_refl}
use Rattle.irr_kvec.specs.WaveMeaning.{wave_vector}
use Rattle.irr_kvec.specs.declared.wave.Wave.{Wave}
use Rattle.irr_close.specs.StandsFor.{stands_for}
use Rattle.irr_close.specs.declared.group.Group.{Group}
use Rattle.irr_mult.specs.Listing.{IsListing, item}
use Rattle.irr_mult.specs.StarSearch.{IsReducedIn}
use Rattle.irr_mult.proofs.Listings.{item-get, item-read, listing-append, listing-none, listing-one, listing-same}
use Rattle.irr_mult.proofs.StarOrders.{reduced_same}

module _ (waves : List Wave) (w : Wave) where
  abbrev Is : Fin (length waves) → Type 0
  Is j = wave_vector (item waves j) ≡ wave_vector w

  abbrev Same : ℕ → Fin (length waves) → Type 0
  Same k j = (to_nat j < k) × (wave_vector (item waves j) ≡ wave_vector w)

  abbrev Before : Fin (length waves) → Fin (length waves) → Type 0
  Before i j = to_nat i < to_nat j

  pub SameSoFar : ℕ → List ℕ → Type 0
  SameSoFar k places = IsListing to_nat (Same k) Before places

  pub none_same : SameSoFar 0 []
  unfolding SameSoFar
  none_same = listing-none to_nat Before (Same 0) (λ j (b, s). omega (arith, b))

  module _ (k : ℕ) (l : k < length waves) (v : Wave) (is : v ≡ get_or waves k v) where
    own : Fin (length waves)
    own = from_nat (length waves) k l

    number : to_nat (from_nat (length waves) k l) ≡ k
    number = to_nat-from_nat (length waves) k l

    read : wave_vector v ≡ wave_vector (item waves (from_nat (length waves) k l))
    read = ap wave_vector (item-read waves k l v is)

    at_own : (j : Fin (length waves)) → to_nat j ≡ k → from_nat (length waves) k l ≡ j
    at_own j e = to_nat_inj (from_nat (length waves) k l) j (number ∙ sym e)

    pub more_same : (old new : List ℕ) → (wave_vector v ≡ wave_vector w → new ≡ old ++ k ∷ [])
        → (¬ (wave_vector v ≡ wave_vector w) → new ≡ old) → (same : (wave_vector v ≡ wave_vector w) ⊎ ¬ (wave_vector v ≡ wave_vector w))
        → SameSoFar k old → SameSoFar (k + 1) new
    unfolding SameSoFar
    more_same old new kept passed (inl e) h = subst (IsListing to_nat (Same (k + 1)) Before) (sym (kept e))
        (listing-append to_nat Before (Same k) (λ j. to_nat j ≡ k) (Same (k + 1)) old (k ∷ []) h
        (listing-one to_nat Before (λ j. to_nat j ≡ k) (from_nat (length waves) k l) k number at_own (sym number))
        (λ j (b, s). (omega (arith, b), s))
        (λ j b. (omega (arith, b), ap (λ i. wave_vector (item waves i)) (sym (at_own j b)) ∙ sym read ∙ e))
        (λ j (b, s). elim (cases_lt (to_nat j) k) [ inl m ↦ inl (m, s) | inr g ↦ inr (omega (arith, b, g)) ])
        (λ i j (b, s) f. omega (arith, b, f)))
    more_same old new kept passed (inr n) h = subst (IsListing to_nat (Same (k + 1)) Before) (sym (passed n))
        (listing-same to_nat Before (Same k) (Same (k + 1)) old h (λ j (b, s). (omega (arith, b), s))
        (λ j (b, s). (
          elim (cases_lt (to_nat j) k) [
            | inl m ↦ m
            | inr g ↦ absurd (n (read ∙ ap (λ i. wave_vector (item waves i)) (at_own j (omega (arith, b, g))) ∙ s))
          ],
          s,
        )))

  pub all_equivalent : (k : ℕ) → k ≡ length waves → (places : List ℕ) → SameSoFar k places → (group : Group)
      → IsReducedIn group w → All (IsReducedIn group) waves
      → IsListing to_nat (λ (j : Fin (length waves)). AreEquivalent (stands_for group) (wave_vector w)
      (wave_vector (item waves j))) (λ i j. to_nat i < to_nat j) places
  unfolding SameSoFar
  all_equivalent k e places h group own all = listing-same to_nat Before (Same k)
      (λ j. AreEquivalent (stands_for group) (wave_vector w) (wave_vector (item waves j))) places h
      (λ j (b, s). subst (AreEquivalent (stands_for group) (wave_vector w)) (sym s)
      (equivalent_refl (stands_for group) (wave_vector w)))
      (λ j a. (
        subst (λ n. to_nat j < n) (sym e) (to_nat-lt j),
        sym (reduced_same (stands_for group) (wave_vector w) (wave_vector (item waves j)) own (reduced j) a),
      ))
    where
      reduced : (j : Fin (length waves)) → IsReducedIn group (item waves j)
      reduced j = subst (IsReducedIn group) (sym (item-get waves j w)) (all (to_nat j) w (to_nat-lt j))
