-- Where a wave vector belongs in a list in order.
--   BelowSoFar, none_below, more_below     those before it
--   one_of, place_here, place_last         where it is, and where it belongs
--   place_within, with_one, with_other     the list with it
--   limits_with                            the limits of those of the list and of one more
use Rattle.std.proofs.Common.{◌≡◌, sym, ◌∙◌, ap, ap₂, subst, inl, inr, ℕ, ◌+◌, ◌<◌, ◌≤◌, List, [], ◌∷◌, ◌++◌, length, get_or, take, drop}
use Rattle.std.proofs.lemmas.List.{drop-map, drop_all, drop_more, get_or-map, length-map, map-append, take-append-drop, take-map, take_more}
use Rattle.std.proofs.lemmas.List.Elements.{All-cons, All-head, All-tail}
use Rattle.std.specs.List.{All}
use native.Mathlib.Nat as Nat
use Rattle.irr_algebra.proofs.Indices.{from_nat}
use Rattle.irr_rational.proofs.Lexicographic.{below_trans}
use Rattle.irr_space.specs.Operation.{wave_component}
use Rattle.irr_kvec.specs.Centrings.{IsWithinLimits}
use Rattle.irr_kvec.specs.WaveMeaning.{wave_vector}
use Rattle.irr_kvec.specs.declared.wave.Wave.{Wave}
use Rattle.irr_mult.specs.OrderedWaves.{AreInOrder, IsOneOf, IsPlace, IsWith, waves_of}
use Rattle.irr_mult.proofs.Listings.{item-read}
use Rattle.irr_mult.proofs.WaveOrder.{Below, same_or_below}
use Rattle.irr_mult.proofs.WaveLists.{Each, InOrder, each-item, each-map, each-push, of-order, order-back}

module _ (found : List Wave) (w : Wave) where
  abbrev pub BelowSoFar : ℕ → Type 0
  BelowSoFar n = Each (λ v. Below v (wave_vector w)) (take n (waves_of found))

  module _ (n : ℕ) (l : n < length found) (v : Wave) (is : v ≡ get_or found n v) where
    inside : n < length (waves_of found)
    inside = subst (λ k. n < k) (sym (length-map found wave_vector)) l

    at : get_or (waves_of found) n (wave_vector v) ≡ wave_vector v
    at = get_or-map wave_vector found n v (wave_vector v) l ∙ ap wave_vector (sym is)

    pub more_below : BelowSoFar n → ¬ (wave_vector v ≡ wave_vector w) → ¬ (Below (wave_vector w) (wave_vector v))
        → BelowSoFar (n + 1)
    more_below h differ above = subst (Each (λ x. Below x (wave_vector w)))
        (sym (take_more (waves_of found) n (wave_vector v) inside))
        (each-push (λ x. Below x (wave_vector w)) (take n (waves_of found)) (get_or (waves_of found) n (wave_vector v)) h
        (subst (λ x. Below x (wave_vector w)) (sym at) (same_or_below (wave_vector v) (wave_vector w) differ above)))

    pub one_of : wave_vector v ≡ wave_vector w → IsOneOf (waves_of found) (wave_vector w)
    one_of e = (
      from_nat (length (waves_of found)) n inside,
      sym (item-read (waves_of found) n inside (wave_vector v) (sym at)) ∙ e,
    )

    pub place_here : AreInOrder (waves_of found) → BelowSoFar n → Below (wave_vector w) (wave_vector v)
        → IsPlace (waves_of found) (wave_vector w) n
    place_here order before above = record {
      within = Nat.le_of_lt inside;
      before = each-item (λ x. Below x (wave_vector w)) (take n (waves_of found)) before;
      behind = each-item (Below (wave_vector w)) (drop n (waves_of found)) (subst (Each (Below (wave_vector w))) (sym rest) (
        above,
        each-map (Below (wave_vector v)) (Below (wave_vector w))
            (λ x b. below_trans (wave_component (wave_vector w)) (wave_component (wave_vector v)) (wave_component x) above b)
            (drop (n + 1) (waves_of found)) behind.0,
      ));
    }
      where
        rest : drop n (waves_of found) ≡ wave_vector v ∷ drop (n + 1) (waves_of found)
        rest = drop_more (waves_of found) n (wave_vector v) inside
            ∙ ap (λ x. x ∷ drop (n + 1) (waves_of found)) at

        behind : InOrder Below (wave_vector v ∷ drop (n + 1) (waves_of found))
        behind = subst (InOrder Below) rest (order-back Below (take n (waves_of found)) (drop n (waves_of found))
            (subst (InOrder Below) (sym (take-append-drop n (waves_of found))) (of-order Below (waves_of found) order)))

  pub place_last : BelowSoFar (length found) → IsPlace (waves_of found) (wave_vector w) (length found)
  place_last before = record {
    within = subst (λ k. length found ≤ k) (sym (length-map found wave_vector)) (Nat.le_refl (length found));
    before = each-item (λ x. Below x (wave_vector w)) (take (length found) (waves_of found)) before;
    behind = each-item (Below (wave_vector w)) (drop (length found) (waves_of found))
        (subst (Each (Below (wave_vector w))) (sym (drop_all (length found) (waves_of found) past)) tt);
  }
    where
      past : length (waves_of found) ≤ length found
      past = subst (λ k. k ≤ length found) (sym (length-map found wave_vector)) (Nat.le_refl (length found))

  pub place_within : (n : ℕ) → IsPlace (waves_of found) (wave_vector w) n → n ≤ length found
  place_within n p = subst (λ k. n ≤ k) (length-map found wave_vector) p.within

  pub with_other : (n : ℕ) → IsPlace (waves_of found) (wave_vector w) n → (new : List Wave)
      → new ≡ take n found ++ w ∷ drop n found → IsWith (waves_of found) (wave_vector w) (waves_of new)
  with_other n p new e = inr (
    n,
    p,
    ap waves_of e ∙ map-append wave_vector (take n found) (w ∷ drop n found)
        ∙ ap₂ (λ xs ys. xs ++ wave_vector w ∷ ys) (sym (take-map wave_vector n found)) (sym (drop-map wave_vector n found)),
  )

  pub with_one : IsOneOf (waves_of found) (wave_vector w) → (new : List Wave) → new ≡ found
      → IsWith (waves_of found) (wave_vector w) (waves_of new)
  with_one o new e = inl (o, ap waves_of e)

  pub limits_with : (n : ℕ) (new : List Wave) → new ≡ take n found ++ w ∷ drop n found → All IsWithinLimits found
      → IsWithinLimits w → All IsWithinLimits new
  limits_with n new e limits own = subst (All IsWithinLimits) (sym e) (all-put (take n found) (drop n found)
      (subst (All IsWithinLimits) (sym (take-append-drop n found)) limits))
    where
      all-put : (front back : List Wave) → All IsWithinLimits (front ++ back) → All IsWithinLimits (front ++ w ∷ back)
      all-put [] back h = All-cons IsWithinLimits w back own h
      all-put (x ∷ front) back h = All-cons IsWithinLimits x (front ++ w ∷ back)
          (All-head IsWithinLimits x (front ++ back) h)
          (all-put front back (All-tail IsWithinLimits x (front ++ back) h))
