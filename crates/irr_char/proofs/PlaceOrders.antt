-- The order of places by their rows.
--   place_cmp            the comparison: places past the end come last
--   place_cmp_total      it is a total order
--   place_answer         an answer that agrees with the rows is that of the comparison
--   not_before           of sorted places no later one's row stands before an earlier one's
use Rattle.std.proofs.Common.{◌≡◌, refl, sym, ◌∙◌, ap, ap₂, subst, ℕ, zero, suc, ◌+◌, ◌<◌, ◌≤◌, ◌⊎◌, inl, inr, true, false, cond, eqb, ltb, List}
use Rattle.std.proofs.Common.{length, get_or, arith, Ordering, Less, Equal, Greater}
use Rattle.std.specs.Cmp.{IsTotalOrder, IsStrictWeakOrder}
use Rattle.std.specs.Ordering.{MatchOrdering, nat_cmp, ordering_then, is_lt, on, then_cmp}
use Rattle.std.specs.List.Sorted.{IsSortedBy}
use Rattle.std.proofs.lemmas.Bool.{cases_lt}
use Rattle.std.proofs.lemmas.Bool.Decides.{nat_tests}
use Rattle.std.proofs.lemmas.Cmp.{nat_cmp_total, on_total, then_total}
use Rattle.std.proofs.lemmas.List.Sorted.{ranks_by, sorted_far}
use Rattle.std.specs.List.{All, AllByRecursion, IsDistinct, range_with_len}
use Rattle.std.specs.List.Sorted.{IsPermutation}
use Rattle.std.proofs.lemmas.Bool.{ne_eqb, eqb-false}
use Rattle.std.proofs.lemmas.Cmp.{nat_eq_equiv}
use Rattle.std.proofs.lemmas.List.Elements.{All-get_or, All-from_get_or}
use Rattle.std.proofs.lemmas.List.FromFn.{get_or-range_with_len, length-range_with_len}
use Rattle.std.proofs.lemmas.List.Sorted.{All-permutation}
use Rattle.std.proofs.lemmas.Map.Keys.{IsDistinct-IsPermutation, apart_from_distinct}
use Rattle.irr_algebra.specs.Fin.{Fin}
use Rattle.irr_number.specs.Number.{Number}
use Rattle.irr_space.specs.CompleteList.{IsRowBefore}
use Rattle.irr_rows.proofs.RowOrder.{row_asymm, row_before_or_after}
use Rattle.irr_char.proofs.RowOrders.{row_cmp, row_cmp-ranks, row_cmp_total, row_irrefl}

-- 0 for a place of the list, 1 past its end
pub past : ℕ → ℕ → ℕ
past len a = cond (ltb a len) 0 1

-- the place, or the end for a place past it
pub kept : ℕ → ℕ → ℕ
kept len a = cond (ltb a len) a len

past-below : (len a : ℕ) → a < len → past len a ≡ 0
unfolding past
past-below len a l = grind (arith, nat_tests)

past-above : (len a : ℕ) → len ≤ a → past len a ≡ 1
unfolding past
past-above len a l = grind (arith, nat_tests)

kept-below : (len a : ℕ) → a < len → kept len a ≡ a
unfolding kept
kept-below len a l = grind (arith, nat_tests)

kept-above : (len a : ℕ) → len ≤ a → kept len a ≡ len
unfolding kept
kept-above len a l = grind (arith, nat_tests)

module _ (n : ℕ) (positive : 0 < n) {h : ℕ} (start : Fin h) (f : ℕ → Fin h → Number n) (len : ℕ) where
  pub place_cmp : ℕ → ℕ → Ordering
  place_cmp = then_cmp (on (past len) nat_cmp) (on (λ a. f (kept len a)) (row_cmp n positive start))

  pub place_cmp_total : IsTotalOrder place_cmp
  unfolding place_cmp
  place_cmp_total = then_total (on_total (past len) nat_cmp_total) (on_total (λ a. f (kept len a)) (row_cmp_total n positive start))

  pub weak_order : IsStrictWeakOrder (λ a b. is_lt (place_cmp a b))
  weak_order = ranks_by place_cmp_total (λ a. a)

  -- an answer on two rows is the one answer
  one_answer : (g k : Fin h → Number n) (o : Ordering) → MatchOrdering o (IsRowBefore n start g k) ((i : Fin h) → g i ≡ k i) (IsRowBefore n start k g)
      → (r : Ordering) → MatchOrdering r (IsRowBefore n start g k) (g ≡ k) (IsRowBefore n start k g) → o ≡ r
  one_answer g k Less p Less q = refl
  one_answer g k Less p Equal q = absurd (row_irrefl n positive start k (subst (λ x. IsRowBefore n start x k) q p))
  one_answer g k Less p Greater q = absurd (row_asymm n positive start g k p q)
  one_answer g k Equal p Less q = absurd (let e : g ≡ k = λ a i. p i a in row_irrefl n positive start k (subst (λ x. IsRowBefore n start x k) e q))
  one_answer g k Equal p Equal q = refl
  one_answer g k Equal p Greater q = absurd (let e : g ≡ k = λ a i. p i a in row_irrefl n positive start k (subst (IsRowBefore n start k) e q))
  one_answer g k Greater p Less q = absurd (row_asymm n positive start g k q p)
  one_answer g k Greater p Equal q = absurd (row_irrefl n positive start k (subst (IsRowBefore n start k) q p))
  one_answer g k Greater p Greater q = refl

  -- the comparison at two places, from what they are
  by_parts : (a b u v w x : ℕ) → past len a ≡ u → past len b ≡ v → kept len a ≡ w → kept len b ≡ x
      → place_cmp a b ≡ ordering_then (nat_cmp u v) (row_cmp n positive start (f w) (f x))
  unfolding place_cmp
  by_parts a b u v w x p q r s = ap₂ ordering_then (ap₂ nat_cmp p q) (ap₂ (λ y z. row_cmp n positive start (f y) (f z)) r s)

  at_places : (a b : ℕ) → a < len → b < len → place_cmp a b ≡ row_cmp n positive start (f a) (f b)
  at_places a b l m = by_parts a b 0 0 a b (past-below len a l) (past-below len b m) (kept-below len a l) (kept-below len b m)

  past_both : (g : Fin h → Number n) → Equal ≡ row_cmp n positive start g g
  past_both g = one_answer g g Equal (λ i. refl) (row_cmp n positive start g g) (row_cmp-ranks n positive start g g)

  pub place_answer : (a b : ℕ) (o : Ordering) → (a < len → b < len → MatchOrdering o (IsRowBefore n start (f a) (f b)) ((i : Fin h) → f a i ≡ f b i)
      (IsRowBefore n start (f b) (f a)))
      → (a < len → len ≤ b → o ≡ Less) → (len ≤ a → b < len → o ≡ Greater) → (len ≤ a → len ≤ b → o ≡ Equal) → o ≡ place_cmp a b
  place_answer a b o both first last neither = by_ranges (cases_lt a len) (cases_lt b len)
    where
      by_ranges : (a < len) ⊎ (len ≤ a) → (b < len) ⊎ (len ≤ b) → o ≡ place_cmp a b
      by_ranges (inl l) (inl m) = one_answer (f a) (f b) o (both l m) (row_cmp n positive start (f a) (f b))
          (row_cmp-ranks n positive start (f a) (f b)) ∙ sym (at_places a b l m)
      by_ranges (inl l) (inr m) = first l m ∙ sym (by_parts a b 0 1 a len (past-below len a l) (past-above len b m) (kept-below len a l)
          (kept-above len b m))
      by_ranges (inr l) (inl m) = last l m ∙ sym (by_parts a b 1 0 len b (past-above len a l) (past-below len b m) (kept-above len a l)
          (kept-below len b m))
      by_ranges (inr l) (inr m) = neither l m ∙ past_both (f len) ∙ sym
          (by_parts a b 1 1 len len (past-above len a l) (past-above len b m) (kept-above len a l) (kept-above len b m))

  less_of_before : (r : Ordering) (g k : Fin h → Number n) → MatchOrdering r (IsRowBefore n start g k) (g ≡ k) (IsRowBefore n start k g)
      → is_lt r ≡ false → IsRowBefore n start g k → ⊥
  less_of_before Less g k m e p = (let t : true ≡ false = e in cc)
  less_of_before Equal g k m e p = row_irrefl n positive start k (subst (λ x. IsRowBefore n start x k) m p)
  less_of_before Greater g k m e p = row_asymm n positive start g k p m

  pub not_before : (places : List ℕ) → IsSortedBy (λ a b. is_lt (place_cmp a b)) places → ((i : ℕ) → i < length places → get_or places i 0 < len)
      → (i j : ℕ) → i < j → j < length places → IsRowBefore n start (f (get_or places j 0)) (f (get_or places i 0)) → ⊥
  not_before places sorted within i j l m = less_of_before (row_cmp n positive start (f (get_or places j 0)) (f (get_or places i 0)))
      (f (get_or places j 0)) (f (get_or places i 0))
      (row_cmp-ranks n positive start (f (get_or places j 0)) (f (get_or places i 0)))
      (ap is_lt (sym (at_places (get_or places j 0) (get_or places i 0) (within j m) (within i (omega arith))))
      ∙ sorted_far (λ a b. is_lt (place_cmp a b)) weak_order places sorted i j 0 (omega arith) m)

-- the numbers below len, in any order, are below len
pub places_within : (len : ℕ) (xs ys : List ℕ) → xs ≡ range_with_len 0 len → IsPermutation xs ys → (i : ℕ) → i < length ys → get_or ys i 0 < len
places_within len xs ys e p i l = All-get_or (λ k. k < len) ys i 0 l
    (All-permutation (λ k. k < len) xs ys p (subst (All (λ k. k < len)) (sym e) (range_within 0 len len (omega arith))))
  where
    range_within : (a n len : ℕ) → a + n ≤ len → All (λ k. k < len) (range_with_len a n)
    range_within a n len l = All-from_get_or (λ k. k < len) (range_with_len a n) 0 (λ i h.
        let e : length (range_with_len a n) ≡ n = length-range_with_len a n in
        let r : get_or (range_with_len a n) i 0 ≡ a + i = get_or-range_with_len a n i 0 (omega arith) in omega arith)

distinct_range : (a n : ℕ) → IsDistinct eqb (range_with_len a n)
unfolding IsDistinct
distinct_range a zero = tt
distinct_range a (suc n) = (others a (a + 1) n (omega arith), distinct_range (a + 1) n)
  where
    others : (a b n : ℕ) → a < b → AllByRecursion (λ y. eqb a y ≡ false) (range_with_len b n)
    others a b zero l = tt
    others a b (suc n) l = (ne_eqb a b (λ e. omega arith), others a (b + 1) n (omega arith))

-- and no two of them are the same
pub places_differ : (len : ℕ) (ys : List ℕ) → IsPermutation (range_with_len 0 len) ys → (i j : ℕ) → i < j → j < length ys
    → ¬ (get_or ys i 0 ≡ get_or ys j 0)
places_differ len ys p i j l m = eqb-false (get_or ys i 0) (get_or ys j 0)
    (apart_from_distinct eqb ys i j 0 (IsDistinct-IsPermutation eqb nat_eq_equiv.symm (range_with_len 0 len) ys p (distinct_range 0 len)) l m)

-- different rows of which no later one stands before an earlier one stand in order
pub in_order : (n : ℕ) (positive : 0 < n) {h : ℕ} (start : Fin h) (f : ℕ → Fin h → Number n) (len : ℕ) (places : List ℕ)
    → IsPermutation (range_with_len 0 len) places
    → ((a b : ℕ) → a < b → b < len → ¬ ((i : Fin h) → f a i ≡ f b i))
    → ((i j : ℕ) → i < j → j < length places → IsRowBefore n start (f (get_or places j 0)) (f (get_or places i 0)) → ⊥)
    → (i j : ℕ) → i < j → j < length places → IsRowBefore n start (f (get_or places i 0)) (f (get_or places j 0))
in_order n positive {h} start f len places p different sorted i j l m =
    by_order (row_before_or_after n positive start (f (get_or places i 0)) (f (get_or places j 0)))
  where
    within : (k : ℕ) → k < length places → get_or places k 0 < len
    within = places_within len (range_with_len 0 len) places refl p

    apart : (a b : ℕ) → a < len → b < len → ¬ (a ≡ b) → ¬ ((k : Fin h) → f a k ≡ f b k)
    apart a b u v w e = elim (cases_lt a b) [
      | inl g ↦ different a b g v e
      | inr g ↦ different b a (omega arith) u (λ k. sym (e k))
    ]

    by_order : ((k : Fin h) → f (get_or places i 0) k ≡ f (get_or places j 0) k) ⊎ (IsRowBefore n start (f (get_or places i 0))
        (f (get_or places j 0)) ⊎ IsRowBefore n start (f (get_or places j 0)) (f (get_or places i 0)))
        → IsRowBefore n start (f (get_or places i 0)) (f (get_or places j 0))
    by_order (inl e) = absurd (apart (get_or places i 0) (get_or places j 0) (within i (omega arith)) (within j m)
        (places_differ len places p i j l m) e)
    by_order (inr (inl b)) = b
    by_order (inr (inr b)) = absurd (sorted i j l m b)
