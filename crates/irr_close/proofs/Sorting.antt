-- Sorting by a strict order of keys.
--   order, order-ranks, order_total    the comparison of keys that a strict order with three cases gives
--   weak                               the test that a sort is given
--   answers                            an answer that agrees with the order is that of the test
--   strictly                           sorted elements with different keys stand in the strict order
--   exists_permuted                    what an element of a list has, an element of each list with the same elements has
use Rattle.std.proofs.Common.{◌≡◌, refl, sym, ◌∙◌, ap, subst, ℕ, ◌<◌, ◌⊎◌, inl, inr, Bool, true, false, List, [], ◌∷◌, length, get_or, arith, Ordering, Less, Equal, Greater}
use Rattle.std.specs.Cmp.{IsTotalOrder, IsStrictWeakOrder, strict, one_rank}
use Rattle.std.specs.Ordering.{MatchOrdering, is_lt, is_eq}
use Rattle.std.specs.List.{AllPairs, HoldsAt, Contains, IsDistinct}
use Rattle.std.specs.List.Sorted.{IsSortedBy, IsPermutation}
use Rattle.std.proofs.lemmas.Cmp.{by_ranked}
use Rattle.std.proofs.lemmas.List.{get_or_default}
use Rattle.std.proofs.lemmas.List.Sorted.{ranks_by, sorted_far, Contains-permutation}
use Rattle.std.proofs.lemmas.Map.Keys.{IsDistinct-IsPermutation, IsDistinct-from_apart, apart_from_distinct}

module _ {K : Type 0} (L : K → K → Type 0) (irrefl : (x : K) → ¬ (L x x)) (chain : (x y z : K) → L x y → L y z → L x z) (cases : (x y : K) → L x y
    ⊎ ((x ≡ y) ⊎ L y x)) where
  by_case : {x y : K} → L x y ⊎ ((x ≡ y) ⊎ L y x) → Ordering
  by_case (inl l) = Less
  by_case (inr (inl e)) = Equal
  by_case (inr (inr l)) = Greater

  by_case-ranks : {x y : K} (c : L x y ⊎ ((x ≡ y) ⊎ L y x)) → MatchOrdering (by_case c) (L x y) (x ≡ y) (L y x)
  unfolding by_case
  by_case-ranks (inl l) = l
  by_case-ranks (inr (inl e)) = e
  by_case-ranks (inr (inr l)) = l

  pub order : K → K → Ordering
  order x y = by_case (cases x y)

  pub order-ranks : (x y : K) → MatchOrdering (order x y) (L x y) (x ≡ y) (L y x)
  unfolding order
  order-ranks x y = by_case-ranks (cases x y)

  pub order_total : IsTotalOrder order
  order_total = strict L irrefl chain order order-ranks

  pub weak : {X : Type 0} (f : X → K) → IsStrictWeakOrder (λ a b. is_lt (order (f a) (f b)))
  weak f = ranks_by order_total f

  pub answers : (x y : K) (r : Ordering) → MatchOrdering r (L x y) (x ≡ y) (L y x) → is_lt r ≡ is_lt (order x y)
  answers x y r m = ap is_lt (one_rank L irrefl chain x y r (order x y) m (order-ranks x y))

  equal_is : (x y : K) → is_eq (order x y) ≡ true → x ≡ y
  equal_is x y e = by_ranked (L x y) (x ≡ y) (L y x) (order x y) (order-ranks x y)
      (λ o l. let t : is_eq Less ≡ true = subst (λ r. is_eq r ≡ true) o e in absurd (cc)) (λ o l. l)
      (λ o l. let t : is_eq Greater ≡ true = subst (λ r. is_eq r ≡ true) o e in absurd (cc))

  apart_is : (x y : K) → ¬ (x ≡ y) → is_eq (order x y) ≡ false
  apart_is x y n = by_ranked (L x y) (x ≡ y) (L y x) (order x y) (order-ranks x y) (λ o l. ap is_eq o) (λ o l. absurd (n l)) (λ o l. ap is_eq o)

  symmetric : (x y : K) → is_eq (order x y) ≡ is_eq (order y x)
  symmetric x y = by_ranked (L x y) (x ≡ y) (L y x) (order x y) (order-ranks x y)
      (λ o l. ap is_eq o ∙ sym (apart_is y x (λ e. irrefl y (subst (λ w. L w y) (sym e) l))))
      (λ o e. subst (λ w. is_eq (order x w) ≡ is_eq (order w x)) e refl)
      (λ o l. ap is_eq o ∙ sym (apart_is y x (λ e. irrefl x (subst (λ w. L w x) e l))))

  not_equal : (x y : K) → is_eq (order x y) ≡ false → ¬ (x ≡ y)
  not_equal x y e h = by_ranked (L x y) (x ≡ y) (L y x) (order x y) (order-ranks x y) (λ o l. irrefl y (subst (λ w. L w y) h l))
      (λ o l. let t : is_eq Equal ≡ false = subst (λ r. is_eq r ≡ false) o e in absurd (cc)) (λ o l. irrefl y (subst (L y) h l))

  pub strictly : {X : Type 0} (f : X → K) (xs ys : List X) → IsPermutation xs ys → AllPairs (λ a b. ¬ (f a ≡ f b)) xs
      → IsSortedBy (λ a b. is_lt (order (f a) (f b))) ys → AllPairs (λ a b. L (f a) (f b)) ys
  strictly {X} f xs ys p apart sorted i j d l m = by_ranked (L (f (get_or ys j d)) (f (get_or ys i d))) (f (get_or ys j d) ≡ f (get_or ys i d))
      (L (f (get_or ys i d)) (f (get_or ys j d)))
      (order (f (get_or ys j d)) (f (get_or ys i d))) (order-ranks (f (get_or ys j d)) (f (get_or ys i d)))
      (λ o h. let t : is_lt Less ≡ false = subst (λ r. is_lt r ≡ false) o
      (sorted_far (λ a b. is_lt (order (f a) (f b))) (weak f) ys sorted i j d (omega arith) m) in absurd (cc))
      (λ o h. absurd (differ (sym h)))
      (λ o h. h)
    where
      test : X → X → Bool
      test a b = is_eq (order (f a) (f b))

      distinct : IsDistinct test xs
      distinct = IsDistinct-from_apart test xs (λ i j d l m. apart_is (f (get_or xs i d)) (f (get_or xs j d)) (apart i j d l m))

      differ : ¬ (f (get_or ys i d) ≡ f (get_or ys j d))
      differ = not_equal (f (get_or ys i d)) (f (get_or ys j d))
          (apart_from_distinct test ys i j d (IsDistinct-IsPermutation test (λ a b. symmetric (f a) (f b)) xs ys p distinct) l m)

pub exists_permuted : {X : Type 0} (P : X → Type 0) (xs ys : List X) → IsPermutation xs ys → (k : ℕ) → k < length xs → HoldsAt P xs k
    → (n : ℕ) × (n < length ys) × HoldsAt P ys n
exists_permuted P [] ys p k l h = absurd (omega arith)
exists_permuted P (x ∷ xs) ys p k l h =
    let a = get_or (x ∷ xs) k x in
    let c : Contains ys a = Contains-permutation (x ∷ xs) ys a p (k, l, get_or_default (x ∷ xs) k a x l) in
    (c.0, c.1, λ d. subst P (sym c.2 ∙ get_or_default ys c.0 a d c.1) (h x))
