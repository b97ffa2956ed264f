-- Lists of numbers, one number longer.
--   one_longer               a list with one more number
--   each_pushed              what holds of each number of a list and of one more
--   each_pushed_pair         the same for two lists
use Rattle.std.proofs.Common.{◌≡◌, sym, ◌∙◌, ap, subst, ℕ, ◌+◌, ◌<◌, ◌⊎◌, inl, inr, List, [], ◌∷◌, ◌++◌, length, length-append, slice_index, get_or}
use Rattle.std.proofs.Math.Seq.{get_or-append_seam}
use Rattle.std.proofs.lemmas.List.{get_or_append_left}
use Rattle.irr_char.proofs.RowForms.{before_or_at}

earlier : (xs : List ℕ) (x k a : ℕ) → length xs ≡ k → a < k → slice_index (xs ++ x ∷ []) a ≡ slice_index xs a
earlier xs x k a count l = get_or_append_left xs (x ∷ []) 0 a (subst (λ m. a < m) (sym count) l)

newest : (xs : List ℕ) (x k : ℕ) → length xs ≡ k → slice_index (xs ++ x ∷ []) k ≡ x
newest xs x k count = ap (λ j. get_or (xs ++ x ∷ []) j 0) (sym count) ∙ get_or-append_seam xs x [] 0

pub each_pushed : (P : ℕ → ℕ → Type 0) (xs after : List ℕ) (x k : ℕ) → length xs ≡ k → after ≡ xs ++ x ∷ []
    → ((a : ℕ) → a < k → P a (slice_index xs a)) → P k x → (a : ℕ) → a < k + 1 → P a (slice_index after a)
each_pushed P xs after x k count is all last a l = subst (λ ys. P a (slice_index ys a)) (sym is) (at (before_or_at a k l))
  where
    at : (a < k) ⊎ (a ≡ k) → P a (slice_index (xs ++ x ∷ []) a)
    at (inl m) = subst (P a) (sym (earlier xs x k a count m)) (all a m)
    at (inr e) = subst (λ b. P b (slice_index (xs ++ x ∷ []) b)) (sym e) (subst (P k) (sym (newest xs x k count)) last)

pub each_pushed_pair : (P : ℕ → ℕ → ℕ → Type 0) (xs ys after others : List ℕ) (x y k : ℕ) → length xs ≡ k → length ys ≡ k
    → after ≡ xs ++ x ∷ [] → others ≡ ys ++ y ∷ []
    → ((a : ℕ) → a < k → P a (slice_index xs a) (slice_index ys a)) → P k x y → (a : ℕ) → a < k + 1 → P a (slice_index after a) (slice_index others a)
each_pushed_pair P xs ys after others x y k count same is too all last a l =
    subst (λ us. P a (slice_index us a) (slice_index others a)) (sym is)
    (subst (λ vs. P a (slice_index (xs ++ x ∷ []) a) (slice_index vs a)) (sym too) (at (before_or_at a k l)))
  where
    at : (a < k) ⊎ (a ≡ k) → P a (slice_index (xs ++ x ∷ []) a) (slice_index (ys ++ y ∷ []) a)
    at (inl m) = subst (λ u. P a u (slice_index (ys ++ y ∷ []) a)) (sym (earlier xs x k a count m))
        (subst (P a (slice_index xs a)) (sym (earlier ys y k a same m)) (all a m))
    at (inr e) = subst (λ b. P b (slice_index (xs ++ x ∷ []) b) (slice_index (ys ++ y ∷ []) b)) (sym e)
        (subst (λ u. P k u (slice_index (ys ++ y ∷ []) k)) (sym (newest xs x k count)) (subst (P k x) (sym (newest ys y k same)) last))

pub one_longer : (xs after : List ℕ) (x k : ℕ) → length xs ≡ k → after ≡ xs ++ x ∷ [] → length after ≡ k + 1
one_longer xs after x k count is = ap length is ∙ length-append xs (x ∷ []) ∙ ap (λ n. n + 1) count
