-- Tables that are filled row by row.
--   FilledRows n P xs        P holds of each row, column and entry that stands in xs so far
--   filled-push              one more entry
--   filled-entries           a filled table
use Rattle.std.specs.Prelude.{ℕ, ◌≡◌, ◌<◌, ◌≤◌, ◌+◌, ◌*◌, ◌/◌, ◌%◌, ◌⊎◌, List, [], ◌∷◌, ◌++◌, length, slice_index}
use Rattle.std.proofs.Common.{sym, ◌∙◌, ap, subst, inl, inr, length-append, arith}
use Rattle.std.proofs.Math.Seq.{get_or-append_seam}
use Rattle.std.proofs.lemmas.Bool.{cases_lt}
use Rattle.std.proofs.lemmas.List.{get_or_append_left}
use Rattle.std.proofs.lemmas.Nat.{div-mul-add, mod-mul-add, mul-add-lt}
use Rattle.irr_rep.specs.Table.{AreEntries, entry}

pub record FilledRows (n : ℕ) (P : ℕ → ℕ → ℕ → Type 0) (xs : List ℕ) : Type 0 where
  pub filled : (a b : ℕ) → b < n → a * n + b < length xs → P a b (entry n xs a b)

pub filled-nil : (n : ℕ) (P : ℕ → ℕ → ℕ → Type 0) → FilledRows n P []
filled-nil n P = record { filled = λ a b lt within. absurd (omega arith) }

pub filled-push : (n : ℕ) (P : ℕ → ℕ → ℕ → Type 0) (xs : List ℕ) (i j x : ℕ) → FilledRows n P xs → length xs ≡ i * n + j → j < n → P i j x
    → FilledRows n P (xs ++ x ∷ [])
filled-push n P xs i j x so_far place below here = record { filled = λ a b lt within. at a b lt (cases_lt (a * n + b) (length xs)) within }
  where
    last : (a b : ℕ) → b < n → a * n + b ≡ i * n + j → P a b (slice_index (xs ++ x ∷ []) (a * n + b))
    last a b lt e =
        let row : a ≡ i = sym (div-mul-add a n b lt) ∙ ap (λ k. k / n) e ∙ div-mul-add i n j below in
        let column : b ≡ j = sym (mod-mul-add a n b lt) ∙ ap (λ k. k % n) e ∙ mod-mul-add i n j below in
        let value : slice_index (xs ++ x ∷ []) (a * n + b) ≡ x = ap (slice_index (xs ++ x ∷ [])) (e ∙ sym place) ∙ get_or-append_seam xs x [] 0 in
        subst (λ y. P a b y) (sym value) (subst (λ k. P k b x) (sym row) (subst (λ k. P i k x) (sym column) here))

    at : (a b : ℕ) → b < n → (a * n + b < length xs) ⊎ (length xs ≤ a * n + b) → a * n + b < length (xs ++ x ∷ [])
        → P a b (entry n (xs ++ x ∷ []) a b)
    at a b lt (inl l) within = subst (λ y. P a b y) (sym (get_or_append_left xs (x ∷ []) 0 (a * n + b) l)) (so_far.filled a b lt l)
    at a b lt (inr l) within = last a b lt (let total : length (xs ++ x ∷ []) ≡ length xs + 1 = length-append xs (x ∷ []) in omega arith)

pub filled-entries : (n : ℕ) (P : ℕ → ℕ → ℕ → Type 0) (xs : List ℕ) → FilledRows n P xs → length xs ≡ n * n → AreEntries n P xs
filled-entries n P xs h total a b p q = h.filled a b q (let l : a * n + b < n * n = mul-add-lt a n b n p q in omega arith)
