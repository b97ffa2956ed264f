-- Two lists of numbers that grow side by side.
--   AreTables P n xs ys       n entries each, and P k of the two entries at k
--   tables-nil, tables-push   no entry, and one more
--   Differ n xs               the first n entries are distinct
--   differ-nil, differ-push   no entry, and one more that is not in the list
--   differ-more               the next entry
use Rattle.std.proofs.Common.{◌≡◌, sym, ◌∙◌, ap, subst, ℕ, ◌+◌, ◌<◌, ◌≤◌, ◌⊎◌, inl, inr, List, [], ◌∷◌, ◌++◌, length, length-append, slice_index, Contains, arith}
use Rattle.std.proofs.Math.Seq.{get_or-append_seam}
use Rattle.std.proofs.lemmas.Bool.{cases_lt}
use Rattle.std.proofs.lemmas.List.{get_or_append_left}
use Rattle.std.proofs.lemmas.List.Elements.{Contains-get_or}

pub record AreTables (P : ℕ → ℕ → ℕ → Type 0) (n : ℕ) (xs ys : List ℕ) : Type 0 where
  pub first : length xs ≡ n
  pub second : length ys ≡ n
  pub each : (k : ℕ) → k < n → P k (slice_index xs k) (slice_index ys k)

pub tables-nil : (P : ℕ → ℕ → ℕ → Type 0) → AreTables P 0 [] []
tables-nil P = record { first = λ i. 0; second = λ i. 0; each = λ k l. absurd (omega arith) }

-- an entry before the end of a longer list, and the last one
earlier : (xs : List ℕ) (x k n : ℕ) → length xs ≡ n → k < n → slice_index (xs ++ x ∷ []) k ≡ slice_index xs k
earlier xs x k n e l = get_or_append_left xs (x ∷ []) 0 k (omega (arith, e))

last : (xs : List ℕ) (x k n : ℕ) → length xs ≡ n → n ≡ k → slice_index (xs ++ x ∷ []) k ≡ x
last xs x k n e s = ap (slice_index (xs ++ x ∷ [])) (sym (e ∙ s)) ∙ get_or-append_seam xs x [] 0

longer : (xs : List ℕ) (x n : ℕ) → length xs ≡ n → length (xs ++ x ∷ []) ≡ n + 1
longer xs x n e = length-append xs (x ∷ []) ∙ ap (λ m. m + 1) e

pub tables-push : (P : ℕ → ℕ → ℕ → Type 0) (n : ℕ) (xs ys us vs : List ℕ) (x y : ℕ) → AreTables P n xs ys → us ≡ xs ++ x ∷ [] → vs ≡ ys ++ y ∷ [] → P n x y → AreTables P (n + 1) us vs
tables-push P n xs ys us vs x y h p q new = subst (λ us. AreTables P (n + 1) us vs) (sym p) (subst (AreTables P (n + 1) (xs ++ x ∷ [])) (sym q) (record {
  first = longer xs x n h.first;
  second = longer ys y n h.second;
  each = λ k l. at k l (cases_lt k n);
}))
  where
    at : (k : ℕ) → k < n + 1 → (k < n) ⊎ (n ≤ k) → P k (slice_index (xs ++ x ∷ []) k) (slice_index (ys ++ y ∷ []) k)
    at k l (inl less) = subst (λ v. P k (slice_index (xs ++ x ∷ []) k) v) (sym (earlier ys y k n h.second less)) (subst (λ u. P k u (slice_index ys k)) (sym (earlier xs x k n h.first less)) (h.each k less))
    at k l (inr more) =
        let s : n ≡ k = omega arith in
        subst (λ v. P k (slice_index (xs ++ x ∷ []) k) v) (sym (last ys y k n h.second s)) (subst (λ u. P k u y) (sym (last xs x k n h.first s)) (subst (λ m. P m x y) s new))

pub record Differ (n : ℕ) (xs : List ℕ) : Type 0 where
  pub differ : (j k : ℕ) → j < n → k < n → slice_index xs j ≡ slice_index xs k → j ≡ k

pub differ-nil : (xs : List ℕ) → Differ 0 xs
differ-nil xs = record { differ = λ j k p q e. absurd (omega arith) }

-- the next entry of the list is none of these
pub differ-more : (n : ℕ) (xs : List ℕ) → ((j : ℕ) → j < n → slice_index xs j ≡ slice_index xs n → ⊥) → Differ n xs → Differ (n + 1) xs
differ-more n xs new h = record { differ = λ j k lj lk e. at j k lj lk e (cases_lt j n) (cases_lt k n) }
  where
    at : (j k : ℕ) → j < n + 1 → k < n + 1 → slice_index xs j ≡ slice_index xs k → (j < n) ⊎ (n ≤ j) → (k < n) ⊎ (n ≤ k) → j ≡ k
    at j k lj lk e (inl a) (inl b) = h.differ j k a b e
    at j k lj lk e (inl a) (inr b) = absurd (let s : k ≡ n = omega arith in new j a (e ∙ ap (slice_index xs) s))
    at j k lj lk e (inr a) (inl b) = absurd (let s : j ≡ n = omega arith in new k b (sym e ∙ ap (slice_index xs) s))
    at j k lj lk e (inr a) (inr b) = omega arith

pub differ-push : (n : ℕ) (xs us : List ℕ) (x : ℕ) → length xs ≡ n → us ≡ xs ++ x ∷ [] → (Contains xs x → ⊥) → Differ n xs → Differ (n + 1) us
differ-push n xs us x len p new h = subst (Differ (n + 1)) (sym p) (record { differ = λ j k lj lk e. at j k lj lk e (cases_lt j n) (cases_lt k n) })
  where
    -- no earlier entry is x
    apart : (k : ℕ) → k < n → slice_index xs k ≡ x → ⊥
    apart k l e = new (subst (Contains xs) e (Contains-get_or xs k 0 (omega (arith, len))))

    at : (j k : ℕ) → j < n + 1 → k < n + 1 → slice_index (xs ++ x ∷ []) j ≡ slice_index (xs ++ x ∷ []) k → (j < n) ⊎ (n ≤ j) → (k < n) ⊎ (n ≤ k) → j ≡ k
    at j k lj lk e (inl a) (inl b) = h.differ j k a b (sym (earlier xs x j n len a) ∙ e ∙ earlier xs x k n len b)
    at j k lj lk e (inl a) (inr b) = absurd (let s : n ≡ k = omega arith in apart j a (sym (earlier xs x j n len a) ∙ e ∙ last xs x k n len s))
    at j k lj lk e (inr a) (inl b) = absurd (let s : n ≡ j = omega arith in apart k b (sym (earlier xs x k n len b) ∙ sym e ∙ last xs x j n len s))
    at j k lj lk e (inr a) (inr b) = omega arith
