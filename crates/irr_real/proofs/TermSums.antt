-- The terms of the sum over the operations that carry k to -k, one after another.
--   TermsSoFar                the first i terms add up to c
--   terms_none, terms_more    none, and one more
--   terms_all                 all of them
use Rattle.std.proofs.Common.{◌≡◌, sym, ◌∙◌, ap₂, subst, refl, ℕ, zero, suc, ◌+◌, ◌<◌, ◌≤◌, ◌⊎◌, inl, inr, List}
use Rattle.std.proofs.Common.{length, slice_index, arith}
use Rattle.std.proofs.lemmas.Bool.{cases_lt}
use Rattle.irr_algebra.specs.Ring.{Ring}
use Rattle.irr_algebra.specs.Fin.{Fin}
use Rattle.irr_algebra.specs.Listed.{sum_below}
use Rattle.irr_algebra.specs.Matrix.{Matrix}
use Rattle.irr_algebra.proofs.Listed.{sum_below-add_one}
use Rattle.irr_number.specs.Number.{Number, numbers}
use Rattle.irr_space.specs.Operation.{WaveVector}
use Rattle.irr_rep.specs.declared.table.Twisted.{Twisted}
use Rattle.irr_close.specs.declared.group.Group.{Group}
use Rattle.irr_real.specs.Places.{AreReversingPlaces}
use Rattle.irr_real.specs.Squares.{IsReversalSum, IsSquareTrace}

sum_below-ext : (R : Ring) (n : ℕ) (f g : ℕ → R.Carrier) → ((j : ℕ) → j < n → f j ≡ g j) → sum_below R n f
    ≡ sum_below R n g
unfolding sum_below
sum_below-ext R zero f g same = refl
sum_below-ext R (suc n) f g same = ap₂ R.add (sum_below-ext R n f g (λ j l. same j (omega (arith, l))))
    (same n (omega arith))

-- the first k are those of f, then x
choose : {A : Type 0} (k j : ℕ) → A → A → (j < k) ⊎ (k ≤ j) → A
choose k j a x (inl l) = a
choose k j a x (inr l) = x

extended : {A : Type 0} → (ℕ → A) → ℕ → A → ℕ → A
extended f k x j = choose k j (f j) x (cases_lt j k)

extended-before : {A : Type 0} (f : ℕ → A) (k : ℕ) (x : A) (j : ℕ) → j < k → extended f k x j ≡ f j
unfolding extended choose
extended-before f k x j l = chosen (cases_lt j k)
  where
    chosen : (c : (j < k) ⊎ (k ≤ j)) → choose k j (f j) x c ≡ f j
    chosen (inl m) = refl
    chosen (inr m) = absurd (omega (arith, l, m))

extended-last : {A : Type 0} (f : ℕ → A) (k : ℕ) (x : A) → extended f k x k ≡ x
unfolding extended choose
extended-last f k x = chosen (cases_lt k k)
  where
    chosen : (c : (k < k) ⊎ (k ≤ k)) → choose k k (f k) x c ≡ x
    chosen (inl m) = absurd (omega (arith, m))
    chosen (inr m) = refl

below_or_last : (P : ℕ → Type 0) (i k : ℕ) → i < k + 1 → (i < k → P i) → P k → P i
below_or_last P i k l before last = elim (cases_lt i k) [
  | inl m ↦ before m
  | inr m ↦
      (let e : k ≡ i = omega (arith, l, m) in subst P e last)
]

module _ (group : Group) (k : WaveVector) (t : Twisted) (M : ℕ) {h d : ℕ} (D : Fin h → Matrix (numbers M) d d)
    (xs : List ℕ) where
  pub record TermsSoFar (i : ℕ) (c : Number M) : Type 0 where
    pub term : ℕ → Number M
    pub each : (j : ℕ) → j < i → IsSquareTrace group k t M D (slice_index xs j) (term j)
    pub is_sum : c ≡ sum_below (numbers M) i term

  pub terms_none : (c : Number M) → c ≡ (numbers M).zero → TermsSoFar 0 c
  unfolding sum_below
  terms_none c e = record { term = λ j. (numbers M).zero; each = λ j l. absurd (omega (arith, l)); is_sum = e }

  pub terms_more : (i : ℕ) (c x after : Number M) → TermsSoFar i c → IsSquareTrace group k t M D (slice_index xs i) x
      → after ≡ (numbers M).add c x → TermsSoFar (i + 1) after
  terms_more i c x after so here added = record {
    term = extended so.term i x;
    each = λ j l. below_or_last (λ n. IsSquareTrace group k t M D (slice_index xs n) (extended so.term i x n)) j i l
        (λ m. subst (IsSquareTrace group k t M D (slice_index xs j)) (sym (extended-before so.term i x j m))
        (so.each j m))
        (subst (IsSquareTrace group k t M D (slice_index xs i)) (sym (extended-last so.term i x)) here);
    is_sum = added
        ∙ ap₂ (numbers M).add
        (so.is_sum ∙ sum_below-ext (numbers M) i so.term (extended so.term i x)
        (λ j l. sym (extended-before so.term i x j l)))
        (sym (extended-last so.term i x))
        ∙ sym (sum_below-add_one (numbers M) i (extended so.term i x));
  }

  pub terms_all : (c : Number M) → AreReversingPlaces group k xs → TermsSoFar (length xs) c
      → IsReversalSum group k t M D c
  terms_all c are so = record { places = xs; reversing = are; term = so.term; each = so.each; is_sum = so.is_sum }
