-- Numbers that are listed one by one.
--   listed-none, listed-push, listed-skip     none, and one step of the list
use Rattle.std.proofs.Common.{◌≡◌, sym, subst, inl, inr, ℕ, ◌<◌, ◌+◌, List, [], ◌∷◌, ◌++◌, length, slice_index, Contains, length-append, arith}
use Rattle.std.proofs.lemmas.Bool.{cases_lt}
use Rattle.std.proofs.Math.ListN.{get_or-append}
use Rattle.std.proofs.Math.Seq.{get_or-append_seam}
use Rattle.std.proofs.lemmas.List.Elements.{Contains-append_left, Contains-push, Contains-push_cases, Contains-get_or}
use Rattle.irr_number.specs.SumLaws.{same_or_not}
use Rattle.irr_little.specs.Places.{AreListed}

module _ (P : ℕ → Type 0) where
  pub listed-none : AreListed P 0 []
  listed-none = record {
    increasing = λ a b l m. absurd (omega arith);
    below = λ p c. absurd (let l : c.0 < 0 = c.1 in omega arith);
    holds = λ p c. absurd (let l : c.0 < 0 = c.1 in omega arith);
    all = λ p l h. absurd (omega arith);
  }

  other : (i p : ℕ) → p < i + 1 → (i ≡ p → ⊥) → p < i
  other i p l f = omega (arith, f)

  pub listed-push : (xs : List ℕ) (i : ℕ) → AreListed P i xs → P i → AreListed P (i + 1) (xs ++ i ∷ [])
  listed-push xs i so here = record {
    increasing = rising;
    below = λ p c. elim (Contains-push_cases xs i p c) [
      | inl d ↦ (let l : p < i = so.below p d in omega arith)
      | inr e ↦ omega arith
    ];
    holds = λ p c. elim (Contains-push_cases xs i p c) [ inl d ↦ so.holds p d | inr e ↦ subst P e here ];
    all = λ p l h. elim (same_or_not i p) [
      | inl e ↦ subst (Contains (xs ++ i ∷ [])) e (Contains-push xs i)
      | inr f ↦ Contains-append_left xs (i ∷ []) p (so.all p (other i p l f) h)
    ];
  }
    where
      rising : (a b : ℕ) → a < b → b < length (xs ++ i ∷ []) → slice_index (xs ++ i ∷ []) a < slice_index (xs ++ i ∷ []) b
      rising a b l m =
          let size : length (xs ++ i ∷ []) ≡ length xs + 1 = length-append xs (i ∷ []) in
          elim (cases_lt b (length xs)) [
            | inl inside ↦ (
                let first : a < length xs = omega arith in
                let x = get_or-append xs (i ∷ []) 0 a first in
                let y = get_or-append xs (i ∷ []) 0 b inside in
                subst (λ v. v < slice_index (xs ++ i ∷ []) b) (sym x) (subst (λ v. slice_index xs a < v) (sym y) (so.increasing a b l inside)))
            | inr last ↦ (
                let first : a < length xs = omega arith in
                let end : length xs ≡ b = omega arith in
                let x = get_or-append xs (i ∷ []) 0 a first in
                let y : slice_index (xs ++ i ∷ []) b ≡ i =
                subst (λ v. slice_index (xs ++ i ∷ []) v ≡ i) end (get_or-append_seam xs i [] 0) in
                subst (λ v. v < slice_index (xs ++ i ∷ []) b) (sym x)
                (subst (λ v. slice_index xs a < v) (sym y) (so.below (slice_index xs a) (Contains-get_or xs a 0 first))))
          ]

  pub listed-skip : (xs : List ℕ) (i : ℕ) → AreListed P i xs → ¬ (P i) → AreListed P (i + 1) xs
  listed-skip xs i so none = record {
    increasing = so.increasing;
    below = λ p c. (let l : p < i = so.below p c in omega arith);
    holds = so.holds;
    all = λ p l h. elim (same_or_not i p) [
      | inl e ↦ absurd (none (subst P (sym e) h))
      | inr f ↦ so.all p (other i p l f) h
    ];
  }
