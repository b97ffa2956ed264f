-- A row that is made number by number.
--   NumbersSoFar             the first k numbers are those of f
--   numbers_none, numbers_more, numbers_all
use Rattle.std.proofs.Common.{◌≡◌, sym, ◌∙◌, ap, subst, ℕ, ◌+◌, ◌<◌, ◌⊎◌, inl, inr, List, [], ◌∷◌, ◌++◌, length, get_or, map, length-append, arith}
use Rattle.std.specs.List.{All}
use Rattle.std.proofs.Math.Seq.{get_or-append_seam}
use Rattle.std.proofs.lemmas.List.{get_or_append_left, length-map, map-append}
use Rattle.std.proofs.lemmas.List.Elements.{All-nil, All-push}
use Rattle.irr_algebra.specs.Fin.{Fin, to_nat}
use Rattle.irr_algebra.proofs.Indices.{to_nat-lt}
use Rattle.irr_number.specs.Number.{Number, numbers}
use Rattle.irr_char.specs.Characters.{IsRowOf}
use Rattle.irr_char.proofs.RowForms.{before_or_at}

module _ {S : Type 0} (order : S → ℕ) (value : (n : ℕ) → S → Number n) (n : ℕ) {h : ℕ} (f : Fin h → Number n) where
  pub record NumbersSoFar (k : ℕ) (row : List S) : Type 0 where
    pub count : length row ≡ k
    pub orders : All (λ x. order x ≡ n) row
    pub numbers_before : (i : Fin h) → to_nat i < k → get_or (map (value n) row) (to_nat i) (numbers n).zero ≡ f i

  pub numbers_none : (row : List S) → row ≡ [] → NumbersSoFar 0 row
  numbers_none row e = record {
    count = ap length e;
    orders = subst (All (λ x. order x ≡ n)) (sym e) (All-nil (λ x. order x ≡ n));
    numbers_before = λ i l. absurd (omega arith);
  }

  pub numbers_more : (k : ℕ) (row after : List S) (x : S) → NumbersSoFar k row → after ≡ row ++ x ∷ [] → order x ≡ n
      → ((i : Fin h) → to_nat i ≡ k → value n x ≡ f i) → NumbersSoFar (k + 1) after
  numbers_more k row after x s e o v = record {
    count = ap length e ∙ length-append row (x ∷ []) ∙ ap (λ j. j + 1) s.count;
    orders = subst (All (λ y. order y ≡ n)) (sym e) (All-push (λ y. order y ≡ n) row x s.orders o);
    numbers_before = λ i l.
        ap (λ ys. get_or ys (to_nat i) (numbers n).zero) (ap (map (value n)) e ∙ map-append (value n) row (x ∷ []))
        ∙ at i (before_or_at (to_nat i) k l);
  }
    where
      at : (i : Fin h) → (to_nat i < k) ⊎ (to_nat i ≡ k) → get_or (map (value n) row ++ value n x ∷ []) (to_nat i) (numbers n).zero ≡ f i
      at i (inl l) =
          get_or_append_left (map (value n) row) (value n x ∷ []) (numbers n).zero (to_nat i)
          (subst (λ m. to_nat i < m) (sym (length-map row (value n) ∙ s.count)) l)
          ∙ s.numbers_before i l
      at i (inr q) =
          ap (λ m. get_or (map (value n) row ++ value n x ∷ []) m (numbers n).zero) (q ∙ sym s.count ∙ sym (length-map row (value n)))
          ∙ get_or-append_seam (map (value n) row) (value n x) [] (numbers n).zero ∙ v i q

  pub numbers_all : (k : ℕ) (row : List S) → NumbersSoFar k row → k ≡ h → IsRowOf order value n f row
  numbers_all k row s e = record {
    count = s.count ∙ e;
    orders = s.orders;
    numbers_at = λ i. s.numbers_before i (subst (λ m. to_nat i < m) (sym e) (to_nat-lt i));
  }
