-- Rows that a loop makes.
--   row-next                 what holds of each number of a list holds with one more, if it holds of that one
use Rattle.std.proofs.Common.{◌≡◌, sym, ◌∙◌, ap, subst, ℕ, suc, ◌<◌, ◌≤◌, ◌+◌, List, [], ◌∷◌, ◌++◌, length, map, get_or, arith}
use native.Mathlib.Decide.{dec_le}
use Rattle.std.proofs.Math.ListN.{get_or-append}
use Rattle.std.proofs.Math.Seq.{get_or-append_seam}
use Rattle.std.proofs.lemmas.List.{length-map, map-append}
use Rattle.irr_algebra.specs.Fin.{Fin, to_nat}
use Rattle.irr_number.specs.Number.{Number, numbers}
use Rattle.irr_char.specs.Rows.{row_of}

pub row-next : {S : Type 0} {k : ℕ} (n : ℕ) (v : S → Number n) (xs : List S) (r : S) (P : Fin k → Number n → Type 0) (i : ℕ) → length xs ≡ i
    → ((a : Fin k) → to_nat a < i → P a (row_of n (map v xs) a)) → ((a : Fin k) → to_nat a ≡ i → P a (v r))
    → (a : Fin k) → to_nat a < i + 1 → P a (row_of n (map v (xs ++ r ∷ [])) a)
row-next n v xs r P i len before last a l =
    subst (λ ys. P a (get_or ys (to_nat a) (numbers n).zero)) (sym (map-append v xs (r ∷ []))) (cases (dec_le (suc (to_nat a)) i))
  where
    all : length (map v xs) ≡ i
    all = length-map xs v ∙ len

    cases : Dec (suc (to_nat a) ≤ i) → P a (get_or (map v xs ++ v r ∷ []) (to_nat a) (numbers n).zero)
    cases (yes m) = subst (P a) (sym (get_or-append (map v xs) (v r ∷ []) (numbers n).zero (to_nat a) (subst (λ s. to_nat a < s) (sym all) m)))
        (before a m)
    cases (no m) =
        let is : to_nat a ≡ i = omega (arith, l, m) in
        subst (P a) (sym (ap (λ s. get_or (map v xs ++ v r ∷ []) s (numbers n).zero) (is ∙ sym all)
        ∙ get_or-append_seam (map v xs) (v r) [] (numbers n).zero)) (last a is)
