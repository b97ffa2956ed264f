-- Runs of bytes with no blank.
--   run_more, run_stops, run_ends    one byte more, a blank, and the end
--   run_once                         a text parts in one way into a run with no blank and a rest at a blank
use Rattle.std.proofs.Common.{◌≡◌, refl, sym, subst, ℕ, zero, suc, ◌<◌, ◌≤◌, ◌+◌, List, [], ◌∷◌, ◌++◌, length, get_or, take, drop, arith, add-one}
use Rattle.std.proofs.Math.Seq.{take-suc}
use Rattle.irr_token.specs.Kinds.{AreBlanks}
use Rattle.irr_setting_text.specs.WrittenLine.{HasNoBlank}
use Rattle.irr_setting_text.specs.LineReading.{IsAtBlank}

no_blank-append : (bs cs : List ℕ) → HasNoBlank bs → HasNoBlank cs → HasNoBlank (bs ++ cs)
no_blank-append [] cs h g = g
no_blank-append (b ∷ bs) cs h g = (h.0, no_blank-append bs cs h.1 g)

pub run_more : (cs : List ℕ) (i : ℕ) → i < length cs → HasNoBlank (take i cs) → ¬ (AreBlanks (get_or cs i 0 ∷ [])) → HasNoBlank (take (i + 1) cs)
run_more cs i lt h b = rw add-one (subst HasNoBlank (sym (take-suc cs i 0 lt)) (no_blank-append (take i cs) (get_or cs i 0 ∷ []) h ((λ e. b (e, tt)), tt)))

pub run_stops : (cs : List ℕ) (i : ℕ) → i < length cs → AreBlanks (get_or cs i 0 ∷ []) → IsAtBlank (drop i cs)
run_stops [] i lt b = absurd (omega arith)
run_stops (c ∷ cs) zero lt b = b.0
run_stops (c ∷ cs) (suc i) lt b = run_stops cs i (omega arith) b

pub run_ends : (cs : List ℕ) (i : ℕ) → length cs ≤ i → IsAtBlank (drop i cs)
run_ends [] zero le = tt
run_ends [] (suc i) le = tt
run_ends (c ∷ cs) zero le = absurd (omega arith)
run_ends (c ∷ cs) (suc i) le = run_ends cs i (omega arith)

pub run_once : (xs ys s t : List ℕ) → HasNoBlank xs → HasNoBlank ys → IsAtBlank s → IsAtBlank t → xs ++ s ≡ ys ++ t → (xs ≡ ys) × (s ≡ t)
run_once [] [] s t h g p q e = (refl, e)
run_once [] (y ∷ ys) s t h g p q e = absurd (g.0 (subst IsAtBlank e p))
run_once (x ∷ xs) [] s t h g p q e = absurd (h.0 (subst IsAtBlank (sym e) q))
run_once (x ∷ xs) (y ∷ ys) s t h g p q e =
    let front : x ≡ y = cc in
    let rest : xs ++ s ≡ ys ++ t = cc in
    let both : (xs ≡ ys) × (s ≡ t) = run_once xs ys s t h.1 g.1 p q rest in
    let whole : xs ≡ ys = both.0 in
    (cc, both.1)
