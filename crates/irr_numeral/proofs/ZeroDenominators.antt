-- Denominators that are 0.
--   zero-at        the first of them
--   zero-none      there is none
--   none-more      one term more without
--   zero-room      its place is in the text
use Rattle.std.proofs.Common.{◌≡◌, refl, sym, ◌∙◌, ap, subst, ℕ, suc, ◌<◌, ◌≤◌, ◌+◌, List, [], ◌∷◌, ◌++◌, length, length-append, get_or, take, drop, map, All, arith, inl, inr}
use Rattle.std.proofs.lemmas.Bool.{cases_lt}
use Rattle.std.proofs.lemmas.List.{get_or-map, length-map, length-take-le, get_or-take}
use Rattle.std.proofs.Math.Seq.{split_at}
use Rattle.irr_numeral.specs.declared.terms.Written.{Written}
use Rattle.irr_numeral.specs.WrittenNumber.{quotient_text, exponent_text, unsigned_text, spelled_later, spelled}
use Rattle.irr_numeral.specs.TermPlaces.{numerator_place, written_term, ArePlaced, HasZero, IsZeroAt}
use Rattle.irr_numeral.proofs.Splits.{place_of}
use Rattle.irr_numeral.proofs.ExponentOrder.{place-at}

abbrev pub HaveNone : List Written → ℕ → Type 0
HaveNone ws i = (k : ℕ) (d : Written) → k < i → ¬ (HasZero (written_term (get_or ws k d)))

pub parts_at : (ws : List Written) (i : ℕ) (d : Written) → i < length ws → map written_term ws ≡ take i (map written_term ws) ++ (written_term (get_or ws i d) ∷ drop (suc i) (map written_term ws))
parts_at ws i d lt = split_at (map written_term ws) i (written_term d) (omega (arith, lt, length-map ws written_term))
    ∙ ap (λ u. take i (map written_term ws) ++ (u ∷ drop (suc i) (map written_term ws))) (get_or-map written_term ws i d (written_term d) lt)

pub zero-none : (ws : List Written) (i : ℕ) → HaveNone ws i → length ws ≤ i → All (λ t. ¬ (HasZero t)) (map written_term ws)
zero-none [] i h le = λ k d lt. absurd (omega arith)
zero-none (w ∷ ws) i h le = λ k d lt z.
    let inside : k < length (w ∷ ws) = omega (arith, lt, length-map (w ∷ ws) written_term) in
    h k w (omega arith) (subst HasZero (get_or-map written_term (w ∷ ws) k w d inside) z)

pub none-more : (ws : List Written) (i : ℕ) (e : Written) → HaveNone ws i → i < length ws → ¬ (HasZero (written_term (get_or ws i e))) → HaveNone ws (i + 1)
none-more ws i e h lt n k d l z = elim (cases_lt k i) [
  | inl m ↦ h k d m z
  | inr g ↦ (let at : k ≡ i = omega arith in let there : HasZero (written_term (get_or ws i d)) = subst (λ j. HasZero (written_term (get_or ws j d))) at z in
      n (subst HasZero (sym (get_or-map written_term ws i d (written_term e) lt) ∙ get_or-map written_term ws i e (written_term e) lt) there))
]

none-front : (ws : List Written) (i : ℕ) (e : Written) → HaveNone ws i → i < length ws → All (λ t. ¬ (HasZero t)) (take i (map written_term ws))
none-front ws i e h lt k d l z =
    let long : length (take i (map written_term ws)) ≡ i = length-take-le i (map written_term ws) (omega (arith, lt, length-map ws written_term)) in
    let below : k < i = omega (arith, l, long) in
    h k e below (subst HasZero (get_or-take i (map written_term ws) k d below ∙ get_or-map written_term ws k e d (omega (arith, below, lt))) z)

pub zero-room : (ws : List Written) (i : ℕ) (d : Written) → ArePlaced ws → i < length ws → HasZero (written_term (get_or ws i d))
    → (get_or ws i d).place + length (written_term (get_or ws i d)).numerator + 1 ≤ length (spelled (map written_term ws))
zero-room ws i d placed lt z =
    let t = written_term (get_or ws i d) in
    let before = take i (map written_term ws) in
    let after = drop (suc i) (map written_term ws) in
    let whole : length (spelled (map written_term ws)) ≡ numerator_place (take i (map written_term ws)) (written_term (get_or ws i d)) + length (unsigned_text (written_term (get_or ws i d)) ++ spelled_later (drop (suc i) (map written_term ws))) =
    place_of before t after (spelled (map written_term ws)) (unsigned_text t ++ spelled_later after) (ap spelled (sym (parts_at ws i d lt))) refl in
    let quotient : length (quotient_text (written_term (get_or ws i d)).denominator) ≡ 2 = ap (λ o. length (quotient_text o)) z in
    omega (arith, whole, quotient, place-at ws i d placed lt, length-append (unsigned_text t) (spelled_later after), length-append t.numerator (quotient_text t.denominator ++ exponent_text t.exponent), length-append (quotient_text t.denominator) (exponent_text t.exponent))

pub zero-at : (ws : List Written) (i : ℕ) (d : Written) (p : ℕ) → ArePlaced ws → HaveNone ws i → i < length ws → HasZero (written_term (get_or ws i d)) → p ≡ (get_or ws i d).place + length (written_term (get_or ws i d)).numerator + 1 → IsZeroAt (map written_term ws) p
zero-at ws i d p placed h lt z e = record {
  before = take i (map written_term ws);
  term = written_term (get_or ws i d);
  after = drop (suc i) (map written_term ws);
  parts = parts_at ws i d lt;
  others = none-front ws i d h lt;
  zero = z;
  place = e ∙ ap (λ l. l + length (written_term (get_or ws i d)).numerator + 1) (place-at ws i d placed lt);
}
