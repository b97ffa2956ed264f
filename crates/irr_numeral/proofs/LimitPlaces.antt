-- The first number that passes its limit.
--   term-room        a term's text is in the text
--   beyond-at        the first number beyond, in the first term that has one
--   within-more      one term more without
--   within-all       there is none
--   term-of          the term at an index
use Rattle.std.proofs.Common.{◌≡◌, refl, sym, ◌∙◌, ap, subst, ℕ, suc, ◌<◌, ◌≤◌, ◌+◌, List, [], ◌∷◌, ◌++◌, length, length-append, get_or, take, drop, map, All, arith, inl, inr, ◌-◌, Option, None, Some, IfSome, IsSomeAnd}
use Rattle.std.specs.Str.Parse.{AllDigits, digits_value}
use Rattle.std.proofs.lemmas.Bool.{cases_lt}
use Rattle.std.proofs.lemmas.List.{get_or-map, length-map, length-take-le, get_or-take}
use Rattle.irr_numeral.specs.declared.terms.Written.{Written}
use Rattle.irr_numeral.specs.WrittenNumber.{IsTerm, AreTerms, unsigned_text, spelled_later, spelled}
use Rattle.irr_numeral.specs.TermPlaces.{numerator_place, written_term, ArePlaced}
use Rattle.irr_numeral.specs.NumberLimit.{IsWithin, IsFirstBeyond, IsBeyondAt}
use Rattle.irr_numeral.proofs.Splits.{place_of}
use Rattle.irr_numeral.proofs.ExponentOrder.{place-at, term-index}
use Rattle.irr_numeral.proofs.ZeroDenominators.{parts_at}

abbrev pub AreWithin : ℕ → List Written → ℕ → Type 0
AreWithin n ws i = (k : ℕ) (d : Written) → k < i → IsWithin n (written_term (get_or ws k d))

pub term-of : (ws : List Written) (i : ℕ) (d : Written) → AreTerms (map written_term ws) → i < length ws → IsTerm (written_term (get_or ws i d))
term-of ws i d are lt = subst IsTerm (get_or-map written_term ws i d (written_term d) lt) (term-index (map written_term ws) i (written_term d) are (omega (arith, lt, length-map ws written_term)))

pub term-room : (ws : List Written) (i : ℕ) (d : Written) → ArePlaced ws → i < length ws → (get_or ws i d).place + length (unsigned_text (written_term (get_or ws i d))) ≤ length (spelled (map written_term ws))
term-room ws i d placed lt =
    let t = written_term (get_or ws i d) in
    let before = take i (map written_term ws) in
    let after = drop (suc i) (map written_term ws) in
    let whole : length (spelled (map written_term ws)) ≡ numerator_place (take i (map written_term ws)) (written_term (get_or ws i d)) + length (unsigned_text (written_term (get_or ws i d)) ++ spelled_later (drop (suc i) (map written_term ws))) =
    place_of before t after (spelled (map written_term ws)) (unsigned_text t ++ spelled_later after) (ap spelled (sym (parts_at ws i d lt))) refl in
    omega (arith, whole, place-at ws i d placed lt, length-append (unsigned_text t) (spelled_later after))

pub within-all : (n : ℕ) (ws : List Written) (i : ℕ) → AreWithin n ws i → length ws ≤ i → All (IsWithin n) (map written_term ws)
within-all n [] i h le = λ k d lt. absurd (omega arith)
within-all n (w ∷ ws) i h le = λ k d lt.
    let inside : k < length (w ∷ ws) = omega (arith, lt, length-map (w ∷ ws) written_term) in
    subst (IsWithin n) (sym (get_or-map written_term (w ∷ ws) k w d inside)) (h k w (omega arith))

pub within-more : (n : ℕ) (ws : List Written) (i : ℕ) (e : Written) → AreWithin n ws i → i < length ws → IsWithin n (written_term (get_or ws i e)) → AreWithin n ws (i + 1)
within-more n ws i e h lt is k d l = elim (cases_lt k i) [
  | inl m ↦ h k d m
  | inr g ↦ (let at : i ≡ k = omega arith in subst (λ j. IsWithin n (written_term (get_or ws j d))) at
      (subst (IsWithin n) (sym (get_or-map written_term ws i e (written_term e) lt) ∙ get_or-map written_term ws i d (written_term e) lt) is))
]

within-front : (n : ℕ) (ws : List Written) (i : ℕ) (e : Written) → AreWithin n ws i → i < length ws → All (IsWithin n) (take i (map written_term ws))
within-front n ws i e h lt k d l =
    let long : length (take i (map written_term ws)) ≡ i = length-take-le i (map written_term ws) (omega (arith, lt, length-map ws written_term)) in
    let below : k < i = omega (arith, l, long) in
    subst (IsWithin n) (sym (get_or-take i (map written_term ws) k d below ∙ get_or-map written_term ws k e d (omega (arith, below, lt)))) (h k e below)

pub beyond-at : (n : ℕ) (ws : List Written) (i : ℕ) (d : Written) (p : ℕ) → ArePlaced ws → AreWithin n ws i → i < length ws → IsFirstBeyond n (get_or ws i d).place (written_term (get_or ws i d)) p → IsBeyondAt n (map written_term ws) p
beyond-at n ws i d p placed h lt b = record {
  before = take i (map written_term ws);
  term = written_term (get_or ws i d);
  after = drop (suc i) (map written_term ws);
  parts = parts_at ws i d lt;
  others = within-front n ws i d h lt;
  beyond = subst (λ q. IsFirstBeyond n q (written_term (get_or ws i d)) p) (place-at ws i d placed lt) b;
}

-- Numbers above a limit.

pub present_digits : (P : List ℕ → Type 0) → ((ds : List ℕ) → P ds → AllDigits 10 ds) → (o : Option (List ℕ)) → IfSome o P → IfSome o (AllDigits 10)
present_digits P f None h = tt
present_digits P f (Some ds) h = f ds h

pub present_above : (o : Option (List ℕ)) (limit : ℕ) → IsSomeAnd o (λ ds. limit < digits_value 10 ds) → ¬ (IfSome o (λ ds. digits_value 10 ds ≤ limit))
present_above None limit h g = h
present_above (Some ds) limit h g = omega (arith, h, g)

pub present_below : (o : Option (List ℕ)) (limit : ℕ) → ¬ (IsSomeAnd o (λ ds. limit < digits_value 10 ds)) → IfSome o (λ ds. digits_value 10 ds ≤ limit)
present_below None limit h = tt
present_below (Some ds) limit h = elim (cases_lt limit (digits_value 10 ds)) [ inl l ↦ absurd (h l) | inr g ↦ g ]

pub below_order : (o : Option (List ℕ)) (n : ℕ) → 0 < n → IfSome o (λ ds. digits_value 10 ds ≤ n - 1) → IfSome o (λ ds. digits_value 10 ds < n)
below_order None n p h = tt
below_order (Some ds) n p h = omega (arith, h)

pub not_below_order : (o : Option (List ℕ)) (n : ℕ) → 0 < n → ¬ (IfSome o (λ ds. digits_value 10 ds ≤ n - 1)) → ¬ (IfSome o (λ ds. digits_value 10 ds < n))
not_below_order None n p h g = h tt
not_below_order (Some ds) n p h g = h (omega (arith, g))
