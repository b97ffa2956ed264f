-- The first exponent that does not increase.
--   IsOrderedTo ts i last      the exponents of the first i terms increase, and last are the digits of the last of them
--   ordered-more               one term more
--   unordered-at               the fault
--   all-increase               all exponents increase
--   exponent-at                what is known of a term with an exponent
--   first_of_none              only the first term may have none
use Rattle.std.proofs.Common.{◌≡◌, refl, sym, ◌∙◌, ap, subst, ℕ, zero, suc, ◌<◌, ◌≤◌, ◌+◌, ◌-◌, List, [], ◌∷◌, ◌++◌, length, length-append, get_or, take, drop, map, Option, None, Some, IsSome, IfSome, arith, ◌⊎◌, inl, inr, append_assoc, false}
use Rattle.std.specs.Str.Parse.{digits_value}
use Rattle.std.proofs.lemmas.Bool.{cases_lt}
use Rattle.std.proofs.lemmas.List.{take-map, get_or-map, length-map, length-take-le, get_or-take, take_all}
use Rattle.std.proofs.Math.Seq.{split_at, take-suc, drop-cons}
use Rattle.irr_numeral.specs.declared.terms.Written.{Written}
use Rattle.irr_numeral.specs.WrittenNumber.{WrittenTerm, IsWhole, IsExponent, IsTerm, AreLater, AreTerms, AreIncreasing, exponent_of, exponent_value, quotient_text, exponent_text, unsigned_text, spelled_later, spelled}
use Rattle.irr_numeral.specs.TermPlaces.{numerator_place, exponent_place, written_term, ArePlaced, IsUnorderedAt}
use Rattle.irr_numeral.proofs.Splits.{place_of}
use Rattle.irr_numeral.proofs.DigitOrder.{below-by_length}

pub record IsOrderedTo (ts : List WrittenTerm) (i : ℕ) (last : List ℕ) : Type 0 where
  pub is_exponent : IsExponent last
  pub ordered : (k : ℕ) (d : WrittenTerm) → k + 1 < i → exponent_of (get_or ts k d) < exponent_of (get_or ts (k + 1) d)
  pub none : i ≡ 0 → digits_value 10 last ≡ 0
  pub some : (d : WrittenTerm) → 0 < i → digits_value 10 last ≡ exponent_of (get_or ts (i - 1) d)

pub ordered-none : (ts : List WrittenTerm) → IsOrderedTo ts 0 []
ordered-none ts = record { is_exponent = tt; ordered = λ k d h. absurd (omega arith); none = λ e. refl; some = λ d h. absurd (omega arith) }

-- one term more, whose exponent is above the last, or which is the first
pub ordered-more : (ts : List WrittenTerm) (i : ℕ) (last next : List ℕ) → IsOrderedTo ts i last → IsExponent next → ((d : WrittenTerm) → digits_value 10 next ≡ exponent_of (get_or ts i d))
    → (i ≡ 0) ⊎ (digits_value 10 last < digits_value 10 next) → IsOrderedTo ts (i + 1) next
ordered-more ts i last next h is value above = record {
  is_exponent = is;
  ordered = λ k d l. elim (cases_lt (k + 1) i) [
    | inl m ↦ h.ordered k d m
    | inr g ↦ (let at : k + 1 ≡ i = omega arith in elim above [
      | inl z ↦ absurd (omega (arith, z, at))
      | inr less ↦ (let before = h.some d (omega arith) in let next_is = value d in let back : i - 1 ≡ k = omega arith in
          let before_k : digits_value 10 last ≡ exponent_of (get_or ts k d) = before ∙ ap (λ j. exponent_of (get_or ts j d)) back in
          let next_k : digits_value 10 next ≡ exponent_of (get_or ts (k + 1) d) = next_is ∙ ap (λ j. exponent_of (get_or ts j d)) (sym at) in
          omega (arith, less, before_k, next_k))
    ])
  ];
  none = λ e. absurd (omega arith);
  some = λ d l. let back : i + 1 - 1 ≡ i = omega arith in value d ∙ ap (λ j. exponent_of (get_or ts j d)) (sym back);
}

-- the exponents of a front
front-increases : (ts : List WrittenTerm) (i : ℕ) (d : WrittenTerm) → i ≤ length ts → ((k : ℕ) (d : WrittenTerm) → k + 1 < i → exponent_of (get_or ts k d) < exponent_of (get_or ts (k + 1) d)) → AreIncreasing (take i ts)
front-increases ts i d le h k l =
    let long : length (map exponent_of (take i ts)) ≡ i = length-map (take i ts) exponent_of ∙ length-take-le i ts le in
    let a : get_or (map exponent_of (take i ts)) k 0 ≡ exponent_of (get_or ts k d) = get_or-map exponent_of (take i ts) k d 0 (omega (arith, l, length-map (take i ts) exponent_of)) ∙ ap exponent_of (get_or-take i ts k d (omega arith)) in
    let b : get_or (map exponent_of (take i ts)) (k + 1) 0 ≡ exponent_of (get_or ts (k + 1) d) = get_or-map exponent_of (take i ts) (k + 1) d 0 (omega (arith, l, length-map (take i ts) exponent_of)) ∙ ap exponent_of (get_or-take i ts (k + 1) d (omega arith)) in
    omega (arith, h k d (omega arith), a, b)

pub all-increase : (ts : List WrittenTerm) (i : ℕ) (last : List ℕ) → IsOrderedTo ts i last → length ts ≤ i → AreIncreasing ts
all-increase [] i last h le = λ k l. absurd (omega (arith, l))
all-increase (t ∷ ts) i last h le = subst AreIncreasing (take_all (length (t ∷ ts)) (t ∷ ts) (omega arith)) (front-increases (t ∷ ts) (length (t ∷ ts)) t (omega arith) (λ k d l. h.ordered k d (omega arith)))

-- where the next exponent is not above the last, the last one is that of a term
pub unordered-at : (ts : List WrittenTerm) (i : ℕ) (last : List ℕ) (t : WrittenTerm) (p : ℕ) → IsOrderedTo ts i last → i < length ts → t ≡ get_or ts i t → exponent_of t ≤ digits_value 10 last → 0 < exponent_of t
    → p ≡ exponent_place (take i ts) t → IsUnorderedAt ts p
unordered-at ts zero last t p h lt at le some place = absurd (omega (arith, h.none refl))
unordered-at ts (suc j) last t p h lt at le some place =
    let s : WrittenTerm = get_or ts j t in
    let front : take (suc j) ts ≡ take j ts ++ (get_or ts j t ∷ []) = take-suc ts j t (omega arith) in
    let before : digits_value 10 last ≡ exponent_of (get_or ts (suc j - 1) t) = h.some t (omega arith) in
    let back : suc j - 1 ≡ j = omega arith in
    let same : digits_value 10 last ≡ exponent_of (get_or ts j t) = before ∙ ap (λ k. exponent_of (get_or ts k t)) back in
    record {
      before = take j ts;
      last = s;
      term = t;
      after = drop (suc (suc j)) ts;
      parts = split_at ts j t (omega arith) ∙ ap (λ l. take j ts ++ (get_or ts j t ∷ l)) (drop-cons ts (suc j) t lt ∙ ap (λ u. u ∷ drop (suc (suc j)) ts) (sym at));
      ordered = subst AreIncreasing front (front-increases ts (suc j) t (omega arith) h.ordered);
      unordered = omega (arith, le, same);
      place = place ∙ ap (λ l. exponent_place l t) front;
    }

-- The terms by their index.

later-index : (ts : List WrittenTerm) (i : ℕ) (d : WrittenTerm) → AreLater ts → i < length ts → IsTerm (get_or ts i d) × IsSome (get_or ts i d).exponent
later-index [] i d h lt = absurd (omega arith)
later-index (t ∷ ts) zero d h lt = (h.0, h.1)
later-index (t ∷ ts) (suc i) d h lt = later-index ts i d h.2 (omega arith)

pub term-index : (ts : List WrittenTerm) (i : ℕ) (d : WrittenTerm) → AreTerms ts → i < length ts → IsTerm (get_or ts i d)
term-index [] i d h lt = absurd (omega arith)
term-index (t ∷ ts) zero d h lt = h.0
term-index (t ∷ ts) (suc i) d h lt = (later-index ts i d h.1 (omega arith)).0

-- only the first term may have no exponent
pub first_of_none : (ts : List WrittenTerm) (i : ℕ) (d : WrittenTerm) → AreTerms ts → i < length ts → (get_or ts i d).exponent ≡ None → i ≡ 0
first_of_none [] i d h lt e = absurd (omega arith)
first_of_none (t ∷ ts) zero d h lt e = refl
first_of_none (t ∷ ts) (suc i) d h lt e = absurd (let is = (later-index ts i d h.1 (omega arith)).1 in let not : IsSome {T = List ℕ} None = subst IsSome e is in cc)

whole_of : (o : Option (List ℕ)) (ds : List ℕ) → o ≡ Some ds → IfSome o IsWhole → IsWhole ds
whole_of o ds e h = let P : Option (List ℕ) → Type 0 = λ u. IfSome u IsWhole in subst P e h

pub exponent_of_whole : (ds : List ℕ) → IsWhole ds → IsExponent ds × (0 < digits_value 10 ds)
exponent_of_whole [] w = absurd w
exponent_of_whole (d ∷ ds) w = (w, below-by_length [] (d ∷ ds) tt w (omega arith))

room : (before : List WrittenTerm) (t : WrittenTerm) (after : List WrittenTerm) (ts : List WrittenTerm) (ds : List ℕ) → ts ≡ before ++ (t ∷ after) → t.exponent ≡ Some ds
    → numerator_place before t + length (t.numerator ++ quotient_text t.denominator) + 3 ≤ length (spelled ts)
room before t after ts ds e f =
    let whole : length (spelled (before ++ (t ∷ after))) ≡ numerator_place before t + length (unsigned_text t ++ spelled_later after) = place_of before t after (spelled (before ++ (t ∷ after))) (unsigned_text t ++ spelled_later after) refl refl in
    let body : unsigned_text t ≡ (t.numerator ++ quotient_text t.denominator) ++ exponent_text t.exponent = sym (append_assoc t.numerator (quotient_text t.denominator) (exponent_text t.exponent)) in
    let last : length (exponent_text t.exponent) ≡ suc (suc (suc (length ds))) = ap (λ o. length (exponent_text o)) f in
    omega (arith, whole, ap length body, last, length-append (unsigned_text t) (spelled_later after), length-append (t.numerator ++ quotient_text t.denominator) (exponent_text t.exponent), ap (λ l. length (spelled l)) e)

pub record IsExponentAt (ts : List WrittenTerm) (i : ℕ) (t : WrittenTerm) (ds : List ℕ) : Type 0 where
  pub at : t ≡ get_or ts i t
  pub is_exponent : IsExponent ds
  pub value : exponent_of t ≡ digits_value 10 ds
  pub positive : 0 < digits_value 10 ds
  pub room : numerator_place (take i ts) t + length (t.numerator ++ quotient_text t.denominator) + 3 ≤ length (spelled ts)

pub exponent-at : (ws : List Written) (i : ℕ) (d : Written) (ds : List ℕ) → AreTerms (map written_term ws) → i < length ws → (written_term (get_or ws i d)).exponent ≡ Some ds → IsExponentAt (map written_term ws) i (written_term (get_or ws i d)) ds
exponent-at ws i d ds are lt f =
    let ts = map written_term ws in
    let t = written_term (get_or ws i d) in
    let at : written_term (get_or ws i d) ≡ get_or (map written_term ws) i (written_term (get_or ws i d)) = sym (get_or-map written_term ws i d (written_term (get_or ws i d)) lt) in
    let inside : i < length (map written_term ws) = omega (arith, lt, length-map ws written_term) in
    let is : IsTerm (written_term (get_or ws i d)) = subst IsTerm (sym at) (term-index (map written_term ws) i (written_term (get_or ws i d)) are inside) in
    let whole = exponent_of_whole ds (whole_of t.exponent ds f is.exponent) in
    record {
      at = at;
      is_exponent = whole.0;
      value = ap exponent_value f;
      positive = whole.1;
      room = room (take i ts) t (drop (suc i) ts) ts ds (split_at ts i t inside ∙ ap (λ u. take i ts ++ (u ∷ drop (suc i) ts)) (sym at)) f;
    }

-- the place of the numerator of a term that has its place
pub place-at : (ws : List Written) (i : ℕ) (d : Written) → ArePlaced ws → i < length ws → (get_or ws i d).place ≡ numerator_place (take i (map written_term ws)) (written_term (get_or ws i d))
place-at ws i d placed lt = placed i d lt ∙ ap (λ l. numerator_place l (written_term (get_or ws i d))) (sym (take-map written_term i ws))

-- one term more in the program
pub ordered-term : (ws : List Written) (i : ℕ) (d : Written) (last ds : List ℕ) → IsOrderedTo (map written_term ws) i last → IsExponentAt (map written_term ws) i (written_term (get_or ws i d)) ds → i < length ws
    → digits_value 10 last < digits_value 10 ds → IsOrderedTo (map written_term ws) (i + 1) ds
ordered-term ws i d last ds h e lt less = ordered-more (map written_term ws) i last ds h e.is_exponent (λ u. sym e.value ∙ ap exponent_of (sym (get_or-map written_term ws i d u lt))) (inr less)

pub ordered-without : (ws : List Written) (i : ℕ) (d : Written) (last : List ℕ) → AreTerms (map written_term ws) → IsOrderedTo (map written_term ws) i last → i < length ws → (written_term (get_or ws i d)).exponent ≡ None → IsOrderedTo (map written_term ws) (i + 1) last
ordered-without ws i d last are h lt e =
    let inside : i < length (map written_term ws) = omega (arith, lt, length-map ws written_term) in
    let none : (u : WrittenTerm) → (get_or (map written_term ws) i u).exponent ≡ None = (λ u. ap (λ (t : WrittenTerm). t.exponent) (get_or-map written_term ws i d u lt) ∙ e) in
    let first : i ≡ 0 = first_of_none (map written_term ws) i (written_term d) are inside (none (written_term d)) in
    ordered-more (map written_term ws) i last last h h.is_exponent (λ u. h.none first ∙ ap exponent_value (sym (none u))) (inl first)

pub unordered-term : (ws : List Written) (i : ℕ) (d : Written) (last ds : List ℕ) (p : ℕ) → ArePlaced ws → IsOrderedTo (map written_term ws) i last → IsExponentAt (map written_term ws) i (written_term (get_or ws i d)) ds → i < length ws
    → ¬ (digits_value 10 last < digits_value 10 ds) → p ≡ (get_or ws i d).place + length ((written_term (get_or ws i d)).numerator ++ quotient_text (written_term (get_or ws i d)).denominator) + 3 → IsUnorderedAt (map written_term ws) p
unordered-term ws i d last ds p placed h e lt n q =
    unordered-at (map written_term ws) i last (written_term (get_or ws i d)) p h (omega (arith, lt, length-map ws written_term)) e.at (omega (arith, n, e.value)) (omega (arith, e.value, e.positive))
    (q ∙ ap (λ l. l + length ((written_term (get_or ws i d)).numerator ++ quotient_text (written_term (get_or ws i d)).denominator) + 3) (place-at ws i d placed lt))

-- what a slice gives where it has no term
abbrev pub no_term : Written
no_term = record { negative = false; place = 0; numerator = record { ref_ptr = (0, 0); now = [] }; denominator = None; exponent = None }
