-- A printed number is read as itself.
--   all-nonzero, each-nonzero    what holds of the terms that are not zero, and of each of them
--   are-printed                  the printed terms are terms of a text
--   increasing-exponents         their exponents increase
--   size-printed, terms-printed  their size, and their value
--   common-printed               the denominator of the number is their least common denominator
--   printed-read                 so the text is read as the number
use Rattle.std.proofs.Common.{◌≡◌, ◌≢◌, refl, sym, ◌∙◌, ap, ap₂, subst, ℕ, ℤ, pos, negsuc, zero, suc, ◌<◌, ◌≤◌, ◌+◌, ◌*◌, ◌/◌, ◌^◌, List, [], ◌∷◌, ◌++◌, append-nil, length, length-append, get_or, map, arith, All, IsSome, ◌⊎◌, inl, inr, unsigned_abs, sum_by}
use Rattle.std.specs.Int.{◌∣◌}
use Rattle.std.specs.List.Sorted.{IsStrictlyIncreasing}
use Rattle.std.proofs.lemmas.Bool.{cases_lt}
use Rattle.std.proofs.lemmas.List.{map-append, get_or_append_left, get_or-map, length-map}
use Rattle.std.proofs.lemmas.List.Elements.{All-append, All-map}
use Rattle.std.proofs.lemmas.List.Sums.{sum_by-cons, sum_by-append}
use Rattle.std.proofs.Math.Seq.{get_or-append_seam}
use native.Mathlib.Nat as Nat
use Rattle.irr_algebra.specs.Fin.{to_nat}
use Rattle.irr_algebra.proofs.Indices.{to_nat-lt, from_nat, to_nat-from_nat}
use Rattle.irr_algebra.specs.Listed.{sum_below}
use Rattle.irr_algebra.specs.Ring.{whole}
use Rattle.irr_algebra.proofs.Rings.{zero-add, zero-mul, mul-zero}
use Rattle.irr_number.specs.Number.{Number, numbers, root_power}
use Rattle.irr_rational.specs.Integer.{integer}
use Rattle.irr_rational.proofs.Integers.{integer-zero}
use Rattle.irr_rational.proofs.WholeNumbers.{dvd_of_lowest}
use Rattle.irr_canonical.specs.Coefficient.{canonical, denominator, size, total_below}
use Rattle.irr_canonical.specs.PowerSum.{power_sum}
use Rattle.irr_canonical.proofs.Forms.{IsCanonical-canonical}
use Rattle.irr_canonical.proofs.Sizes.{term-le}
use Rattle.irr_canonical.proofs.Sums.{mul-denominator, eq_of_mul}
use Rattle.irr_cyc.specs.Terms.{term, nonzero_terms, terms_sum}
use Rattle.irr_text.specs.NumberText.{number_text}
use Rattle.irr_numeral.specs.declared.limits.TheConstants.{COEFFICIENT_LIMIT, DENOMINATOR_LIMIT}
use Rattle.std.specs.Str.Parse.{digits_value}
use Rattle.irr_number.specs.Lift.{lift_of}
use Rattle.irr_rational.specs.Rational.{ratio}
use Rattle.irr_rational.specs.Ratio.{AreLowest}
use Rattle.irr_numeral.specs.NumberLimit.{IsWithin}
use Rattle.irr_numeral.specs.TermPlaces.{HasZero}
use Rattle.irr_numeral.specs.WrittenNumber.{WrittenTerm, IsTerm, AreLater, AreTerms, exponent_of}
use Rattle.irr_numeral.specs.WrittenValue.{IsReadAs, IsCommonDenominator, denominator_of, numerator_over, term_value, written_size, written_value}
use Rattle.irr_numeral.proofs.PrintedTerms.{denominator-pos}
use Rattle.irr_numeral.proofs.PrintedTermFacts.{IsPrintedAs, printed-as}
use Rattle.irr_numeral.proofs.PrintedWriting.{printed, number-spelled, exponent_digits}
use Rattle.irr_numeral.proofs.ScaledTerms.{over-lift}

-- The terms that are not zero.

single : (P : ℕ × ℤ → Type 0) (t : ℕ × ℤ) → P t → All P (t ∷ [])
single P t p zero d lt = p
single P t p (suc k) d lt = absurd (omega arith)

all-term : (P : ℕ × ℤ → Type 0) (j : ℕ) (c : ℤ) → (c ≢ pos 0 → P (j, c)) → All P (term j c)
unfolding term
all-term P j (pos zero) h = λ k d lt. absurd (omega arith)
all-term P j (pos (suc n)) h = single P (j, pos (suc n)) (h (λ e. cc))
all-term P j (negsuc n) h = single P (j, negsuc n) (h (λ e. cc))

all-nonzero : (P : ℕ × ℤ → Type 0) (m : ℕ) (f : ℕ → ℤ) → ((j : ℕ) → j < m → f j ≢ pos 0 → P (j, f j)) → All P (nonzero_terms m f)
unfolding nonzero_terms
all-nonzero P zero f h = λ k d lt. absurd (omega arith)
all-nonzero P (suc m) f h = All-append P (nonzero_terms m f) (term m (f m)) (all-nonzero P m f (λ j lt n. h j (omega arith) n))
    (all-term P m (f m) (h m (omega arith)))

all-left : (P : ℕ × ℤ → Type 0) (xs ys : List (ℕ × ℤ)) → All P (xs ++ ys) → All P xs
all-left P xs ys h k d lt = subst P (get_or_append_left xs ys d k lt) (h k d (omega (arith, lt, length-append xs ys)))

all-right : (P : ℕ × ℤ → Type 0) (xs ys : List (ℕ × ℤ)) → All P (xs ++ ys) → All P ys
all-right P [] ys h = h
all-right P (x ∷ xs) ys h = all-right P xs ys (λ k d lt. h (suc k) d (omega arith))

of-term : (P : ℕ × ℤ → Type 0) (j : ℕ) (c : ℤ) → All P (term j c) → c ≢ pos 0 → P (j, c)
unfolding term
of-term P j (pos zero) h n = absurd (n refl)
of-term P j (pos (suc m)) h n = h 0 (j, pos (suc m)) (omega arith)
of-term P j (negsuc m) h n = h 0 (j, negsuc m) (omega arith)

pub each-nonzero : (P : ℕ × ℤ → Type 0) (m : ℕ) (f : ℕ → ℤ) → All P (nonzero_terms m f) → (j : ℕ) → j < m → f j ≢ pos 0 → P (j, f j)
unfolding nonzero_terms
each-nonzero P zero f h j lt n = absurd (omega arith)
each-nonzero P (suc m) f h j lt n = elim (cases_lt j m) [
  | inl l ↦ each-nonzero P m f (all-left P (nonzero_terms m f) (term m (f m)) h) j l n
  | inr g ↦ (let at : m ≡ j = omega arith in subst (λ i. f i ≢ pos 0 → P (i, f i)) at
      (of-term P m (f m) (all-right P (nonzero_terms m f) (term m (f m)) h)) n)
]

-- Terms of a text.

later-push : (ts : List WrittenTerm) (t : WrittenTerm) → AreLater ts → IsTerm t → IsSome t.exponent → AreLater (ts ++ (t ∷ []))
later-push [] t h is some = (is, some, tt)
later-push (u ∷ us) t h is some = (h.0, h.1, later-push us t h.2 is some)

terms-push : (ts : List WrittenTerm) (t : WrittenTerm) → AreTerms ts → IsTerm t → (ts ≡ []) ⊎ IsSome t.exponent → AreTerms (ts ++ (t ∷ []))
terms-push [] t h is some = (is, tt)
terms-push (u ∷ us) t h is (inl e) = absurd (cc)
terms-push (u ∷ us) t h is (inr some) = (h.0, later-push us t h.1 is some)

exponent-or-first : (j : ℕ) (f : ℕ → ℤ) (den : ℕ) → (map (printed den) (nonzero_terms j f) ≡ []) ⊎ IsSome (exponent_digits j)
unfolding nonzero_terms
exponent-or-first zero f den = inl refl
exponent-or-first (suc j) f den = inr refl

push-term : (den j : ℕ) (c : ℤ) (ts : List WrittenTerm) → AreTerms ts → (ts ≡ []) ⊎ IsSome (exponent_digits j) → (c ≢ pos 0 → IsTerm (printed den (j, c)))
    → AreTerms (ts ++ map (printed den) (term j c))
unfolding term
push-term den j (pos zero) ts h s is = subst AreTerms (sym (append-nil ts)) h
push-term den j (pos (suc n)) ts h s is = terms-push ts (printed den (j, pos (suc n))) h (is (λ e. cc)) s
push-term den j (negsuc n) ts h s is = terms-push ts (printed den (j, negsuc n)) h (is (λ e. cc)) s

pub are-printed : (den m : ℕ) (f : ℕ → ℤ) → ((j : ℕ) → j < m → f j ≢ pos 0 → IsTerm (printed den (j, f j))) → AreTerms (map (printed den) (nonzero_terms m f))
unfolding nonzero_terms
are-printed den zero f h = tt
are-printed den (suc m) f h = subst AreTerms (sym (map-append (printed den) (nonzero_terms m f) (term m (f m))))
    (push-term den m (f m) (map (printed den) (nonzero_terms m f)) (are-printed den m f (λ j lt n. h j (omega arith) n)) (exponent-or-first m f den)
    (h m (omega arith)))

-- Their exponents.

increasing-push : (xs : List ℕ) (m : ℕ) → IsStrictlyIncreasing xs → All (λ x. x < m) xs → IsStrictlyIncreasing (xs ++ (m ∷ []))
increasing-push xs m h b k lt = elim (cases_lt (k + 1) (length xs)) [
  | inl l ↦ (let p = get_or_append_left xs (m ∷ []) 0 k (omega arith) in let q = get_or_append_left xs (m ∷ []) 0 (k + 1) l in
      let r : get_or xs k 0 < get_or xs (k + 1) 0 = h k l in
      let goal : get_or (xs ++ (m ∷ [])) k 0 < get_or (xs ++ (m ∷ [])) (k + 1) 0 = omega (arith, p, q, r) in goal)
  | inr g ↦ (let at : length xs ≡ k + 1 = omega (arith, lt, length-append xs (m ∷ [])) in let p = get_or_append_left xs (m ∷ []) 0 k (omega arith) in
      let r : get_or xs k 0 < m = b k 0 (omega arith) in
      let q : get_or (xs ++ (m ∷ [])) (k + 1) 0 ≡ m = ap (λ i. get_or (xs ++ (m ∷ [])) i 0) (sym at) ∙ get_or-append_seam xs m [] 0 in
      let goal : get_or (xs ++ (m ∷ [])) k 0 < get_or (xs ++ (m ∷ [])) (k + 1) 0 = omega (arith, p, q, r) in goal)
]

same-exponents : (den : ℕ) (ts : List (ℕ × ℤ)) → All (λ t. exponent_of (printed den t) ≡ t.0) ts
    → map exponent_of (map (printed den) ts) ≡ map (λ t. t.0) ts
same-exponents den [] h = refl
same-exponents den (t ∷ ts) h = ap₂ (λ x xs. x ∷ xs) (h 0 t (omega arith)) (same-exponents den ts (λ k d lt. h (suc k) d (omega arith)))

push-exponent : (j : ℕ) (c : ℤ) (xs : List ℕ) → IsStrictlyIncreasing xs → All (λ x. x < j) xs → IsStrictlyIncreasing (xs ++ map (λ t. t.0) (term j c))
unfolding term
push-exponent j (pos zero) xs h b = subst IsStrictlyIncreasing (sym (append-nil xs)) h
push-exponent j (pos (suc n)) xs h b = increasing-push xs j h b
push-exponent j (negsuc n) xs h b = increasing-push xs j h b

increasing-exponents : (m : ℕ) (f : ℕ → ℤ) → IsStrictlyIncreasing (map (λ t. t.0) (nonzero_terms m f))
unfolding nonzero_terms
increasing-exponents zero f = λ k lt. absurd (omega arith)
increasing-exponents (suc m) f = subst IsStrictlyIncreasing (sym (map-append (λ t. t.0) (nonzero_terms m f) (term m (f m))))
    (push-exponent m (f m) (map (λ t. t.0) (nonzero_terms m f)) (increasing-exponents m f)
    (All-map (λ x. x < m) (λ t. t.0) (nonzero_terms m f) (all-nonzero (λ t. t.0 < m) m f (λ j lt n. lt))))

-- Their size.

term-size : (j : ℕ) (c : ℤ) → sum_by (λ t. unsigned_abs t.1) (term j c) ≡ unsigned_abs c
unfolding term
term-size j (pos zero) = refl
term-size j (pos (suc n)) = sum_by-cons (λ (t : ℕ × ℤ). unsigned_abs t.1) (j, pos (suc n)) [] ∙ omega arith
term-size j (negsuc n) = sum_by-cons (λ (t : ℕ × ℤ). unsigned_abs t.1) (j, negsuc n) [] ∙ omega arith

pub nonzero-size : (m : ℕ) (f : ℕ → ℤ) → sum_by (λ t. unsigned_abs t.1) (nonzero_terms m f) ≡ total_below m (λ j. unsigned_abs (f j))
unfolding nonzero_terms total_below
nonzero-size zero f = refl
nonzero-size (suc m) f = sum_by-append (λ t. unsigned_abs t.1) (nonzero_terms m f) (term m (f m))
    ∙ ap₂ (λ a b. a + b) (nonzero-size m f) (term-size m (f m))

pub size-printed : (den : ℕ) (ts : List (ℕ × ℤ)) → All (λ t. numerator_over den (printed den t) ≡ unsigned_abs t.1) ts
    → written_size den (map (printed den) ts) ≡ sum_by (λ t. unsigned_abs t.1) ts
size-printed den [] h = refl
size-printed den (t ∷ ts) h = sum_by-cons (numerator_over den) (printed den t) (map (printed den) ts)
    ∙ ap₂ (λ a b. a + b) (h 0 t (omega arith)) (size-printed den ts (λ k d lt. h (suc k) d (omega arith))) ∙ sym (sum_by-cons (λ u. unsigned_abs u.1) t ts)

-- the terms of a number that are not zero, and as they are read
abbrev pub nonzero : (n : ℕ) → Number n → List (ℕ × ℤ)
nonzero n x = nonzero_terms n (canonical n x).num.at

abbrev pub as_read : (n : ℕ) → Number n → List WrittenTerm
as_read n x = map (printed (denominator n x)) (nonzero n x)

-- Their value.

module _ (n : ℕ) where
  term-printed : (den : ℕ) (t : ℕ × ℤ) → 0 < den → IsPrintedAs n den t → (numbers n).mul (whole (numbers n) den) (term_value n (printed den t))
      ≡ (numbers n).mul (integer (numbers n) t.1) (root_power n t.0)
  term-printed den t p h =
      ap ((numbers n).mul (whole (numbers n) den)) (ap₂ (λ q j. (numbers n).mul (lift_of 1 n q) (root_power n j)) h.value h.exponent)
      ∙ sym ((numbers n).mul_assoc (whole (numbers n) den) (lift_of 1 n (ratio t.1 den)) (root_power n t.0))
      ∙ ap (λ y. (numbers n).mul y (root_power n t.0)) (over-lift n t.1 den p)

  terms-printed : (den : ℕ) (ts : List (ℕ × ℤ)) → 0 < den → All (IsPrintedAs n den) ts
      → (numbers n).mul (whole (numbers n) den) (written_value n (map (printed den) ts)) ≡ terms_sum n ts
  unfolding written_value terms_sum
  terms-printed den [] p h = mul-zero (numbers n) (whole (numbers n) den)
  terms-printed den (t ∷ ts) p h = (numbers n).mul-add (whole (numbers n) den) (term_value n (printed den t)) (written_value n (map (printed den) ts))
      ∙ ap₂ (numbers n).add (term-printed den t p (h 0 t (omega arith))) (terms-printed den ts p (λ k d lt. h (suc k) d (omega arith)))

  sum-append : (ts us : List (ℕ × ℤ)) → terms_sum n (ts ++ us) ≡ (numbers n).add (terms_sum n ts) (terms_sum n us)
  unfolding terms_sum
  sum-append [] us = sym (zero-add (numbers n) (terms_sum n us))
  sum-append (t ∷ ts) us = ap ((numbers n).add ((numbers n).mul (integer (numbers n) t.1) (root_power n t.0))) (sum-append ts us)
      ∙ sym ((numbers n).add_assoc ((numbers n).mul (integer (numbers n) t.1) (root_power n t.0)) (terms_sum n ts) (terms_sum n us))

  term-sum : (j : ℕ) (c : ℤ) → terms_sum n (term j c) ≡ (numbers n).mul (integer (numbers n) c) (root_power n j)
  unfolding terms_sum term
  term-sum j (pos zero) = sym (ap (λ y. (numbers n).mul y (root_power n j)) (integer-zero (numbers n)) ∙ zero-mul (numbers n) (root_power n j))
  term-sum j (pos (suc m)) = (numbers n).add-zero ((numbers n).mul (integer (numbers n) (pos (suc m))) (root_power n j))
  term-sum j (negsuc m) = (numbers n).add-zero ((numbers n).mul (integer (numbers n) (negsuc m)) (root_power n j))

  nonzero-sum : (m : ℕ) (f : ℕ → ℤ) → terms_sum n (nonzero_terms m f) ≡ sum_below (numbers n) m
      (λ j. (numbers n).mul (integer (numbers n) (f j)) (root_power n j))
  unfolding nonzero_terms sum_below terms_sum
  nonzero-sum zero f = refl
  nonzero-sum (suc m) f = sum-append (nonzero_terms m f) (term m (f m)) ∙ ap₂ (numbers n).add (nonzero-sum m f) (term-sum m (f m))

  value-printed : (x : Number n) → 0 < n → All (IsPrintedAs n (denominator n x)) (nonzero n x) → x ≡ written_value n (as_read n x)
  unfolding power_sum
  value-printed x h facts = eq_of_mul n h (denominator n x) (denominator-pos n x) x (written_value n (as_read n x))
      (mul-denominator n h x ∙ sym (nonzero-sum n (canonical n x).num.at) ∙ sym (terms-printed (denominator n x) (nonzero n x) (denominator-pos n x) facts))

-- Their common denominator.

multiple : (den b m num c : ℕ) → b ∣ den → b ∣ m → num * (den / b) ≡ c → den ∣ m * c
multiple den b m num c v w e = subst (λ y. y ∣ m * c) (Nat.mul-div_cancel' b v)
    (subst (λ y. b * (den / b) ∣ m * y) e (Nat.mul-dvd-mul b (den / b) w (Nat.dvd-mul_left (den / b) num)))

multiple-each : (n den m j : ℕ) (c : ℤ) → (c ≢ pos 0 → IsPrintedAs n den (j, c)) → (c ≢ pos 0 → denominator_of (printed den (j, c)) ∣ m)
    → den ∣ m * unsigned_abs c
multiple-each n den m j (pos zero) h v = subst (λ y. den ∣ y) (sym (Nat.mul-zero m)) (Nat.dvd-zero den)
multiple-each n den m j (pos (suc k)) h v = let f = h (λ e. cc) in multiple den (denominator_of (printed den (j, pos (suc k)))) m
    (digits_value 10 (printed den (j, pos (suc k))).numerator) (suc k) f.divides (v (λ e. cc)) f.absolute
multiple-each n den m j (negsuc k) h v = let f = h (λ e. cc) in multiple den (denominator_of (printed den (j, negsuc k))) m
    (digits_value 10 (printed den (j, negsuc k)).numerator) (suc k) f.divides (v (λ e. cc)) f.absolute

all-unmapped : (P : WrittenTerm → Type 0) (den : ℕ) (ts : List (ℕ × ℤ)) → All P (map (printed den) ts) → All (λ t. P (printed den t)) ts
all-unmapped P den ts h k d lt = subst P (get_or-map (printed den) ts k d (printed den d) lt)
    (h k (printed den d) (omega (arith, lt, length-map ts (printed den))))

module _ (n : ℕ) (h : 0 < n) (x : Number n) (facts : All (IsPrintedAs n (denominator n x)) (nonzero n x)) where
  are-lowest : AreLowest {n = n} (λ i. (canonical n x).num.at (to_nat i)) (denominator n x)
  unfolding denominator
  are-lowest = record {
    positive = denominator-pos n x;
    lowest = λ d v each. (IsCanonical-canonical n h x).lowest_terms d v
        (λ j lt. subst (λ k. d ∣ unsigned_abs ((canonical n x).num.at k)) (to_nat-from_nat n j lt) (each (from_nat n j lt)));
  }

  common-printed : IsCommonDenominator (as_read n x) (denominator n x)
  common-printed = record {
    positive = denominator-pos n x;
    common = All-map (λ t. denominator_of t ∣ denominator n x) (printed (denominator n x)) (nonzero n x) (λ k d lt. (facts k d lt).divides);
    least = λ m all. dvd_of_lowest {m = n} (λ i. (canonical n x).num.at (to_nat i)) (denominator n x) m are-lowest (λ i.
        multiple-each n (denominator n x) m (to_nat i) ((canonical n x).num.at (to_nat i))
        (each-nonzero (IsPrintedAs n (denominator n x)) n (canonical n x).num.at facts (to_nat i) (to_nat-lt i))
        (each-nonzero (λ t. denominator_of (printed (denominator n x) t) ∣ m) n (canonical n x).num.at
        (all-unmapped (λ t. denominator_of t ∣ m) (denominator n x) (nonzero n x) all) (to_nat i) (to_nat-lt i)));
  }

pub facts-of : (n : ℕ) (x : Number n) → n < 2 ^ 64 → denominator n x ≤ DENOMINATOR_LIMIT → size n x ≤ COEFFICIENT_LIMIT
    → All (IsPrintedAs n (denominator n x)) (nonzero n x)
unfolding size
facts-of n x top d s = all-nonzero (IsPrintedAs n (denominator n x)) n (canonical n x).num.at (λ j lt some.
    let part = term-le n j (λ i. unsigned_abs ((canonical n x).num.at i)) lt in
    printed-as n (denominator n x) j ((canonical n x).num.at j) some (denominator-pos n x) d (omega (arith, part, s)) lt top)

size-of : (n : ℕ) (x : Number n) → All (IsPrintedAs n (denominator n x)) (nonzero n x) → size n x ≤ COEFFICIENT_LIMIT
    → written_size (denominator n x) (as_read n x) ≤ COEFFICIENT_LIMIT
unfolding size
size-of n x facts s = subst (λ y. y ≤ COEFFICIENT_LIMIT)
    (sym (size-printed (denominator n x) (nonzero n x) (λ k d lt. (facts k d lt).absolute) ∙ nonzero-size n (canonical n x).num.at)) s

pub printed-read : (n : ℕ) → 0 < n → n < 2 ^ 64 → (x : Number n) → denominator n x ≤ DENOMINATOR_LIMIT → size n x ≤ COEFFICIENT_LIMIT
    → IsReadAs n (number_text n x) x
printed-read n h top x d s =
    let den = denominator n x in
    let facts = facts-of n x top d s in
    record {
      terms = as_read n x;
      are_terms = are-printed den n (canonical n x).num.at (λ j lt some.
          (each-nonzero (IsPrintedAs n den) n (canonical n x).num.at facts j lt some).is_term);
      spells = number-spelled n x;
      increasing = subst IsStrictlyIncreasing (sym (same-exponents den (nonzero n x) (λ k t lt. (facts k t lt).exponent)))
          (increasing-exponents n (canonical n x).num.at);
      not_zero = All-map (λ t. ¬ (HasZero t)) (printed den) (nonzero n x) (λ k t lt. (facts k t lt).not_zero);
      within = All-map (IsWithin n) (printed den) (nonzero n x) (λ k t lt. (facts k t lt).within);
      small = record { denominator = den; common = common-printed n h x facts; denominator_within = d; size_within = size-of n x facts s };
      value = value-printed n x h facts;
    }
