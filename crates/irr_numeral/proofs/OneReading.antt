-- A text is spelled by one list of terms, and read in one way.
--   unsigned-unique      a term without its sign, and what stands behind it
--   spelled-unique       the terms of a text
--   read-unique          the number of a text
--   no-fault             a text that is read has no fault but want of memory
use Rattle.std.proofs.Common.{◌≡◌, refl, sym, ◌∙◌, ap, ap₂, subst, ℕ, suc, ◌<◌, ◌≤◌, ◌+◌, Bool, true, false, List, [], ◌∷◌, ◌++◌, length, length-append, get_or, map, All, Option, None, Some, IfSome, arith, inl, inr}
use Rattle.std.specs.List.Sorted.{IsStrictlyIncreasing}
use Rattle.std.proofs.lemmas.List.{map-append}
use Rattle.std.proofs.Math.Seq.{get_or-append_seam}
use Rattle.irr_digits.proofs.Numerals.{run_unique}
use Rattle.irr_number.specs.Number.{Number}
use Rattle.irr_numeral.specs.declared.read.NumberError.{NumberError}
use Rattle.irr_numeral.specs.declared.read.NumberError.TheVariants.{Shape, Zero, Range, Memory}
use Rattle.irr_numeral.specs.NumberFault.{IsFault}
use Rattle.irr_numeral.specs.NumberLimit.{IsWithin, IsFirstBeyond}
use Rattle.irr_numeral.specs.Split.{IsBehindTerm}
use Rattle.irr_numeral.specs.TermPlaces.{HasZero, IsUnorderedAt}
use Rattle.irr_numeral.specs.WrittenNumber.{WrittenTerm, IsWhole, IsDenominator, IsTerm, IsNumber, AreLater, AreTerms, AreIncreasing, exponent_of, quotient_text, exponent_text, unsigned_text, first_sign, later_sign, spelled_later, spelled}
use Rattle.irr_numeral.specs.WrittenValue.{AreSmall, IsReadAs, written_value}
use Rattle.irr_numeral.proofs.Splits.{digits_of_whole, digits_of_denominator, no_digit-behind, no_digit-exponent, no_digit-quotient, no_star, no_slash, regrouped, behind_later, term_ext}

tails : (m n : ℕ) (s t : List ℕ) → m ∷ s ≡ n ∷ t → s ≡ t
tails m n s t e = cc

heads : (m n : ℕ) (s t : List ℕ) → m ∷ s ≡ n ∷ t → m ≡ n
heads m n s t e = cc

exponent-unique : (o p : Option (List ℕ)) (xs ys : List ℕ) → IfSome o IsWhole → IfSome p IsWhole → IsBehindTerm xs → IsBehindTerm ys
    → exponent_text o ++ xs ≡ exponent_text p ++ ys → (o ≡ p) × (xs ≡ ys)
exponent-unique None None xs ys h k b c e = (refl, e)
exponent-unique None (Some ds) xs ys h k b c e = absurd (no_star xs (122 ∷ 94 ∷ (ds ++ ys)) b e)
exponent-unique (Some ds) None xs ys h k b c e = absurd (no_star ys (122 ∷ 94 ∷ (ds ++ xs)) c (sym e))
exponent-unique (Some ds) (Some es) xs ys h k b c e =
    let rest : ds ++ xs ≡ es ++ ys = tails 94 94 (ds ++ xs) (es ++ ys) (tails 122 122 (94 ∷ (ds ++ xs)) (94 ∷ (es ++ ys))
    (tails 42 42 (122 ∷ 94 ∷ (ds ++ xs)) (122 ∷ 94 ∷ (es ++ ys)) e)) in
    let both = run_unique ds es xs ys (digits_of_whole ds h) (digits_of_whole es k) (no_digit-behind xs b) (no_digit-behind ys c) rest in
    (ap Some both.0, both.1)

quotient-unique : (o p e f : Option (List ℕ)) (xs ys : List ℕ) → IfSome o IsDenominator → IfSome p IsDenominator → IsBehindTerm xs → IsBehindTerm ys
    → quotient_text o ++ (exponent_text e ++ xs) ≡ quotient_text p ++ (exponent_text f ++ ys)
    → (o ≡ p) × (exponent_text e ++ xs ≡ exponent_text f ++ ys)
quotient-unique None None e f xs ys h k b c q = (refl, q)
quotient-unique None (Some ds) e f xs ys h k b c q = absurd (no_slash e xs (ds ++ (exponent_text f ++ ys)) b q)
quotient-unique (Some ds) None e f xs ys h k b c q = absurd (no_slash f ys (ds ++ (exponent_text e ++ xs)) c (sym q))
quotient-unique (Some ds) (Some es) e f xs ys h k b c q =
    let rest : ds ++ (exponent_text e ++ xs) ≡ es ++ (exponent_text f ++ ys) =
    tails 47 47 (ds ++ (exponent_text e ++ xs)) (es ++ (exponent_text f ++ ys)) q in
    let both = run_unique ds es (exponent_text e ++ xs) (exponent_text f ++ ys) (digits_of_denominator ds h) (digits_of_denominator es k)
    (no_digit-exponent e xs b) (no_digit-exponent f ys c) rest in
    (ap Some both.0, both.1)

unsigned-unique : (t u : WrittenTerm) (xs ys : List ℕ) → IsTerm t → IsTerm u → IsBehindTerm xs → IsBehindTerm ys
    → unsigned_text t ++ xs ≡ unsigned_text u ++ ys
    → (t.numerator ≡ u.numerator) × (t.denominator ≡ u.denominator) × (t.exponent ≡ u.exponent) × (xs ≡ ys)
unsigned-unique t u xs ys h k b c e =
    let num = run_unique t.numerator u.numerator (quotient_text t.denominator ++ (exponent_text t.exponent ++ xs))
    (quotient_text u.denominator ++ (exponent_text u.exponent ++ ys))
    (digits_of_whole t.numerator h.numerator) (digits_of_whole u.numerator k.numerator) (no_digit-quotient t.denominator t.exponent xs b)
    (no_digit-quotient u.denominator u.exponent ys c)
    (sym (regrouped t xs) ∙ e ∙ regrouped u ys) in
    let den = quotient-unique t.denominator u.denominator t.exponent u.exponent xs ys h.denominator k.denominator b c num.1 in
    let exp = exponent-unique t.exponent u.exponent xs ys h.exponent k.exponent b c den.1 in
    (num.0, den.0, exp.0, exp.1)

later_sign-unique : (a b : Bool) → later_sign a ≡ later_sign b → a ≡ b
later_sign-unique true true e = refl
later_sign-unique true false e = absurd (omega arith)
later_sign-unique false true e = absurd (omega arith)
later_sign-unique false false e = refl

later-unique : (ts us : List WrittenTerm) → AreLater ts → AreLater us → spelled_later ts ≡ spelled_later us → ts ≡ us
later-unique [] [] h k e = refl
later-unique [] (u ∷ us) h k e = absurd (omega (arith, ap length e))
later-unique (t ∷ ts) [] h k e = absurd (omega (arith, ap length e))
later-unique (t ∷ ts) (u ∷ us) h k e =
    let sign : t.negative ≡ u.negative = later_sign-unique t.negative u.negative
    (heads (later_sign t.negative) (later_sign u.negative) (unsigned_text t ++ spelled_later ts) (unsigned_text u ++ spelled_later us) e) in
    let parts = unsigned-unique t u (spelled_later ts) (spelled_later us) h.0 k.0 (behind_later ts) (behind_later us)
    (tails (later_sign t.negative) (later_sign u.negative) (unsigned_text t ++ spelled_later ts) (unsigned_text u ++ spelled_later us) e) in
    ap₂ (λ v vs. v ∷ vs) (term_ext t.negative u.negative t.numerator u.numerator t.denominator u.denominator t.exponent u.exponent sign parts.0 parts.1
    parts.2) (later-unique ts us h.2 k.2 parts.3)

-- a term's text begins with a digit above 0
begins : (t : WrittenTerm) (xs : List ℕ) → IsTerm t → (d : ℕ) × (rest : List ℕ) × (49 ≤ d) × (unsigned_text t ++ xs ≡ d ∷ rest)
begins t xs h = from t.numerator h.numerator
  where
    from : (ds : List ℕ) → IsWhole ds → (d : ℕ) × (rest : List ℕ) × (49 ≤ d)
        × ((ds ++ (quotient_text t.denominator ++ exponent_text t.exponent)) ++ xs ≡ d ∷ rest)
    from [] w = absurd w
    from (d ∷ ds) w = (d, (ds ++ (quotient_text t.denominator ++ exponent_text t.exponent)) ++ xs, w.0, refl)

first-unique : (t u : WrittenTerm) (xs ys : List ℕ) (a b : Bool) → IsTerm t → IsTerm u
    → first_sign a ++ (unsigned_text t ++ xs) ≡ first_sign b ++ (unsigned_text u ++ ys) → (a ≡ b) × (unsigned_text t ++ xs ≡ unsigned_text u ++ ys)
first-unique t u xs ys true true h k e = (refl, tails 45 45 (unsigned_text t ++ xs) (unsigned_text u ++ ys) e)
first-unique t u xs ys true false h k e = let f = begins u ys k in absurd (let same : 45 ≡ f.0 = heads 45 f.0 (unsigned_text t ++ xs) f.1 (e ∙ f.3) in
    omega (arith, f.2, same))
first-unique t u xs ys false true h k e = let f = begins t xs h in absurd (let same : 45 ≡ f.0 = heads 45 f.0 (unsigned_text u ++ ys) f.1 (sym e ∙ f.3) in
    omega (arith, f.2, same))
first-unique t u xs ys false false h k e = (refl, e)

not_nought : (t : WrittenTerm) (xs : List ℕ) (a : Bool) → IsTerm t → 48 ∷ [] ≡ first_sign a ++ (unsigned_text t ++ xs) → ⊥
not_nought t xs true h e = let same : 48 ≡ 45 = heads 48 45 [] (unsigned_text t ++ xs) e in omega (arith, same)
not_nought t xs false h e = let f = begins t xs h in let same : 48 ≡ f.0 = heads 48 f.0 [] f.1 (e ∙ f.3) in omega (arith, f.2, same)

pub spelled-unique : (ts us : List WrittenTerm) → AreTerms ts → AreTerms us → spelled ts ≡ spelled us → ts ≡ us
spelled-unique [] [] h k e = refl
spelled-unique [] (u ∷ us) h k e = absurd (not_nought u (spelled_later us) u.negative k.0 e)
spelled-unique (t ∷ ts) [] h k e = absurd (not_nought t (spelled_later ts) t.negative h.0 (sym e))
spelled-unique (t ∷ ts) (u ∷ us) h k e =
    let first = first-unique t u (spelled_later ts) (spelled_later us) t.negative u.negative h.0 k.0 e in
    let parts = unsigned-unique t u (spelled_later ts) (spelled_later us) h.0 k.0 (behind_later ts) (behind_later us) first.1 in
    ap₂ (λ v vs. v ∷ vs) (term_ext t.negative u.negative t.numerator u.numerator t.denominator u.denominator t.exponent u.exponent first.0 parts.0 parts.1
    parts.2) (later-unique ts us h.1 k.1 parts.3)

pub read-unique : (n : ℕ) (text : List ℕ) (x y : Number n) → IsReadAs n text x → IsReadAs n text y → x ≡ y
read-unique n text x y h k = h.value ∙ ap (written_value n) (spelled-unique h.terms k.terms h.are_terms k.are_terms (h.spells ∙ sym k.spells)) ∙ sym k.value

-- the terms of any form of a text that is read
same-terms : (n : ℕ) (text : List ℕ) (x : Number n) (h : IsReadAs n text x) (form : IsNumber text) → h.terms ≡ form.terms
same-terms n text x h form = spelled-unique h.terms form.terms h.are_terms form.are_terms (h.spells ∙ sym form.spells)

increasing-seam : (xs : List ℕ) (a b : ℕ) (ys : List ℕ) → IsStrictlyIncreasing (xs ++ (a ∷ b ∷ ys)) → a < b
increasing-seam [] a b ys h = h 0 (omega arith)
increasing-seam (x ∷ xs) a b ys h = increasing-seam xs a b ys (λ k lt. let next : suc k + 1 ≡ suc (k + 1) = omega arith in
    subst (λ j. get_or (xs ++ (a ∷ b ∷ ys)) k 0 < get_or (x ∷ (xs ++ (a ∷ b ∷ ys))) j 0) next (h (suc k) (omega arith)))

pub not-unordered : (ts : List WrittenTerm) (p : ℕ) → AreIncreasing ts → IsUnorderedAt ts p → ⊥
not-unordered ts p h u =
    let less : exponent_of u.last < exponent_of u.term = increasing-seam (map exponent_of u.before) (exponent_of u.last) (exponent_of u.term)
    (map exponent_of u.after)
    (subst IsStrictlyIncreasing (map-append exponent_of u.before (u.last ∷ u.term ∷ u.after)) (subst AreIncreasing u.parts h)) in
    omega (arith, less, u.unordered)

pub not-each : (P : WrittenTerm → Type 0) (before : List WrittenTerm) (t : WrittenTerm) (after ts : List WrittenTerm) → ts ≡ before ++ (t ∷ after) → All P ts
    → P t
not-each P before t after ts e h = subst P (get_or-append_seam before t after t)
    (subst (All P) e h (length before) t (omega (arith, length-append before (t ∷ after))))

not-beyond : (n q : ℕ) (t : WrittenTerm) (p : ℕ) → IsFirstBeyond n q t p → IsWithin n t → ⊥
not-beyond n q t p (inl f) w = f.0 w.0
not-beyond n q t p (inr (inl f)) w = f.1 w.1
not-beyond n q t p (inr (inr f)) w = f.2 w.2

pub no-fault : (n : ℕ) (text : List ℕ) (x : Number n) (e : NumberError) → IsReadAs n text x → IsFault n text e → e ≡ Memory
no-fault n text x (Shape p) h (inl f) = absurd (f.0 (record { terms = h.terms; are_terms = h.are_terms; spells = h.spells }))
no-fault n text x (Shape p) h (inr f) = absurd (not-unordered f.0.terms p (subst AreIncreasing (same-terms n text x h f.0) h.increasing) f.1)
no-fault n text x (Zero p) h f = absurd (not-each (λ t. ¬ (HasZero t)) f.2.before f.2.term f.2.after f.0.terms f.2.parts
    (subst (All (λ t. ¬ (HasZero t))) (same-terms n text x h f.0) h.not_zero) f.2.zero)
no-fault n text x (Range p) h (inl f) = absurd (not-beyond n _ f.3.term p f.3.beyond
    (not-each (IsWithin n) f.3.before f.3.term f.3.after f.0.terms f.3.parts (subst (All (IsWithin n)) (same-terms n text x h f.0) h.within)))
no-fault n text x (Range p) h (inr f) = absurd (f.4 (subst AreSmall (same-terms n text x h f.0) h.small))
no-fault n text x Memory h f = refl
