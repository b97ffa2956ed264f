-- The lines of a report, and how they are told apart.
--   HasNoBlank text        no byte of the text is a blank
--   cancelled              what stands behind one front
--   word-cancelled         a word behind one front
--   words-unique           a line's words that have no blanks are told
--   no_blank-value         the text of a number has none
--   values-unique          so a line's numbers are told
use Rattle.std.proofs.Common.{◌≡◌, ◌≢◌, refl, sym, ◌∙◌, ap₂, subst, ℕ, suc, ◌<◌, List, [], ◌∷◌, ◌++◌, All, Bool, true, false, Option, None, Some, IfSome, arith}
use Rattle.std.specs.List.{flat_map}
use Rattle.std.specs.Char.{digit_value}
use Rattle.std.specs.Str.Parse.{AllDigits}
use Rattle.irr_text.specs.ReportText.{next_word}
use Rattle.irr_numeral.specs.WrittenNumber.{WrittenTerm, IsWhole, IsDenominator, IsTerm, AreLater, AreTerms, quotient_text, exponent_text, unsigned_text, first_sign, later_sign, spelled_later, spelled}
use Rattle.irr_numeral.proofs.Splits.{digits_of_whole, digits_of_denominator}
use Rattle.irr_report.specs.ReportGrammar.{IsValueText}

abbrev pub HasNoBlank : List ℕ → Type 0
HasNoBlank [] = Unit {0}
HasNoBlank (c ∷ cs) = (c ≢ 32) × HasNoBlank cs

-- empty, or a blank first
abbrev pub IsBehindWord : List ℕ → Type 0
IsBehindWord [] = Unit {0}
IsBehindWord (c ∷ cs) = c ≡ 32

tails : (a b : ℕ) (s t : List ℕ) → a ∷ s ≡ b ∷ t → s ≡ t
tails a b s t e = cc

heads : (a b : ℕ) (s t : List ℕ) → a ∷ s ≡ b ∷ t → a ≡ b
heads a b s t e = cc

pub cancelled : (front s t : List ℕ) → front ++ s ≡ front ++ t → s ≡ t
cancelled [] s t e = e
cancelled (c ∷ front) s t e = cancelled front s t (tails c c (front ++ s) (front ++ t) e)

-- a word behind one front
pub word-cancelled : (front s t : List ℕ) → front ++ next_word s ≡ front ++ next_word t → s ≡ t
word-cancelled front s t e = tails 32 32 s t (cancelled front (next_word s) (next_word t) e)

pub word-unique : (x y s t : List ℕ) → HasNoBlank x → HasNoBlank y → IsBehindWord s → IsBehindWord t → x ++ s ≡ y ++ t → (x ≡ y) × (s ≡ t)
word-unique [] [] s t h k b d e = (refl, e)
word-unique [] (c ∷ y) [] t h k b d e = absurd (cc)
word-unique [] (c ∷ y) (a ∷ s) t h k b d e = absurd (k.0 (sym (heads a c s (y ++ t) e) ∙ b))
word-unique (c ∷ x) [] s [] h k b d e = absurd (cc)
word-unique (c ∷ x) [] s (a ∷ t) h k b d e = absurd (h.0 (heads c a (x ++ s) t e ∙ d))
word-unique (c ∷ x) (a ∷ y) s t h k b d e =
    let r = word-unique x y s t h.1 k.1 b d (tails c a (x ++ s) (y ++ t) e) in
    (ap₂ (λ p q. p ∷ q) (heads c a (x ++ s) (y ++ t) e) r.0, r.1)

behind_words : (xs : List (List ℕ)) → IsBehindWord (flat_map next_word xs)
behind_words [] = tt
behind_words (x ∷ xs) = refl

pub words-unique : (xs ys : List (List ℕ)) → All HasNoBlank xs → All HasNoBlank ys → flat_map next_word xs ≡ flat_map next_word ys → xs ≡ ys
words-unique [] [] h k e = refl
words-unique [] (y ∷ ys) h k e = absurd (cc)
words-unique (x ∷ xs) [] h k e = absurd (cc)
words-unique (x ∷ xs) (y ∷ ys) h k e =
    let r = word-unique x y (flat_map next_word xs) (flat_map next_word ys) (h 0 x (omega arith)) (k 0 y (omega arith)) (behind_words xs) (behind_words ys)
    (tails 32 32 (x ++ flat_map next_word xs) (y ++ flat_map next_word ys) e) in
    ap₂ (λ p q. p ∷ q) r.0 (words-unique xs ys (λ i d lt. h (suc i) d (omega arith)) (λ i d lt. k (suc i) d (omega arith)) r.1)

-- no number's text has a blank

no_blank-append : (xs ys : List ℕ) → HasNoBlank xs → HasNoBlank ys → HasNoBlank (xs ++ ys)
no_blank-append [] ys h k = k
no_blank-append (x ∷ xs) ys h k = (h.0, no_blank-append xs ys h.1 k)

no_blank-digits : (ds : List ℕ) → AllDigits 10 ds → HasNoBlank ds
no_blank-digits [] h = tt
no_blank-digits (d ∷ ds) h = (λ e. (let bad : digit_value 32 < 10 = subst (λ c. digit_value c < 10) e h.0 in omega (arith, bad)), no_blank-digits ds h.1)

no_blank-quotient : (o : Option (List ℕ)) → IfSome o IsDenominator → HasNoBlank (quotient_text o)
no_blank-quotient None h = tt
no_blank-quotient (Some ds) h = (λ e. omega (arith, e), no_blank-digits ds (digits_of_denominator ds h))

no_blank-exponent : (o : Option (List ℕ)) → IfSome o IsWhole → HasNoBlank (exponent_text o)
no_blank-exponent None h = tt
no_blank-exponent (Some ds) h = (λ e. omega (arith, e), (λ e. omega (arith, e), (λ e. omega (arith, e), no_blank-digits ds (digits_of_whole ds h))))

no_blank-term : (t : WrittenTerm) → IsTerm t → HasNoBlank (unsigned_text t)
no_blank-term t h = no_blank-append t.numerator (quotient_text t.denominator ++ exponent_text t.exponent) (no_blank-digits t.numerator (digits_of_whole t.numerator h.numerator))
    (no_blank-append (quotient_text t.denominator) (exponent_text t.exponent) (no_blank-quotient t.denominator h.denominator) (no_blank-exponent t.exponent h.exponent))

no_blank-later : (ts : List WrittenTerm) → AreLater ts → HasNoBlank (spelled_later ts)
no_blank-later [] h = tt
no_blank-later (t ∷ ts) h = (sign t.negative, no_blank-append (unsigned_text t) (spelled_later ts) (no_blank-term t h.0) (no_blank-later ts h.2))
  where
    sign : (b : Bool) → later_sign b ≢ 32
    sign true e = omega (arith, e)
    sign false e = omega (arith, e)

no_blank-first : (b : Bool) → HasNoBlank (first_sign b)
no_blank-first true = (λ e. omega (arith, e), tt)
no_blank-first false = tt

no_blank-spelled : (ts : List WrittenTerm) → AreTerms ts → HasNoBlank (spelled ts)
no_blank-spelled [] h = (λ e. omega (arith, e), tt)
no_blank-spelled (t ∷ ts) h = no_blank-append (first_sign t.negative) (unsigned_text t ++ spelled_later ts) (no_blank-first t.negative)
    (no_blank-append (unsigned_text t) (spelled_later ts) (no_blank-term t h.0) (no_blank-later ts h.1))

pub no_blank-value : (text : List ℕ) → IsValueText text → HasNoBlank text
no_blank-value text h = subst HasNoBlank h.number.spells (no_blank-spelled h.number.terms h.number.are_terms)

pub values-unique : (xs ys : List (List ℕ)) → All IsValueText xs → All IsValueText ys → flat_map next_word xs ≡ flat_map next_word ys → xs ≡ ys
values-unique xs ys h k e = words-unique xs ys (λ i d lt. no_blank-value _ (h i d lt)) (λ i d lt. no_blank-value _ (k i d lt)) e
