-- No line of a report has a line feed or a carriage return in it, so the lines with their line feeds are a text of the report.
--   HasNoEnd text          no byte of the text ends a line
--   no_end-spelled         so it is with what spells tokens with visible marks
--   no_end-value, no_end-wave, no_end-triplet     the texts of numbers, wave vectors and operations
--   no_end-report          the lines of a report
--   lines-of-text          lines with no such byte, each with a line feed behind it, are the lines of that text
--   text-of-report         the text of a report's lines
use Rattle.std.proofs.Common.{◌≡◌, ◌≢◌, refl, sym, subst, ℕ, zero, suc, ◌<◌, ◌≤◌, ◌+◌, ◌^◌, List, [], ◌∷◌, ◌++◌, append_assoc, length, get_or, All, Bool, true, false, Option, None, Some, IfSome, inl, inr, arith}
use Rattle.std.specs.Prelude.{codes, replicate, nat_eq, not, ◌&&◌}
use Rattle.std.specs.List.{flat_map}
use Rattle.std.specs.Char.{digit_value}
use Rattle.std.specs.Fmt.{decimal}
use Rattle.std.specs.Str.Parse.{AllDigits}
use Rattle.std.proofs.lemmas.Fmt.{decimal_is_IsNumeral}
use Rattle.std.proofs.lemmas.List.Elements.{All-append}
use Rattle.irr_lines.specs.Lines.{AreLines}
use Rattle.irr_lines.specs.Lines.IsFirstLine.{ended}
use Rattle.irr_lines.specs.Lines.IsContent.{plain}
use Rattle.irr_lines.specs.Lines.AreLines.{none as no_lines, more as more_lines}
use Rattle.irr_text.specs.ReportText.{ReportContent, line, next_word}
use Rattle.irr_token.specs.declared.kind.Kind.TheVariants.{Blank, Mark}
use Rattle.irr_token.specs.Kinds.{kind_of, AreBlanks}
use Rattle.irr_token.specs.Token.{Token}
use Rattle.irr_token.specs.Token.Token.{number, mark}
use Rattle.irr_token.specs.Spelling.{AreSpelled}
use Rattle.irr_token.specs.Quotient.{WrittenQuotient, sign_tokens, over_tokens, quotient_tokens}
use Rattle.irr_kvec.specs.WrittenWave.{WrittenWave, wave_tokens}
use Rattle.irr_triplet.specs.WrittenTriplet.{triplet_tokens}
use Rattle.irr_triplet.proofs.VisibleMarks.{AreVisible, visible-append, visible-sign, visible-over, visible-triplet}
use Rattle.irr_triplet.specs.TripletFault.{IsTextOf}
use Rattle.irr_numeral.specs.WrittenNumber.{WrittenTerm, IsWhole, IsDenominator, IsTerm, AreLater, AreTerms, quotient_text, exponent_text, unsigned_text, first_sign, later_sign, spelled_later, spelled}
use Rattle.irr_numeral.proofs.Splits.{digits_of_whole, digits_of_denominator}
use Rattle.irr_report.specs.ReportLines.{WrittenRepresentation, WrittenReport, numbered_lines, triplet_line, entries_line, dimension_line, character_line, lines_of, representations_from, report_lines}
use Rattle.irr_report.specs.ReportGrammar.{IsWholeNumber, IsValueText, IsRepresentationForm, IsForm}
use Rattle.irr_report.specs.ReportFault.{IsWaveText, IsWave, IsTriplet, IsReport, IsReportText}
use Rattle.irr_report.proofs.ReadLimits.{read-limited}
use Rattle.irr_report.specs.LimitedReport.{IsLimitedReport}

-- Bytes.

abbrev IsClean : ℕ → Type 0
IsClean c = (c ≢ 10) × (c ≢ 13)

abbrev pub HasNoEnd : List ℕ → Type 0
HasNoEnd [] = Unit {0}
HasNoEnd (c ∷ cs) = IsClean c × HasNoEnd cs

abbrev is_clean : ℕ → Bool
is_clean c = not (nat_eq c 10) && not (nat_eq c 13)

abbrev are_clean : List ℕ → Bool
are_clean [] = true
are_clean (c ∷ cs) = is_clean c && are_clean cs

both-true : (a b : Bool) → (a && b) ≡ true → (a ≡ true) × (b ≡ true)
both-true true b e = (refl, e)
both-true false b e = absurd (cc)

clean : (c : ℕ) → is_clean c ≡ true → IsClean c
clean c h = (
  λ e. (let bad : false ≡ true = subst (λ n. is_clean n ≡ true) e h in cc),
  λ e. (let bad : false ≡ true = subst (λ n. is_clean n ≡ true) e h in cc),
)

-- a literal text
literal : (xs : List ℕ) → are_clean xs ≡ true → HasNoEnd xs
literal [] h = tt
literal (c ∷ cs) h = let r = both-true (is_clean c) (are_clean cs) h in (clean c r.0, literal cs r.1)

no_end-append : (xs ys : List ℕ) → HasNoEnd xs → HasNoEnd ys → HasNoEnd (xs ++ ys)
no_end-append [] ys h k = k
no_end-append (x ∷ xs) ys h k = (h.0, no_end-append xs ys h.1 k)

no_end-digits : (ds : List ℕ) → AllDigits 10 ds → HasNoEnd ds
no_end-digits [] h = tt
no_end-digits (d ∷ ds) h = (
  (
    λ e. (let bad : digit_value 10 < 10 = subst (λ c. digit_value c < 10) e h.0 in omega (arith, bad)),
    λ e. (let bad : digit_value 13 < 10 = subst (λ c. digit_value c < 10) e h.0 in omega (arith, bad)),
  ),
  no_end-digits ds h.1,
)

no_end-decimal : (n : ℕ) → n < 2 ^ 64 → HasNoEnd (decimal n)
no_end-decimal n h = no_end-digits (decimal n) (decimal_is_IsNumeral n h).0.1

no_end-word : (xs : List ℕ) → HasNoEnd xs → HasNoEnd (next_word xs)
no_end-word xs h = (clean 32 refl, h)

no_end-words : (texts : List (List ℕ)) → All HasNoEnd texts → HasNoEnd (flat_map next_word texts)
no_end-words [] h = tt
no_end-words (x ∷ xs) h = no_end-append (next_word x) (flat_map next_word xs) (no_end-word x (h 0 x (omega arith)))
    (no_end-words xs (λ k d lt. h (suc k) d (omega arith)))

-- Tokens.

no_end-blanks : (bs : List ℕ) → AreBlanks bs → HasNoEnd bs
no_end-blanks [] h = tt
no_end-blanks (b ∷ bs) h = (
  (
    λ e. (let bad : Mark ≡ Blank = subst (λ c. kind_of c ≡ Blank) e h.0 in cc),
    λ e. (let bad : Mark ≡ Blank = subst (λ c. kind_of c ≡ Blank) e h.0 in cc),
  ),
  no_end-blanks bs h.1,
)

above : {c : ℕ} → 32 < c → IsClean c
above h = (λ e. omega (arith, h, e), λ e. omega (arith, h, e))

no_end-spelled : (ts : List Token) (at : ℕ) (text : List ℕ) → AreVisible ts → AreSpelled at ts text → HasNoEnd text
no_end-spelled [] at text h s = subst HasNoEnd (sym s) tt
no_end-spelled (number n ∷ ts) at text h s = subst HasNoEnd (sym s.2.joins) (no_end-append n.digits (s.2.blanks ++ s.2.rest) (no_end-digits n.digits s.0.1)
    (no_end-append s.2.blanks s.2.rest (no_end-blanks s.2.blanks s.2.are_blanks)
    (no_end-spelled ts (at + length n.digits + length s.2.blanks) s.2.rest h s.2.is_rest)))
no_end-spelled (mark c ∷ ts) at text h s = subst HasNoEnd (sym s.1.joins) (no_end-append (c ∷ []) (s.1.blanks ++ s.1.rest) (above h.0, tt)
    (no_end-append s.1.blanks s.1.rest (no_end-blanks s.1.blanks s.1.are_blanks)
    (no_end-spelled ts (at + 1 + length s.1.blanks) s.1.rest h.1 s.1.is_rest)))

visible-quotient : (q : WrittenQuotient) → AreVisible (quotient_tokens q)
visible-quotient q = visible-append (sign_tokens q.sign) (number q.numerator ∷ over_tokens q.denominator) (visible-sign q.sign) (visible-over q.denominator)

visible-wave : (w : WrittenWave) → AreVisible (wave_tokens w)
visible-wave w =
    visible-append (quotient_tokens w.x) (mark 44 ∷ (quotient_tokens w.y ++ (mark 44 ∷ quotient_tokens w.z))) (visible-quotient w.x)
    (omega arith, visible-append (quotient_tokens w.y) (mark 44 ∷ quotient_tokens w.z) (visible-quotient w.y) (omega arith, visible-quotient w.z))

no_end-wave : (text : List ℕ) → IsWave text → HasNoEnd text
no_end-wave text h = no_end-spelled (wave_tokens h.1.wave) 0 text (visible-wave h.1.wave) h.1.spells.spelled

no_end-triplet : (text : List ℕ) → IsTriplet text → HasNoEnd text
no_end-triplet text h =
    let s = h.1.spells in
    subst HasNoEnd (sym s.joins) (no_end-append s.blanks s.rest (no_end-blanks s.blanks s.are_blanks)
    (no_end-spelled (triplet_tokens h.1.triplet) (length s.blanks) s.rest (visible-triplet h.1.triplet) s.spelled))

-- Numbers.

no_end-whole : (ds : List ℕ) → IsWhole ds → HasNoEnd ds
no_end-whole ds h = no_end-digits ds (digits_of_whole ds h)

no_end-whole_number : (ds : List ℕ) → IsWholeNumber ds → HasNoEnd ds
no_end-whole_number ds (inl e) = subst HasNoEnd (sym e) (literal (48 ∷ []) refl)
no_end-whole_number ds (inr h) = no_end-whole ds h

no_end-quotient : (o : Option (List ℕ)) → IfSome o IsDenominator → HasNoEnd (quotient_text o)
no_end-quotient None h = tt
no_end-quotient (Some ds) h = (clean 47 refl, no_end-digits ds (digits_of_denominator ds h))

no_end-exponent : (o : Option (List ℕ)) → IfSome o IsWhole → HasNoEnd (exponent_text o)
no_end-exponent None h = tt
no_end-exponent (Some ds) h = (clean 42 refl, (clean 122 refl, (clean 94 refl, no_end-whole ds h)))

no_end-term : (t : WrittenTerm) → IsTerm t → HasNoEnd (unsigned_text t)
no_end-term t h = no_end-append t.numerator (quotient_text t.denominator ++ exponent_text t.exponent) (no_end-whole t.numerator h.numerator)
    (no_end-append (quotient_text t.denominator) (exponent_text t.exponent) (no_end-quotient t.denominator h.denominator) (no_end-exponent t.exponent h.exponent))

no_end-later : (ts : List WrittenTerm) → AreLater ts → HasNoEnd (spelled_later ts)
no_end-later [] h = tt
no_end-later (t ∷ ts) h = (sign t.negative, no_end-append (unsigned_text t) (spelled_later ts) (no_end-term t h.0) (no_end-later ts h.2))
  where
    sign : (b : Bool) → IsClean (later_sign b)
    sign true = clean 45 refl
    sign false = clean 43 refl

no_end-first : (b : Bool) → HasNoEnd (first_sign b)
no_end-first true = (clean 45 refl, tt)
no_end-first false = tt

no_end-terms : (ts : List WrittenTerm) → AreTerms ts → HasNoEnd (spelled ts)
no_end-terms [] h = literal (48 ∷ []) refl
no_end-terms (t ∷ ts) h = no_end-append (first_sign t.negative) (unsigned_text t ++ spelled_later ts) (no_end-first t.negative)
    (no_end-append (unsigned_text t) (spelled_later ts) (no_end-term t h.0) (no_end-later ts h.1))

no_end-value : (text : List ℕ) → IsValueText text → HasNoEnd text
no_end-value text h = subst HasNoEnd h.number.spells (no_end-terms h.number.terms h.number.are_terms)

no_end-values : (texts : List (List ℕ)) → All IsValueText texts → HasNoEnd (flat_map next_word texts)
no_end-values texts h = no_end-words texts (λ k d lt. no_end-value (get_or texts k d) (h k d lt))

-- Lines.

all-none : All HasNoEnd []
all-none k d lt = absurd (omega arith)

all-more : (x : List ℕ) (xs : List (List ℕ)) → HasNoEnd x → All HasNoEnd xs → All HasNoEnd (x ∷ xs)
all-more x xs p h zero d lt = p
all-more x xs p h (suc k) d lt = h k d (omega arith)

no_end-numbered : {A : Type 0} (P : A → Type 0) (f : ℕ → A → List ℕ) (each : (j : ℕ) (x : A) → j < 2 ^ 64 → P x → HasNoEnd (f j x))
    (k : ℕ) (xs : List A) → All P xs → k + length xs < 2 ^ 64 → All HasNoEnd (numbered_lines f k xs)
unfolding numbered_lines
no_end-numbered P f each k [] h top = all-none
no_end-numbered P f each k (x ∷ xs) h top = all-more (f k x) (numbered_lines f (suc k) xs) (each k x (omega arith) (h 0 x (omega arith)))
    (no_end-numbered P f each (suc k) xs (λ j d lt. h (suc j) d (omega arith)) (omega arith))

no_end-triplet_line : (k : ℕ) (text : List ℕ) → k < 2 ^ 64 → IsTriplet text → HasNoEnd (triplet_line k text)
no_end-triplet_line k text top h = no_end-append (codes "op" ++ next_word (decimal k)) (next_word text)
    (no_end-append (codes "op") (next_word (decimal k)) (literal (codes "op") refl) (no_end-word (decimal k) (no_end-decimal k top)))
    (no_end-word text (no_end-triplet text h))

no_end-entries_line : (k : ℕ) (texts : List (List ℕ)) → k < 2 ^ 64 → All IsValueText texts → HasNoEnd (entries_line k texts)
no_end-entries_line k texts top h = no_end-append (codes "mat" ++ next_word (decimal k)) (flat_map next_word texts)
    (no_end-append (codes "mat") (next_word (decimal k)) (literal (codes "mat") refl) (no_end-word (decimal k) (no_end-decimal k top)))
    (no_end-values texts h)

no_end-dimension_line : (k : ℕ) (digits : List ℕ) → k < 2 ^ 64 → IsWhole digits → HasNoEnd (dimension_line k digits)
no_end-dimension_line k digits top h = no_end-append (codes "rep" ++ next_word (83 ∷ decimal k) ++ next_word (codes "dim")) (next_word digits)
    (no_end-append (codes "rep" ++ next_word (83 ∷ decimal k)) (next_word (codes "dim"))
    (no_end-append (codes "rep") (next_word (83 ∷ decimal k)) (literal (codes "rep") refl)
    (no_end-word (83 ∷ decimal k) (clean 83 refl, no_end-decimal k top))) (literal (next_word (codes "dim")) refl))
    (no_end-word digits (no_end-whole digits h))

no_end-lines_of : (h k : ℕ) (t : WrittenRepresentation) → h < 2 ^ 32 → k < 2 ^ 64 → IsRepresentationForm h t → All HasNoEnd (lines_of k t)
no_end-lines_of h k t few top f =
    all-more (dimension_line k t.dimension) (character_line t.characters ∷ numbered_lines entries_line 1 t.matrices)
    (no_end-dimension_line k t.dimension top f.dimension)
    (all-more (character_line t.characters) (numbered_lines entries_line 1 t.matrices)
    (no_end-append (codes "char") (flat_map next_word t.characters) (literal (codes "char") refl) (no_end-values t.characters f.characters))
    (no_end-numbered (All IsValueText) entries_line no_end-entries_line 1 t.matrices f.entries (let n = f.matrix_count in omega arith)))

no_end-representations : (h k : ℕ) (ts : List WrittenRepresentation) → h < 2 ^ 32 → k + length ts < 2 ^ 64 → All (IsRepresentationForm h) ts
    → All HasNoEnd (representations_from k ts)
unfolding representations_from
no_end-representations h k [] few top f = all-none
no_end-representations h k (t ∷ ts) few top f = All-append HasNoEnd (lines_of k t) (representations_from (suc k) ts)
    (no_end-lines_of h k t few (omega arith) (f 0 t (omega arith)))
    (no_end-representations h (suc k) ts few (omega arith) (λ j d lt. f (suc j) d (omega arith)))

no_end-report : (w : WrittenReport) → IsForm IsWave IsTriplet w → length w.triplets ≤ 48 → length w.representations ≤ 48 → All HasNoEnd (report_lines w)
no_end-report w f places count =
    all-more (codes "report 1") from_wave (literal (codes "report 1") refl)
    (all-more (codes "wave" ++ next_word w.wave) from_order
    (no_end-append (codes "wave") (next_word w.wave) (literal (codes "wave") refl) (no_end-word w.wave (no_end-wave w.wave f.wave)))
    (all-more (codes "order" ++ next_word w.order) from_places
    (no_end-append (codes "order") (next_word w.order) (literal (codes "order") refl) (no_end-word w.order (no_end-whole w.order f.order)))
    (all-more (codes "ops" ++ next_word w.places) (numbered_lines triplet_line 1 w.triplets ++ from_count)
    (no_end-append (codes "ops") (next_word w.places) (literal (codes "ops") refl) (no_end-word w.places (no_end-whole w.places f.places)))
    (All-append HasNoEnd (numbered_lines triplet_line 1 w.triplets) from_count
    (no_end-numbered IsTriplet triplet_line no_end-triplet_line 1 w.triplets f.triplets (omega arith))
    (all-more (codes "reps" ++ next_word w.count) (representations_from 1 w.representations ++ codes "end" ∷ [])
    (no_end-append (codes "reps") (next_word w.count) (literal (codes "reps") refl) (no_end-word w.count (no_end-whole_number w.count f.count)))
    (All-append HasNoEnd (representations_from 1 w.representations) (codes "end" ∷ [])
    (no_end-representations (length w.triplets) 1 w.representations (omega arith) (omega arith) f.representations)
    (all-more (codes "end") [] (literal (codes "end") refl) all-none)))))))
  where
    from_count : List (List ℕ)
    from_count = (codes "reps" ++ next_word w.count) ∷ (representations_from 1 w.representations ++ codes "end" ∷ [])

    from_places : List (List ℕ)
    from_places = (codes "ops" ++ next_word w.places) ∷ (numbered_lines triplet_line 1 w.triplets ++ from_count)

    from_order : List (List ℕ)
    from_order = (codes "order" ++ next_word w.order) ∷ from_places

    from_wave : List (List ℕ)
    from_wave = (codes "wave" ++ next_word w.wave) ∷ from_order

no_end-empty : (n : ℕ) → All HasNoEnd (replicate n [])
no_end-empty zero = all-none
no_end-empty (suc n) = all-more [] (replicate n []) tt (no_end-empty n)

-- Texts.

tails : (a b : ℕ) (s t : List ℕ) → a ∷ s ≡ b ∷ t → s ≡ t
tails a b s t e = cc

heads : (a b : ℕ) (s t : List ℕ) → a ∷ s ≡ b ∷ t → a ≡ b
heads a b s t e = cc

lacks-feed : (l : List ℕ) → HasNoEnd l → All (λ b. b ≢ 10) l
lacks-feed [] h k d lt = absurd (omega arith)
lacks-feed (c ∷ cs) h zero d lt = h.0.0
lacks-feed (c ∷ cs) h (suc k) d lt = lacks-feed cs h.1 k d (omega arith)

lacks-return : (l : List ℕ) → HasNoEnd l → (front : List ℕ) → l ≢ front ++ 13 ∷ []
lacks-return [] h [] e = cc
lacks-return [] h (y ∷ front) e = cc
lacks-return (c ∷ cs) h [] e = h.0.1 (heads c 13 cs [] e)
lacks-return (c ∷ cs) h (y ∷ front) e = lacks-return cs h.1 front (tails c y cs (front ++ 13 ∷ []) e)

pub lines-of-text : (lines : List (List ℕ)) → All HasNoEnd lines → AreLines (flat_map line lines) lines
lines-of-text [] h = no_lines
lines-of-text (l ∷ lines) h =
    let here : HasNoEnd l = h 0 l (omega arith) in
    more_lines (ended l (append_assoc l (10 ∷ []) (flat_map line lines)) (lacks-feed l here) (plain refl (lacks-return l here)))
    (lines-of-text lines (λ k d lt. h (suc k) d (omega arith)))

pub text-of-report : (lines : List (List ℕ)) (r : ReportContent) → IsReport lines r → IsReportText (flat_map line lines) r
text-of-report lines r h = record { lines = lines; are_lines = lines-of-text lines clean_lines; report = h }
  where
    limits : IsLimitedReport r
    limits = read-limited IsWaveText IsTextOf lines r h

    clean_lines : All HasNoEnd lines
    clean_lines = subst (All HasNoEnd) (sym h.are) (All-append HasNoEnd (report_lines h.written) (replicate h.empty [])
        (no_end-report h.written h.form (omega (arith, limits.few_places, h.places)) (omega (arith, limits.few_representations, h.count)))
        (no_end-empty h.empty))
