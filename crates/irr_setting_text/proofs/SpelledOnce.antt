-- A line has one meaning.
--   spelling_once       a line spells one list of fractions
--   text_once           a line writes one list of values over their least common denominator
--   fault_once          it has one fault at most
--   text_or_fault       and never both
use Rattle.std.proofs.Common.{◌≡◌, refl, sym, ◌∙◌, ap, ap₂, subst, ℕ, ◌+◌, List, [], ◌∷◌, ◌++◌, length, append-nil, ℤ, inl, inr, ◌⊎◌}
use Rattle.irr_algebra.specs.Fin.{Fin, to_nat}
use Rattle.irr_rational.proofs.LowestTerms.{are_lowest_unique}
use Rattle.irr_grammar.proofs.ShapePlaces.{place_unique}
use Rattle.irr_token.specs.Kinds.{AreBlanks}
use Rattle.irr_token.specs.Spelling.{AreSpelled, NumbersApart}
use Rattle.irr_token.specs.Quotient.{WrittenQuotient, quotient_tokens}
use Rattle.irr_token.specs.Fault.{AreWithin, IsFirstBeyond}
use Rattle.irr_token.proofs.Blanks.{blanks_unique}
use Rattle.irr_token.proofs.SpelledOnce.{spelled_once, quotient_once, apart_quotient}
use Rattle.irr_token.proofs.OneFault.{zero-unique, zero-none, beyond-unique, beyond-none}
use Rattle.irr_setting_text.specs.declared.read.SettingError.{SettingError}
use Rattle.irr_setting_text.specs.declared.read.SettingError.TheVariants.{Shape, Zero, Range}
use Rattle.irr_setting_text.specs.WrittenLine.{HasNoBlank, AreWritten, IsSpelling, IsLine}
use Rattle.irr_setting_text.specs.LineFront.{IsWord}
use Rattle.irr_setting_text.specs.SettingFault.{line_denominators, line_numbers, value_at, HasCommonDenominator, IsText, IsRangeFault, IsFault}
use Rattle.irr_setting_text.proofs.Fractions.{IsInBytes, quotient-bytes}
use Rattle.irr_setting_text.proofs.Runs.{run_once}
use Rattle.irr_setting_text.proofs.LineParts.{some_bytes, no_blank_front, at_blank, word_front}

whole_tokens : (q : WrittenQuotient) → NumbersApart (quotient_tokens q)
whole_tokens q = subst NumbersApart (append-nil (quotient_tokens q)) (apart_quotient q [] tt tt)

-- a run without blanks spells one fraction
fraction_once : (at : ℕ) (p q : WrittenQuotient) (run : List ℕ) → AreSpelled at (quotient_tokens p) run → AreSpelled at (quotient_tokens q) run → p ≡ q
fraction_once at p q run h g = (quotient_once p q [] [] tt tt (append-nil (quotient_tokens p)
    ∙ spelled_once at (quotient_tokens p) (quotient_tokens q) run (whole_tokens p) (whole_tokens q) h g ∙ sym (append-nil (quotient_tokens q)))).0

-- blanks and what follows begin with a blank where there are any
nothing_left : (at : ℕ) (q : WrittenQuotient) (qs : List WrittenQuotient) (text : List ℕ) → AreBlanks text → AreWritten at (q ∷ qs) text → ⊥
nothing_left at q qs text are h =
    let bytes : IsInBytes q h.run = quotient-bytes q (at + length h.blanks) h.run h.no_blank h.spelled in
    of_run h.run h.no_blank (λ e. some_bytes q (subst (IsInBytes q) e bytes)) (behind h.blanks (h.run ++ h.rest) (subst AreBlanks h.joins are))
  where
    behind : (bs rest : List ℕ) → AreBlanks (bs ++ rest) → AreBlanks rest
    behind [] rest f = f
    behind (b ∷ bs) rest f = behind bs rest f.1

    of_run : (run : List ℕ) → HasNoBlank run → (run ≡ [] → ⊥) → AreBlanks (run ++ h.rest) → ⊥
    of_run [] n f g = f refl
    of_run (c ∷ cs) n f g = n.0 g.0

written_once : (ps qs : List WrittenQuotient) (at : ℕ) (text : List ℕ) → AreWritten at ps text → AreWritten at qs text → ps ≡ qs
written_once [] [] at text h g = refl
written_once [] (q ∷ qs) at text h g = absurd (nothing_left at q qs text h g)
written_once (p ∷ ps) [] at text h g = absurd (nothing_left at p ps text g h)
written_once (p ∷ ps) (q ∷ qs) at text h g =
    let hb : IsInBytes p h.run = quotient-bytes p (at + length h.blanks) h.run h.no_blank h.spelled in
    let gb : IsInBytes q g.run = quotient-bytes q (at + length g.blanks) g.run g.no_blank g.spelled in
    let b = blanks_unique h.blanks g.blanks (h.run ++ h.rest) (g.run ++ g.rest) h.are_blanks g.are_blanks
    (no_blank_front h.run h.rest (λ e. some_bytes p (subst (IsInBytes p) e hb)) h.no_blank)
    (no_blank_front g.run g.rest (λ e. some_bytes q (subst (IsInBytes q) e gb)) g.no_blank) (sym h.joins ∙ g.joins) in
    let r = run_once h.run g.run h.rest g.rest h.no_blank g.no_blank (at_blank (at + length h.blanks + length h.run) ps h.rest h.is_rest)
    (at_blank (at + length g.blanks + length g.run) qs g.rest g.is_rest) b.1 in
    let other : AreSpelled (at + length h.blanks) (quotient_tokens q) h.run = subst (AreSpelled (at + length h.blanks) (quotient_tokens q)) (sym r.0)
    (subst (λ bs. AreSpelled (at + length bs) (quotient_tokens q) g.run) (sym b.0) g.spelled) in
    let rest : AreWritten (at + length h.blanks + length h.run) qs h.rest = subst (λ run. AreWritten (at + length h.blanks + length run) qs h.rest) (sym r.0)
    (subst (λ bs. AreWritten (at + length bs + length g.run) qs h.rest) (sym b.0) (subst (AreWritten (at + length g.blanks + length g.run) qs) (sym r.1) g.is_rest)) in
    ap₂ (λ x xs. x ∷ xs) (fraction_once (at + length h.blanks) p q h.run h.spelled other)
    (written_once ps qs (at + length h.blanks + length h.run) h.rest h.is_rest rest)

same_front : (xs s t : List ℕ) → xs ++ s ≡ xs ++ t → s ≡ t
same_front [] s t e = e
same_front (x ∷ xs) s t e = same_front xs s t (let f : xs ++ s ≡ xs ++ t = cc in f)

pub spelling_once : (word : List ℕ) (n : ℕ) (line : List ℕ) → IsWord word → (ps qs : List WrittenQuotient) → IsSpelling word n ps line → IsSpelling word n qs line → ps ≡ qs
spelling_once word n line f ps qs h g =
    let b = blanks_unique h.blanks g.blanks (word ++ h.behind) (word ++ g.behind) h.are_blanks g.are_blanks (word_front word h.behind f) (word_front word g.behind f)
    (sym h.joins ∙ g.joins) in
    let behind : h.behind ≡ g.behind = same_front word h.behind g.behind b.1 in
    written_once ps qs (length h.blanks + length word) h.behind h.are (subst (λ bs. AreWritten (length bs + length word) qs h.behind) (sym b.0)
    (subst (AreWritten (length g.blanks + length word) qs) (sym behind) g.are))

pub text_once : (word : List ℕ) (n m : ℕ) (line : List ℕ) → IsWord word → (num low : Fin n → ℤ) (den least : ℕ) → IsText word n m line num den → IsText word n m line low least
    → (den ≡ least) × ((i : Fin n) → num i ≡ low i)
text_once word n m line f num low den least a b =
    let same : a.quotients ≡ b.quotients = spelling_once word n line f a.quotients b.quotients a.spells b.spells in
    are_lowest_unique num low den least a.lowest b.lowest (λ i. a.values i ∙ ap (λ qs. value_at qs (to_nat i)) same ∙ sym (b.values i))

common_of : (word : List ℕ) (n m : ℕ) (line : List ℕ) (num : Fin n → ℤ) (den : ℕ) (a : IsText word n m line num den) → HasCommonDenominator m n a.quotients
common_of word n m line num den a = record { num = num; den = den; lowest = a.lowest; values = a.values; within = a.common }

range_place : (m n : ℕ) (qs : List WrittenQuotient) (l p q : ℕ) → IsRangeFault m n qs l p → IsRangeFault m n qs l q → p ≡ q
range_place m n qs l p q a b = of_cases a.1 b.1
  where
    Case : ℕ → Type 0
    Case r = IsFirstBeyond (line_numbers m qs) r ⊎ (AreWithin (line_numbers m qs) × ¬ (HasCommonDenominator m n qs) × (r ≡ l))

    of_cases : Case p → Case q → p ≡ q
    of_cases (inl x) (inl y) = beyond-unique (line_numbers m qs) p q x y
    of_cases (inl x) (inr y) = absurd (beyond-none (line_numbers m qs) p x y.0)
    of_cases (inr x) (inl y) = absurd (beyond-none (line_numbers m qs) q y x.0)
    of_cases (inr x) (inr y) = x.2 ∙ sym y.2

pub fault_once : (word : List ℕ) (n m : ℕ) (line : List ℕ) (e f : SettingError) → IsFault word n m line e → IsFault word n m line f → e ≡ f
fault_once word n m line (Shape p) (Shape q) a b = ap Shape (place_unique (IsLine word n) line p q a.1 b.1)
fault_once word n m line (Shape p) (Zero q) a b = absurd (a.0 b.0)
fault_once word n m line (Shape p) (Range q) a b = absurd (a.0 b.0)
fault_once word n m line (Zero p) (Shape q) a b = absurd (b.0 a.0)
fault_once word n m line (Zero p) (Zero q) a b = ap Zero (zero-unique (line_denominators a.0.quotients) p q (a.1 a.0.quotients a.0.spells) (b.1 a.0.quotients a.0.spells))
fault_once word n m line (Zero p) (Range q) a b = absurd (zero-none (line_denominators a.0.quotients) p (a.1 a.0.quotients a.0.spells) (b.1 a.0.quotients a.0.spells).0)
fault_once word n m line (Range p) (Shape q) a b = absurd (b.0 a.0)
fault_once word n m line (Range p) (Zero q) a b = absurd (zero-none (line_denominators a.0.quotients) q (b.1 a.0.quotients a.0.spells) (a.1 a.0.quotients a.0.spells).0)
fault_once word n m line (Range p) (Range q) a b = ap Range (range_place m n a.0.quotients (length line) p q (a.1 a.0.quotients a.0.spells) (b.1 a.0.quotients a.0.spells))

pub text_or_fault : (word : List ℕ) (n m : ℕ) (line : List ℕ) (num : Fin n → ℤ) (den : ℕ) (e : SettingError) → IsText word n m line num den → ¬ (IsFault word n m line e)
text_or_fault word n m line num den (Shape p) a f = f.0 (record { quotients = a.quotients; spells = a.spells })
text_or_fault word n m line num den (Zero p) a f = zero-none (line_denominators a.quotients) p (f.1 a.quotients a.spells) a.not_zero
text_or_fault word n m line num den (Range p) a f = of_case (f.1 a.quotients a.spells).1
  where
    of_case : IsFirstBeyond (line_numbers m a.quotients) p ⊎ (AreWithin (line_numbers m a.quotients) × ¬ (HasCommonDenominator m n a.quotients) × (p ≡ length line)) → ⊥
    of_case (inl x) = beyond-none (line_numbers m a.quotients) p x a.within
    of_case (inr x) = x.1 (common_of word n m line num den a)
