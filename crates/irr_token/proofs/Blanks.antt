-- Runs of blanks.
--   blanks_more       one blank more
--   no_blank_at       where the byte at i is no blank, the rest from i on begins with none
--   blanks_unique     a text parts in one way into blanks and a rest that begins with none
--   behind_parts      what stands behind a front and the blanks behind it
use Rattle.std.proofs.Common.{◌≡◌, refl, sym, ◌∙◌, ap, subst, ℕ, zero, suc, ◌<◌, ◌≤◌, ◌+◌, List, [], ◌∷◌, ◌++◌, length, get_or, take, drop, arith, add-one}
use Rattle.std.proofs.Math.Seq.{take-suc, drop-append_seam}
use Rattle.std.proofs.lemmas.List.{take-append-drop, length-take-le}
use Rattle.std.specs.Str.Parse.{AllDigits, IsNumeral}
use Rattle.irr_digits.specs.DigitRun.{BeginsWithDigit}
use Rattle.irr_digits.proofs.Numerals.{run_unique}
use Rattle.irr_token.specs.declared.kind.Kind.TheVariants.{Blank, Digit, Mark}
use Rattle.irr_token.specs.Token.{PlacedNumber, Token}
use Rattle.irr_token.specs.Token.Token.{number, mark}
use Rattle.irr_token.specs.Spelling.{IsBehind, AreSpelled}
use Rattle.irr_token.proofs.Lexing.{digit_kind}
use Rattle.irr_token.specs.Kinds.{AreBlanks}
use Rattle.irr_token.specs.Reading.{BeginsWithBlank, IsBehindNumber}

blanks-append : (bs cs : List ℕ) → AreBlanks bs → AreBlanks cs → AreBlanks (bs ++ cs)
blanks-append [] cs h g = g
blanks-append (b ∷ bs) cs h g = (h.0, blanks-append bs cs h.1 g)

pub blanks_more : (cs : List ℕ) (i : ℕ) → i < length cs → AreBlanks (take i cs) → AreBlanks (get_or cs i 0 ∷ []) → AreBlanks (take (i + 1) cs)
blanks_more cs i lt are is = rw add-one (subst AreBlanks (sym (take-suc cs i 0 lt)) (blanks-append (take i cs) (get_or cs i 0 ∷ []) are is))

pub no_blank_at : (cs : List ℕ) (i : ℕ) → ¬ (AreBlanks (get_or cs i 0 ∷ [])) → ¬ (BeginsWithBlank (drop i cs))
no_blank_at [] zero n b = b
no_blank_at [] (suc i) n b = b
no_blank_at (c ∷ cs) zero n b = n (b, tt)
no_blank_at (c ∷ cs) (suc i) n b = no_blank_at cs i n b

pub no_blank_end : (cs : List ℕ) (i : ℕ) → length cs ≤ i → ¬ (BeginsWithBlank (drop i cs))
no_blank_end [] zero h b = b
no_blank_end [] (suc i) h b = b
no_blank_end (c ∷ cs) zero h b = absurd (omega arith)
no_blank_end (c ∷ cs) (suc i) h b = no_blank_end cs i (omega arith) b

pub blanks_unique : (bs cs s t : List ℕ) → AreBlanks bs → AreBlanks cs → ¬ (BeginsWithBlank s) → ¬ (BeginsWithBlank t) → bs ++ s ≡ cs ++ t → (bs ≡ cs) × (s ≡ t)
blanks_unique [] [] s t p q f g e = (refl, e)
blanks_unique [] (c ∷ cs) s t p q f g e = absurd (f (subst BeginsWithBlank (sym e) q.0))
blanks_unique (b ∷ bs) [] s t p q f g e = absurd (g (subst BeginsWithBlank e p.0))
blanks_unique (b ∷ bs) (c ∷ cs) s t p q f g e =
    let rest : bs ++ s ≡ cs ++ t = cc in
    let both : (bs ≡ cs) × (s ≡ t) = blanks_unique bs cs s t p.1 q.1 f g rest in
    let front : b ≡ c = cc in
    let whole : bs ≡ cs = both.0 in
    (cc, both.1)

pub behind_parts : (text middle left : List ℕ) (count run : ℕ) (front blanks tail : List ℕ) → middle ≡ drop count text → left ≡ drop run middle → AreBlanks (take run middle)
    → ¬ (BeginsWithBlank (drop run middle)) → run ≤ length middle → length front ≡ count → AreBlanks blanks → ¬ (BeginsWithBlank tail) → text ≡ front ++ (blanks ++ tail)
    → (left ≡ tail) × (run ≡ length blanks)
behind_parts text middle left count run front blanks tail em el are stop le e is no_tail f =
    let back : middle ≡ blanks ++ tail = em ∙ ap (λ n. drop n text) (sym e) ∙ ap (drop (length front)) f ∙ drop-append_seam front (blanks ++ tail) in
    let both = blanks_unique (take run middle) blanks (drop run middle) tail are is stop no_tail (take-append-drop run middle ∙ back) in
    (el ∙ both.1, sym (length-take-le run middle le) ∙ ap length both.0)

-- a spelling begins with no blank
pub no_blank-spelled : (at : ℕ) (ts : List Token) (text : List ℕ) → AreSpelled at ts text → ¬ (BeginsWithBlank text)
no_blank-spelled at [] text sp b = subst BeginsWithBlank sp b
no_blank-spelled at (number n ∷ ts) text sp b = of_digits n.digits sp.0 (subst BeginsWithBlank sp.2.joins b)
  where
    of_digits : (ds : List ℕ) → IsNumeral 10 ds → ¬ (BeginsWithBlank (ds ++ (sp.2.blanks ++ sp.2.rest)))
    of_digits [] is g = omega (arith, is.0)
    of_digits (d ∷ ds) is g = let e : Digit ≡ Blank = sym (digit_kind d is.1.0) ∙ g in cc
no_blank-spelled at (mark c ∷ ts) text sp b = let e : Mark ≡ Blank = sym sp.0 ∙ subst BeginsWithBlank sp.1.joins b in cc

-- nor does it begin with a digit behind a number
no_digit-spelled : (at : ℕ) (ts : List Token) (text : List ℕ) → IsBehindNumber ts → AreSpelled at ts text → ¬ (BeginsWithDigit text)
no_digit-spelled at [] text is sp b = subst BeginsWithDigit sp b
no_digit-spelled at (number n ∷ ts) text is sp b = is
no_digit-spelled at (mark c ∷ ts) text is sp b = let e : Mark ≡ Digit = sym sp.0 ∙ digit_kind c (subst BeginsWithDigit sp.1.joins b) in cc

pub no_digit-behind : (at : ℕ) (ts : List Token) (blanks rest : List ℕ) → IsBehindNumber ts → AreBlanks blanks → AreSpelled at ts rest → ¬ (BeginsWithDigit (blanks ++ rest))
no_digit-behind at ts [] rest is are sp b = no_digit-spelled at ts rest is sp b
no_digit-behind at ts (c ∷ cs) rest is are sp b = let e : Blank ≡ Digit = sym are.0 ∙ digit_kind c b in cc

-- what a step behind a front and its blanks is
abbrev pub IsStep : ℕ → List ℕ → ℕ → ℕ → List ℕ → Type 0
IsStep place text count to left = (front blanks tail : List ℕ) → length front ≡ count → AreBlanks blanks → ¬ (BeginsWithBlank tail) → text ≡ front ++ (blanks ++ tail)
    → (left ≡ tail) × (to ≡ place + length front + length blanks)

pub step_of : (place : ℕ) (text : List ℕ) (to : ℕ) (left front : List ℕ) (ts : List Token) → IsStep place text (length front) to left
    → IsBehind front place (λ p rest. AreSpelled p ts rest) text → AreSpelled to ts left
step_of place text to left front ts step b = let s = step front b.blanks b.rest refl b.are_blanks (no_blank-spelled (place + length front + length b.blanks) ts b.rest b.is_rest) b.joins in
    subst (λ l. AreSpelled to ts l) (sym s.0) (subst (λ p. AreSpelled p ts b.rest) (sym s.1) b.is_rest)

-- and of a number
pub number_step : (place : ℕ) (text digits behind : List ℕ) (count to : ℕ) (left : List ℕ) (n : PlacedNumber) (ts : List Token) → digits ≡ take count text → behind ≡ drop count text
    → AllDigits 10 (take count text) → ¬ (BeginsWithDigit (drop count text)) → count ≤ length text → IsStep place text count to left → IsBehindNumber ts
    → AreSpelled place (number n ∷ ts) text → (digits ≡ n.digits) × AreSpelled to ts left
number_step place text digits behind count to left n ts ed eb all stop le step is sp =
    let b = sp.2 in
    let run = run_unique (take count text) n.digits (drop count text) (b.blanks ++ b.rest) all sp.0.1 stop (no_digit-behind (place + length n.digits + length b.blanks) ts b.blanks b.rest is b.are_blanks b.is_rest)
    (take-append-drop count text ∙ b.joins) in
    let long : count ≡ length n.digits = sym (length-take-le count text le) ∙ ap length run.0 in
    (ed ∙ run.0, step_of place text to left n.digits ts (subst (λ k. IsStep place text k to left) long step) b)
