-- What stands at the front of a term, and what is read of it.
--   minus_front, plus_front      the sign
--   no_size, some_size        the number before a letter, or of a constant
--   letter_front              the letter of a letter's byte
--   lettered_term, other_term     a term that has a letter behind its number, and one that has none
use Rattle.std.proofs.Common.{◌≡◌, ◌≢◌, refl, sym, ◌∙◌, ap, ap₂, subst, ℕ, Bool, true, false, List, [], ◌∷◌, ◌++◌, append_assoc, Option, None, Some, arith}
use Rattle.std.specs.Prelude.{if◌then◌else◌}
use Rattle.std.specs.Str.Parse.{IsNumeral}
use Rattle.irr_token.specs.declared.kind.Kind.TheVariants.{Digit, Mark}
use Rattle.irr_token.specs.declared.read.Quotient.{Quotient}
use Rattle.irr_token.specs.Token.{PlacedNumber, Token}
use Rattle.irr_token.specs.Token.Token.{number, mark}
use Rattle.irr_token.specs.Spelling.{AreSpelled}
use Rattle.irr_token.specs.Quotient.{WrittenQuotient, is_negative, sign_tokens, over_tokens, quotient_tokens}
use Rattle.irr_token.specs.Reading.{IsReadAs, IsBehindNumber, IsBehindQuotient, BeginsWith}
use Rattle.irr_token.proofs.Lexing.{digit_kind}
use Rattle.irr_token.proofs.Signs.{front_mark, front_number, IsBehindMark}
use Rattle.irr_triplet.specs.declared.term.Letter.{Letter}
use Rattle.irr_triplet.specs.declared.term.Letter.TheVariants.{X, Y, Z}
use Rattle.irr_triplet.specs.Letters.{letter_byte}
use Rattle.irr_triplet.specs.WrittenTriplet.{Body, Term, upper_byte, coefficient_tokens, body_tokens}
use Rattle.irr_triplet.specs.WrittenTriplet.Body.{lettered, constant}
use Rattle.irr_triplet.specs.WrittenTerms.{constant_term, plain, letter_of, front_letter, BeginsWithDigit, IsUnsigned, IsBehindTerm}

-- the byte of a letter in either case
abbrev pub case_byte : Bool → Letter → ℕ
case_byte upper l = if upper then upper_byte l else letter_byte l

at_number : (at : ℕ) (n : PlacedNumber) (ts : List Token) (text : List ℕ) → AreSpelled at (number n ∷ ts) text → BeginsWithDigit text
at_number at n ts text sp = subst BeginsWithDigit (sym sp.2.joins) (of_digits n.digits sp.0)
  where
    of_digits : (ds : List ℕ) → IsNumeral 10 ds → BeginsWithDigit (ds ++ (sp.2.blanks ++ sp.2.rest))
    of_digits [] is = absurd (omega (arith, is.0))
    of_digits (d ∷ ds) is = digit_kind d is.1.0

-- the sign

pub minus_front : (place : ℕ) (text : List ℕ) (to : ℕ) (left : List ℕ) (s : Option Bool) (ts : List Token) → BeginsWith 45 text → IsBehindMark place text to left → IsUnsigned ts
    → AreSpelled place (sign_tokens s ++ ts) text → (true ≡ is_negative s) × AreSpelled to ts left
minus_front place text to left None [] at f un sp = absurd (subst (BeginsWith 45) sp at)
minus_front place text to left None (number n ∷ ts) at f un sp = absurd (let e : Mark ≡ Digit = front_number place n 45 ts text sp at in cc)
minus_front place text to left None (mark c ∷ ts) at f un sp = absurd (un.1 (front_mark place c 45 ts text sp at))
minus_front place text to left (Some true) ts at f un sp = (refl, f 45 ts sp)
minus_front place text to left (Some false) ts at f un sp = absurd (let e : 43 ≡ 45 = front_mark place 43 45 ts text sp at in omega (arith, e))

pub plus_front : (place : ℕ) (text : List ℕ) (to : ℕ) (left : List ℕ) (s : Option Bool) (ts : List Token) → BeginsWith 43 text → IsBehindMark place text to left → IsUnsigned ts
    → AreSpelled place (sign_tokens s ++ ts) text → (false ≡ is_negative s) × AreSpelled to ts left
plus_front place text to left None [] at f un sp = absurd (subst (BeginsWith 43) sp at)
plus_front place text to left None (number n ∷ ts) at f un sp = absurd (let e : Mark ≡ Digit = front_number place n 43 ts text sp at in cc)
plus_front place text to left None (mark c ∷ ts) at f un sp = absurd (un.0 (front_mark place c 43 ts text sp at))
plus_front place text to left (Some true) ts at f un sp = absurd (let e : 45 ≡ 43 = front_mark place 45 43 ts text sp at in omega (arith, e))
plus_front place text to left (Some false) ts at f un sp = (refl, f 43 ts sp)

-- the number

pub no_size : (place : ℕ) (text : List ℕ) (n : Option PlacedNumber) (ts : List Token) → ¬ (BeginsWithDigit text) → AreSpelled place (coefficient_tokens n ++ ts) text
    → ◌≡◌ {A = Option PlacedNumber} None n × AreSpelled place ts text
no_size place text None ts none sp = (refl, sp)
no_size place text (Some n) ts none sp = absurd (none (at_number place n ts text sp))

pub some_size : (place : ℕ) (text : List ℕ) (to : ℕ) (left : List ℕ) (m : PlacedNumber) (n : Option PlacedNumber) (ts : List Token) → BeginsWithDigit text → IsBehindNumber ts
    → ((k : PlacedNumber) (us : List Token) → IsBehindNumber us → AreSpelled place (number k ∷ us) text → (m ≡ k) × AreSpelled to us left)
    → AreSpelled place (coefficient_tokens n ++ ts) text → (Some m ≡ n) × AreSpelled to ts left
some_size place text to left m None [] at is f sp = absurd (subst BeginsWithDigit sp at)
some_size place text to left m None (number k ∷ ts) at is f sp = absurd is
some_size place text to left m None (mark c ∷ ts) at is f sp = absurd (let e : Mark ≡ Digit = sym sp.0 ∙ subst BeginsWithDigit sp.1.joins at in cc)
some_size place text to left m (Some n) ts at is f sp = let r = f n ts is sp in (ap Some r.0, r.1)

-- the letter

mark_letter : (at c : ℕ) (ts : List Token) (text : List ℕ) → AreSpelled at (mark c ∷ ts) text → front_letter text ≡ letter_of c
mark_letter at c ts text sp = ap front_letter sp.1.joins

behind_letter : (at : ℕ) (ts : List Token) (text : List ℕ) → IsBehindTerm ts → AreSpelled at ts text → front_letter text ≡ None
behind_letter at [] text is sp = ap front_letter sp
behind_letter at (number n ∷ ts) text is sp = absurd is
behind_letter at (mark c ∷ ts) text is sp = mark_letter at c ts text sp ∙ is.1

over_letter : (at : ℕ) (d : Option PlacedNumber) (ts : List Token) (text : List ℕ) → IsBehindTerm ts → AreSpelled at (over_tokens d ++ ts) text → front_letter text ≡ None
over_letter at None ts text is sp = behind_letter at ts text is sp
over_letter at (Some d) ts text is sp = mark_letter at 47 (number d ∷ ts) text sp

letter_front : (upper : Bool) (l : Letter) → letter_of (case_byte upper l) ≡ Some l
letter_front true X = refl
letter_front true Y = refl
letter_front true Z = refl
letter_front false X = refl
letter_front false Y = refl
letter_front false Z = refl

letter_unsigned : (upper : Bool) (l : Letter) → (case_byte upper l ≢ 43) × (case_byte upper l ≢ 45)
letter_unsigned true X = (λ e. omega (arith, e), λ e. omega (arith, e))
letter_unsigned true Y = (λ e. omega (arith, e), λ e. omega (arith, e))
letter_unsigned true Z = (λ e. omega (arith, e), λ e. omega (arith, e))
letter_unsigned false X = (λ e. omega (arith, e), λ e. omega (arith, e))
letter_unsigned false Y = (λ e. omega (arith, e), λ e. omega (arith, e))
letter_unsigned false Z = (λ e. omega (arith, e), λ e. omega (arith, e))

body_unsigned : (b : Body) (ts : List Token) → IsUnsigned (body_tokens b ++ ts)
body_unsigned (lettered None upper l) ts = letter_unsigned upper l
body_unsigned (lettered (Some n) upper l) ts = tt
body_unsigned (constant n d) ts = tt

behind_term_number : (ts : List Token) → IsBehindTerm ts → IsBehindNumber ts
behind_term_number [] is = tt
behind_term_number (number n ∷ ts) is = is
behind_term_number (mark c ∷ ts) is = tt

over_number : (d : Option PlacedNumber) (ts : List Token) → IsBehindTerm ts → IsBehindNumber (over_tokens d ++ ts)
over_number None ts is = behind_term_number ts is
over_number (Some d) ts is = tt

behind_term_quotient : (ts : List Token) → IsBehindTerm ts → IsBehindQuotient ts
behind_term_quotient [] is = tt
behind_term_quotient (number n ∷ ts) is = is
behind_term_quotient (mark c ∷ ts) is = is.0

-- what the readings of a sign and of a number say
abbrev pub ReadsSign : ℕ → List ℕ → Bool → ℕ → List ℕ → Type 0
ReadsSign place text negative to left = (s : Option Bool) (ts : List Token) → IsUnsigned ts → AreSpelled place (sign_tokens s ++ ts) text → (negative ≡ is_negative s) × AreSpelled to ts left

abbrev pub ReadsSize : ℕ → List ℕ → Option PlacedNumber → ℕ → List ℕ → Type 0
ReadsSize place text size to left = (n : Option PlacedNumber) (ts : List Token) → IsBehindNumber ts → AreSpelled place (coefficient_tokens n ++ ts) text → (size ≡ n) × AreSpelled to ts left

abbrev pub ReadsQuotient : ℕ → List ℕ → Quotient → ℕ → List ℕ → Type 0
ReadsQuotient place text r to left = (q : WrittenQuotient) (ts : List Token) → IsBehindQuotient ts → AreSpelled place (quotient_tokens q ++ ts) text → IsReadAs r q × AreSpelled to ts left

module _ (place p q : ℕ) (text t u : List ℕ) (negative : Bool) (size : Option PlacedNumber) (f : ReadsSign place text negative p t) (g : ReadsSize p t size q u) where
  -- the letter behind its number
  at_letter : (s : Option Bool) (n : Option PlacedNumber) (upper : Bool) (l : Letter) (ts : List Token)
      → AreSpelled place (sign_tokens s ++ (body_tokens (lettered n upper l) ++ ts)) text → (negative ≡ is_negative s) × (size ≡ n) × AreSpelled q (mark (case_byte upper l) ∷ ts) u
  at_letter s n upper l ts sp =
      let one = f s (body_tokens (lettered n upper l) ++ ts) (body_unsigned (lettered n upper l) ts) sp in
      let two = g n (mark (case_byte upper l) ∷ ts) tt (subst (λ us. AreSpelled p us t) (append_assoc (coefficient_tokens n) (mark (case_byte upper l) ∷ []) ts) one.1) in
      (one.0, two.0, two.1)

  at_over : (s : Option Bool) (n : PlacedNumber) (d : Option PlacedNumber) (ts : List Token) → IsBehindTerm ts
      → AreSpelled place (sign_tokens s ++ (body_tokens (constant n d) ++ ts)) text → AreSpelled q (over_tokens d ++ ts) u
  at_over s n d ts is sp = (g (Some n) (over_tokens d ++ ts) (over_number d ts is) (f s (body_tokens (constant n d) ++ ts) tt sp).1).1

  pub lettered_term : (to : ℕ) (left : List ℕ) (letter : Letter) → front_letter u ≡ Some letter → IsBehindMark q u to left
      → (s : Option Bool) (b : Body) (ts : List Token) → IsBehindTerm ts → AreSpelled place (sign_tokens s ++ (body_tokens b ++ ts)) text
      → ◌≡◌ {A = Term} (record { negative = negative; body = lettered size false letter }) (plain (record { negative = is_negative s; body = b })) × AreSpelled to ts left
  lettered_term to left letter e h s (lettered n upper l) ts is sp =
      let at = at_letter s n upper l ts sp in
      let same : Some letter ≡ Some l = sym e ∙ mark_letter q (case_byte upper l) ts u at.2 ∙ letter_front upper l in
      let it : letter ≡ l = cc in (
        ap₂ (λ m (k : Option PlacedNumber). record { negative = m; body = lettered k false letter }) at.0 at.1 ∙ ap (λ m. record { negative = is_negative s; body = lettered n false m }) it,
        h (case_byte upper l) ts at.2,
      )
  lettered_term to left letter e h s (constant n d) ts is sp =
      let other : Some letter ≡ None = sym e ∙ over_letter q d ts u is (at_over s n d ts is sp) in absurd (cc)

  pub other_term : (to : ℕ) (left : List ℕ) (r : Quotient) → front_letter u ≡ None → ReadsQuotient place text r to left
      → (s : Option Bool) (b : Body) (ts : List Token) → IsBehindTerm ts → AreSpelled place (sign_tokens s ++ (body_tokens b ++ ts)) text
      → (constant_term r ≡ plain (record { negative = is_negative s; body = b })) × AreSpelled to ts left
  other_term to left r e h s (lettered n upper l) ts is sp =
      let at = at_letter s n upper l ts sp in
      let other : None ≡ Some l = sym e ∙ mark_letter q (case_byte upper l) ts u at.2 ∙ letter_front upper l in absurd (cc)
  other_term to left r e h s (constant n d) ts is sp =
      let all = h (record { sign = s; numerator = n; denominator = d }) ts (behind_term_quotient ts is)
      (subst (λ us. AreSpelled place us text) (sym (append_assoc (sign_tokens s) (number n ∷ over_tokens d) ts)) sp) in
      (ap₂ (λ m (b : Body). record { negative = m; body = b }) all.0.sign (ap₂ constant all.0.numerator all.0.denominator), all.1)
