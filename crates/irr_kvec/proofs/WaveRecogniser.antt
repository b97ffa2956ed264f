-- The texts of wave vectors are told from left to right.
--   wave_scanner        the fronts as states of the grammar of tokens
--   wave_recogniser     and of that of texts
--   after-next, ends-text     the program's functions are those of the recogniser
--   wave_recognises     it recognises the texts of wave vectors
use Rattle.std.proofs.Common.{◌≡◌, ◌≢◌, refl, sym, ◌∙◌, ap, subst, ℕ, suc, Bool, true, false, List, [], ◌∷◌, ◌++◌, length, append_assoc, append-nil, Option, None, Some, IfSome, IsTrue, if◌then◌else◌, nat_eq, ◌||◌, not, arith, ◌⊎◌, inl, inr}
use Rattle.std.proofs.lemmas.Bool.Decides.{nat_tests}
use Rattle.irr_grammar.proofs.Recognisers.{Recogniser, Ends, Recognises, state_after, ends-then, ends-step, ends-described}
use Rattle.irr_token.specs.declared.kind.Kind.{Kind}
use Rattle.irr_token.specs.declared.kind.Kind.TheVariants.{Blank, Digit, Mark}
use Rattle.irr_token.specs.Kinds.{kind_of}
use Rattle.irr_token.specs.Token.{PlacedNumber, Token, Symbol, symbol_of}
use Rattle.irr_token.specs.Token.Token.{number, mark}
use Rattle.irr_token.specs.Token.Symbol.{digits, byte}
use Rattle.std.specs.Option.{option_map}
use Rattle.irr_token.specs.Spelling.{AreSpelled, EndsInNoBlank}
use Rattle.irr_token.specs.Quotient.{WrittenQuotient, sign_byte, sign_tokens, over_tokens, quotient_tokens}
use Rattle.irr_token.proofs.Lexing.{Scanner, tokens_of, next_byte, ends_text, lexed, plain_tokens, IsScanner, IsTextOf, lexed_recognises}
use Rattle.irr_kvec.specs.declared.shape.Sort.{Sort}
use Rattle.irr_kvec.specs.declared.shape.Sort.TheVariants.{Number, Sign, Slash, Comma, Other}
use Rattle.irr_kvec.specs.declared.shape.Part.{Part}
use Rattle.irr_kvec.specs.declared.shape.Part.TheVariants.{First, Second, Third}
use Rattle.irr_kvec.specs.declared.shape.Front.{Front}
use Rattle.irr_kvec.specs.declared.shape.Front.TheVariants.{Start, Signed, Numerator, Over, Denominator}
use Rattle.irr_kvec.specs.WaveFront.{sort_of, behind_comma, next_front, rests_front, front_after, ends_wave, ends_front}
use Rattle.irr_kvec.specs.WrittenWave.{WrittenWave, wave_tokens, IsSpelling, IsWave}

abbrev pub symbol_sort : Symbol → Sort
symbol_sort digits = Number
symbol_sort (byte c) = sort_of c

abbrev pub wave_scanner : Scanner
wave_scanner = record { State = Front; start = Start First; next = λ f x. next_front f (symbol_sort x); ends = ends_wave; rests = rests_front }

abbrev pub wave_recogniser : Recogniser ℕ
wave_recogniser = lexed wave_scanner false

pub after-next : (f : Front) (last k : Kind) (c : ℕ) → next_byte wave_scanner f last k c ≡ front_after f last k c
after-next f last Blank c = refl
after-next f Digit Digit c = refl
after-next f Blank Digit c = refl
after-next f Mark Digit c = refl
after-next f last Mark c = refl

pub ends-text : (f : Front) (last : Kind) → ends_text wave_scanner false f last ≡ ends_front f last
ends-text f Blank = by_rest (rests_front f)
  where
    by_rest : (b : Bool) → (if b then false else true) ≡ not b
    by_rest true = refl
    by_rest false = refl
ends-text f Digit = refl
ends-text f Mark = refl

-- What a mark is.

by_test : {A : Type 0} (P : A → Type 0) (b : Bool) (x y : A) → (b ≡ true → P x) → (b ≡ false → P y) → P (if b then x else y)
by_test P true x y f g = f refl
by_test P false x y f g = g refl

abbrev IsOfSort : Sort → ℕ → Type 0
IsOfSort Sign c = (c ≡ 43) ⊎ (c ≡ 45)
IsOfSort Slash c = c ≡ 47
IsOfSort Comma c = c ≡ 44
IsOfSort Number c = ⊥
IsOfSort Other c = Unit {0}

either : (a b : Bool) → a || b ≡ true → (a ≡ true) ⊎ (b ≡ true)
either true b h = inl refl
either false b h = inr h

same : (c n : ℕ) → nat_eq c n ≡ true → c ≡ n
same c n h = grind (arith, nat_tests)

pub sort_is : (c : ℕ) → IsOfSort (sort_of c) c
sort_is c = let P : Sort → Type 0 = λ k. IsOfSort k c in
    by_test P (nat_eq c 43 || nat_eq c 45) Sign (if nat_eq c 47 then Slash else (if nat_eq c 44 then Comma else Other))
    (λ h. elim (either (nat_eq c 43) (nat_eq c 45) h) [ inl e ↦ inl (same c 43 e) | inr e ↦ inr (same c 45 e) ])
    (λ _. by_test P (nat_eq c 47) Slash (if nat_eq c 44 then Comma else Other) (same c 47) (λ _. by_test P (nat_eq c 44) Comma Other (same c 44) (λ _. tt)))

-- The components behind a part.

pub left : Part → ℕ
left First = 2
left Second = 1
left Third = 0

later_tokens : List WrittenQuotient → List Token
later_tokens [] = []
later_tokens (q ∷ qs) = mark 44 ∷ (quotient_tokens q ++ later_tokens qs)

record IsTail (p : Part) (ts : List Token) : Type 0 where
  pub quotients : List WrittenQuotient
  pub count : length quotients ≡ left p
  pub are : ts ≡ later_tokens quotients

record IsOver (p : Part) (ts : List Token) : Type 0 where
  pub denominator : Option PlacedNumber
  pub rest : List Token
  pub tail : IsTail p rest
  pub are : ts ≡ over_tokens denominator ++ rest

record IsUnsigned (p : Part) (ts : List Token) : Type 0 where
  pub numerator : PlacedNumber
  pub rest : List Token
  pub over : IsOver p rest
  pub are : ts ≡ number numerator ∷ rest

record IsWhole (p : Part) (ts : List Token) : Type 0 where
  pub sign : Option Bool
  pub rest : List Token
  pub unsigned : IsUnsigned p rest
  pub are : ts ≡ sign_tokens sign ++ rest

record IsDenominated (p : Part) (ts : List Token) : Type 0 where
  pub denominator : PlacedNumber
  pub rest : List Token
  pub tail : IsTail p rest
  pub are : ts ≡ number denominator ∷ rest

abbrev Follows : Front → List Token → Type 0
Follows (Start p) ts = IsWhole p ts
Follows (Signed p) ts = IsUnsigned p ts
Follows (Numerator p) ts = IsOver p ts
Follows (Over p) ts = IsDenominated p ts
Follows (Denominator p) ts = IsTail p ts

whole_quotient : (p : Part) (ts : List Token) → IsWhole p ts → (q : WrittenQuotient) × (rest : List Token) × IsTail p rest × (ts ≡ quotient_tokens q ++ rest)
whole_quotient p ts h = (
  record { sign = h.sign; numerator = h.unsigned.numerator; denominator = h.unsigned.over.denominator },
  h.unsigned.over.rest,
  h.unsigned.over.tail,
  h.are ∙ ap (λ l. sign_tokens h.sign ++ l) (h.unsigned.are ∙ ap (λ l. number h.unsigned.numerator ∷ l) h.unsigned.over.are)
      ∙ regroup (sign_tokens h.sign) (number h.unsigned.numerator) (over_tokens h.unsigned.over.denominator) h.unsigned.over.rest,
)
  where
    regroup : (a : List Token) (n : Token) (b c : List Token) → a ++ (n ∷ (b ++ c)) ≡ (a ++ (n ∷ b)) ++ c
    regroup a n b c = sym (append_assoc a (n ∷ b) c)

-- a comma and the next component
comma-more : (p : Part) (c : ℕ) (ts : List Token) → c ≡ 44 → IfSome (behind_comma p) (λ g. Follows g ts → IsTail p (mark c ∷ ts))
unfolding later_tokens left
comma-more First c ts e = λ h. let w = whole_quotient Second ts h in record { quotients = w.0 ∷ w.2.quotients; count = ap suc w.2.count; are = ap (λ d. mark d ∷ ts) e ∙ ap (λ l. mark 44 ∷ l) (w.3 ∙ ap (λ l. quotient_tokens w.0 ++ l) w.2.are) }
comma-more Second c ts e = λ h. let w = whole_quotient Third ts h in record { quotients = w.0 ∷ w.2.quotients; count = ap suc w.2.count; are = ap (λ d. mark d ∷ ts) e ∙ ap (λ l. mark 44 ∷ l) (w.3 ∙ ap (λ l. quotient_tokens w.0 ++ l) w.2.are) }
comma-more Third c ts e = tt

described : (o : Option Front) (ts : List Token) (A B : Type 0) → (A → B) → IfSome o (λ g. Follows g ts → A) → IfSome o (λ g. Follows g ts → B)
described None ts A B f h = tt
described (Some g) ts A B f h = λ l. f (h l)

over-none : (p : Part) (ts : List Token) → IsTail p ts → IsOver p ts
over-none p ts h = record { denominator = None; rest = ts; tail = h; are = refl }

sign-more : (p : Part) (c : ℕ) (ts : List Token) → (c ≡ 43) ⊎ (c ≡ 45) → IsUnsigned p ts → IsWhole p (mark c ∷ ts)
sign-more p c ts (inl e) h = record { sign = Some false; rest = ts; unsigned = h; are = ap (λ d. mark d ∷ ts) e }
sign-more p c ts (inr e) h = record { sign = Some true; rest = ts; unsigned = h; are = ap (λ d. mark d ∷ ts) e }

mark-more : (f : Front) (k : Sort) (c : ℕ) (ts : List Token) → IsOfSort k c → IfSome (next_front f k) (λ g. Follows g ts → Follows f (mark c ∷ ts))
mark-more f Number c ts h = absurd h
mark-more (Start p) Sign c ts h = sign-more p c ts h
mark-more (Numerator p) Slash c ts h = λ d. record { denominator = Some d.denominator; rest = d.rest; tail = d.tail; are = ap (λ e. mark e ∷ ts) h ∙ ap (λ l. mark 47 ∷ l) d.are }
mark-more (Numerator p) Comma c ts h = described (behind_comma p) ts (IsTail p (mark c ∷ ts)) (IsOver p (mark c ∷ ts)) (over-none p (mark c ∷ ts)) (comma-more p c ts h)
mark-more (Denominator p) Comma c ts h = comma-more p c ts h
mark-more (Start p) k c ts h = tt
mark-more (Signed p) k c ts h = tt
mark-more (Numerator p) k c ts h = tt
mark-more (Over p) k c ts h = tt
mark-more (Denominator p) k c ts h = tt

number-more : (f : Front) (n : PlacedNumber) (ts : List Token) → IfSome (next_front f Number) (λ g. Follows g ts → Follows f (number n ∷ ts))
number-more (Start p) n ts = λ h. record { sign = None; rest = number n ∷ ts; unsigned = record { numerator = n; rest = ts; over = h; are = refl }; are = refl }
number-more (Signed p) n ts = λ h. record { numerator = n; rest = ts; over = h; are = refl }
number-more (Over p) n ts = λ h. record { denominator = n; rest = ts; tail = h; are = refl }
number-more f n ts = tt

if_some-at : (o : Option Front) (P : Front → Type 0) (f : Front) → o ≡ Some f → IfSome o P → P f
if_some-at o P f e h = let Q : Option Front → Type 0 = λ u. IfSome u P in subst Q e h

token-more : (f g : Front) (t : Token) (ts : List Token) → (tokens_of wave_scanner).step f t ≡ Some g → Follows g ts → Follows f (t ∷ ts)
token-more f g (number n) ts e = if_some-at (next_front f Number) (λ u. Follows u ts → Follows f (number n ∷ ts)) g e (number-more f n ts)
token-more f g (mark c) ts e = if_some-at (next_front f (sort_of c)) (λ u. Follows u ts → Follows f (mark c ∷ ts)) g e (mark-more f (sort_of c) c ts (sort_is c))

token-end : (f : Front) → IsTrue (ends_wave f) → Follows f []
unfolding later_tokens left
token-end (Numerator Third) h = over-none Third [] (record { quotients = []; count = refl; are = refl })
token-end (Denominator Third) h = record { quotients = []; count = refl; are = refl }
token-end f h = absurd (cc)

record IsWaveTokens (ts : List Token) : Type 0 where
  pub wave : WrittenWave
  pub are : wave_tokens wave ≡ ts

tokens-only : (ts : List Token) → Ends (tokens_of wave_scanner) (Start First) ts → IsWaveTokens ts
unfolding left later_tokens
tokens-only ts h = let w = whole_quotient First ts (ends-described (tokens_of wave_scanner) Follows token-end token-more ts (Start First) h) in
    of_tail w.0 w.1 w.2.quotients w.2.count w.2.are w.3
  where
    of_tail : (q : WrittenQuotient) (rest : List Token) (qs : List WrittenQuotient) → length qs ≡ left First → rest ≡ later_tokens qs → ts ≡ quotient_tokens q ++ rest → IsWaveTokens ts
    of_tail q rest [] n e f = absurd (omega (arith, n))
    of_tail q rest (r ∷ []) n e f = absurd (omega (arith, n))
    of_tail q rest (r ∷ s ∷ []) n e f = record {
      wave = record { x = q; y = r; z = s };
      are = sym (f ∙ ap (λ l. quotient_tokens q ++ l) (e ∙ ap (λ l. mark 44 ∷ (quotient_tokens r ++ (mark 44 ∷ l))) (append-nil (quotient_tokens s))));
    }
    of_tail q rest (r ∷ s ∷ t ∷ qs) n e f = absurd (omega (arith, n))

-- a component leads from its start to what may follow it
quotient-ends : (p : Part) (q : WrittenQuotient) (ts : List Token) → Ends (tokens_of wave_scanner) (Numerator p) ts → Ends (tokens_of wave_scanner) (Denominator p) ts
    → Ends (tokens_of wave_scanner) (Start p) (quotient_tokens q ++ ts)
quotient-ends p q ts h g = signed q.sign
  where
    R : Recogniser Token
    R = tokens_of wave_scanner

    over : (d : Option PlacedNumber) → Ends (tokens_of wave_scanner) (Numerator p) (over_tokens d ++ ts)
    over None = h
    over (Some d) = ends-step (tokens_of wave_scanner) (mark 47) (number d ∷ ts) (Numerator p) (Over p) refl (ends-step (tokens_of wave_scanner) (number d) ts (Over p) (Denominator p) refl g)

    unsigned : (f : Front) → next_front f Number ≡ Some (Numerator p) → Ends (tokens_of wave_scanner) f (number q.numerator ∷ (over_tokens q.denominator ++ ts))
    unsigned f e = ends-step (tokens_of wave_scanner) (number q.numerator) (over_tokens q.denominator ++ ts) f (Numerator p) e (over q.denominator)

    signed : (s : Option Bool) → Ends (tokens_of wave_scanner) (Start p) ((sign_tokens s ++ (number q.numerator ∷ over_tokens q.denominator)) ++ ts)
    signed None = unsigned (Start p) refl
    signed (Some true) = ends-step (tokens_of wave_scanner) (mark 45) (number q.numerator ∷ (over_tokens q.denominator ++ ts)) (Start p) (Signed p) refl (unsigned (Signed p) refl)
    signed (Some false) = ends-step (tokens_of wave_scanner) (mark 43) (number q.numerator ∷ (over_tokens q.denominator ++ ts)) (Start p) (Signed p) refl (unsigned (Signed p) refl)

wave-ends : (w : WrittenWave) → Ends (tokens_of wave_scanner) (Start First) (wave_tokens w)
unfolding state_after
wave-ends w = quotient-ends First w.x (mark 44 ∷ (quotient_tokens w.y ++ (mark 44 ∷ quotient_tokens w.z))) (comma (Numerator First) (Start Second) _ refl second) (comma (Denominator First) (Start Second) _ refl second)
  where
    comma : (f g : Front) (ts : List Token) → next_front f Comma ≡ Some g → Ends (tokens_of wave_scanner) g ts → Ends (tokens_of wave_scanner) f (mark 44 ∷ ts)
    comma f g ts e h = ends-step (tokens_of wave_scanner) (mark 44) ts f g e h

    third : Ends (tokens_of wave_scanner) (Start Third) (quotient_tokens w.z)
    third = subst (Ends (tokens_of wave_scanner) (Start Third)) (append-nil (quotient_tokens w.z)) (quotient-ends Third w.z [] (record { last = Numerator Third; leads = refl; is_end = refl })
        (record { last = Denominator Third; leads = refl; is_end = refl }))

    second : Ends (tokens_of wave_scanner) (Start Second) (quotient_tokens w.y ++ (mark 44 ∷ quotient_tokens w.z))
    second = quotient-ends Second w.y (mark 44 ∷ quotient_tokens w.z) (comma (Numerator Second) (Start Third) _ refl third) (comma (Denominator Second) (Start Third) _ refl third)

tokens-end : (ts : List Token) → IsWaveTokens ts → Ends (tokens_of wave_scanner) (Start First) ts
tokens-end ts h = subst (Ends (tokens_of wave_scanner) (Start First)) h.are (wave-ends h.wave)

-- What is asked of the fronts.

once : (f g : Front) → next_front f Number ≡ Some g → next_front g Number ≡ None
once (Start p) g e = let same : Numerator p ≡ g = cc in ap (λ u. next_front u Number) (sym same)
once (Signed p) g e = let same : Numerator p ≡ g = cc in ap (λ u. next_front u Number) (sym same)
once (Over p) g e = let same : Denominator p ≡ g = cc in ap (λ u. next_front u Number) (sym same)
once (Numerator p) g e = absurd (cc)
once (Denominator p) g e = absurd (cc)

mark_is : (k : Sort) (c : ℕ) → IsOfSort k c → (k ≡ Other → ⊥) → kind_of c ≡ Mark
mark_is Sign c (inl e) n = ap kind_of e
mark_is Sign c (inr e) n = ap kind_of e
mark_is Slash c e n = ap kind_of e
mark_is Comma c e n = ap kind_of e
mark_is Number c e n = absurd e
mark_is Other c e n = absurd (n refl)

none_other : (f g : Front) → next_front f Other ≡ Some g → ⊥
none_other (Start p) g e = cc
none_other (Signed p) g e = cc
none_other (Numerator p) g e = cc
none_other (Over p) g e = cc
none_other (Denominator p) g e = cc

-- a front behind a token, from which another may follow, is one where blanks may stand
comma_rests : (p : Part) (g : Front) → behind_comma p ≡ Some g → rests_front g ≡ true
comma_rests First g e = let same : Start Second ≡ g = cc in ap rests_front (sym same)
comma_rests Second g e = let same : Start Third ≡ g = cc in ap rests_front (sym same)
comma_rests Third g e = absurd (cc)

behind_token : (f g : Front) (k : Sort) → next_front f k ≡ Some g → (rests_front g ≡ true) ⊎ ((p : Part) × (g ≡ Denominator p))
behind_token (Start p) g Sign e = let same : Signed p ≡ g = cc in inl (ap rests_front (sym same))
behind_token (Start p) g Number e = let same : Numerator p ≡ g = cc in inl (ap rests_front (sym same))
behind_token (Signed p) g Number e = let same : Numerator p ≡ g = cc in inl (ap rests_front (sym same))
behind_token (Numerator p) g Slash e = let same : Over p ≡ g = cc in inl (ap rests_front (sym same))
behind_token (Numerator p) g Comma e = inl (comma_rests p g e)
behind_token (Over p) g Number e = let same : Denominator p ≡ g = cc in inr (p, sym same)
behind_token (Denominator p) g Comma e = inl (comma_rests p g e)
behind_token f g k e = absurd (cc)

from_denominator : (p : Part) (h : Front) (k : Sort) → next_front (Denominator p) k ≡ Some h → rests_front (Denominator p) ≡ true
from_denominator First h k e = refl
from_denominator Second h k e = refl
from_denominator Third h Comma e = absurd (cc)
from_denominator Third h k e = absurd (cc)

between : (f g h : Front) (k l : Sort) → next_front f k ≡ Some g → next_front g l ≡ Some h → rests_front g ≡ true
between f g h k l e d = elim (behind_token f g k e) [
  | inl r ↦ r
  | inr b ↦ ap rests_front b.1 ∙ from_denominator b.0 h l (ap (λ u. next_front u l) (sym b.1) ∙ d)
]

-- what completes a front: the components that are left
zeros : Part → List Symbol
zeros First = byte 44 ∷ digits ∷ byte 44 ∷ digits ∷ []
zeros Second = byte 44 ∷ digits ∷ []
zeros Third = []

ending : Front → List Symbol
ending (Start First) = byte 43 ∷ digits ∷ zeros First
ending (Start p) = digits ∷ zeros p
ending (Signed p) = digits ∷ zeros p
ending (Numerator Third) = byte 47 ∷ digits ∷ []
ending (Numerator p) = zeros p
ending (Over p) = digits ∷ zeros p
ending (Denominator p) = zeros p

completes : (f : Front) → Ends (tokens_of wave_scanner) f (plain_tokens 0 (ending f))
unfolding state_after ending zeros
completes (Start First) = record { last = Numerator Third; leads = refl; is_end = refl }
completes (Start Second) = record { last = Numerator Third; leads = refl; is_end = refl }
completes (Start Third) = record { last = Numerator Third; leads = refl; is_end = refl }
completes (Signed First) = record { last = Numerator Third; leads = refl; is_end = refl }
completes (Signed Second) = record { last = Numerator Third; leads = refl; is_end = refl }
completes (Signed Third) = record { last = Numerator Third; leads = refl; is_end = refl }
completes (Numerator First) = record { last = Numerator Third; leads = refl; is_end = refl }
completes (Numerator Second) = record { last = Numerator Third; leads = refl; is_end = refl }
completes (Numerator Third) = record { last = Denominator Third; leads = refl; is_end = refl }
completes (Over First) = record { last = Numerator Third; leads = refl; is_end = refl }
completes (Over Second) = record { last = Numerator Third; leads = refl; is_end = refl }
completes (Over Third) = record { last = Denominator Third; leads = refl; is_end = refl }
completes (Denominator First) = record { last = Numerator Third; leads = refl; is_end = refl }
completes (Denominator Second) = record { last = Numerator Third; leads = refl; is_end = refl }
completes (Denominator Third) = record { last = Denominator Third; leads = refl; is_end = refl }

lasting : (f : Front) → rests_front f ≡ true → ending f ≢ []
unfolding ending zeros
lasting (Start First) r e = cc
lasting (Start Second) r e = cc
lasting (Start Third) r e = cc
lasting (Signed p) r e = cc
lasting (Numerator First) r e = cc
lasting (Numerator Second) r e = cc
lasting (Numerator Third) r e = cc
lasting (Over p) r e = cc
lasting (Denominator First) r e = cc
lasting (Denominator Second) r e = cc
lasting (Denominator Third) r e = cc

apart : (f : Front) → rests_front f ≡ false → (xs : List Symbol) → ending f ≢ digits ∷ xs
unfolding ending zeros
apart (Start First) r xs e = cc
apart (Start Second) r xs e = cc
apart (Start Third) r xs e = cc
apart (Signed p) r xs e = cc
apart (Numerator First) r xs e = cc
apart (Numerator Second) r xs e = cc
apart (Numerator Third) r xs e = cc
apart (Over p) r xs e = cc
apart (Denominator First) r xs e = cc
apart (Denominator Second) r xs e = cc
apart (Denominator Third) r xs e = cc

wave_laws : IsScanner wave_scanner false
wave_laws = record {
  once = once;
  marked = λ f g c e. mark_is (sort_of c) c (sort_is c) (λ o. none_other f g (ap (next_front f) (sym o) ∙ e));
  between = λ f g h x y e d. between f g h (symbol_sort x) (symbol_sort y) e d;
  behind = λ e f. absurd (cc);
  ending = ending;
  completes = completes;
  lasting = λ f _ r. lasting f r;
  apart = apart;
}

wave_texts : Recognises wave_recogniser (IsTextOf wave_scanner false IsWaveTokens)
wave_texts = lexed_recognises wave_scanner false wave_laws IsWaveTokens tokens-end tokens-only

text-wave : (text : List ℕ) → IsTextOf wave_scanner false IsWaveTokens text → IsWave text
text-wave text h = let none : h.blanks ≡ [] = h.before refl in
    let whole : text ≡ h.rest = h.joins ∙ ap (λ l. l ++ h.rest) none in
    let at : AreSpelled (length h.blanks) (wave_tokens h.is.wave) text = subst (λ ts. AreSpelled (length h.blanks) ts text) (sym h.is.are) (subst (AreSpelled (length h.blanks) h.tokens) (sym whole) h.spelled) in
    record { wave = h.is.wave; spells = record { spelled = subst (λ n. AreSpelled n (wave_tokens h.is.wave) text) (ap length none) at; no_blank = h.outside refl } }

wave-text : (text : List ℕ) → IsWave text → IsTextOf wave_scanner false IsWaveTokens text
wave-text text h = record {
  blanks = [];
  tokens = wave_tokens h.wave;
  rest = text;
  are_blanks = tt;
  joins = refl;
  spelled = h.spells.spelled;
  is = record { wave = h.wave; are = refl };
  before = λ _. refl;
  outside = λ _. h.spells.no_blank;
}

pub wave_recognises : Recognises wave_recogniser IsWave
wave_recognises = record {
  ends = λ xs h. wave_texts.ends xs (wave-text xs h);
  only = λ xs h. text-wave xs (wave_texts.only xs h);
  rest = wave_texts.rest;
  completes = wave_texts.completes;
}

-- A byte more in the program.

pub step-some : (f g : Front) (last : Kind) (c : ℕ) → front_after f last (kind_of c) c ≡ Some g → wave_recogniser.step (f, last) c ≡ Some (g, kind_of c)
step-some f g last c e = ap (option_map (λ t. (t, kind_of c))) (after-next f last (kind_of c) c ∙ e)

pub step-none : (f : Front) (last : Kind) (c : ℕ) → front_after f last (kind_of c) c ≡ None → wave_recogniser.step (f, last) c ≡ None
step-none f last c e = ap (option_map (λ t. (t, kind_of c))) (after-next f last (kind_of c) c ∙ e)

pub is-end : (f : Front) (last : Kind) → ends_front f last ≡ true → wave_recogniser.IsEnd (f, last)
is-end f last e = ends-text f last ∙ e

pub end-is : (f : Front) (last : Kind) → wave_recogniser.IsEnd (f, last) → ends_front f last ≡ true
end-is f last e = sym (ends-text f last) ∙ e
