-- Grammars of tokens, told from left to right byte by byte.
--   Scanner              states, and at most one next state for each symbol; which states end, and behind which blanks may stand
--   tokens_of M          the recogniser of lists of tokens
--   lexed M trailing     that of texts; a text may end in a blank where trailing is true
--   IsScanner M trailing     what is asked of the states
--   IsTextOf M trailing G text     the text is blanks and then a spelling of tokens of G, with no blanks where they must not stand
--   lexed_recognises     where M tells the token lists of G, the texts of G are recognised
use Rattle.std.proofs.Common.{◌≡◌, ◌≢◌, refl, sym, ◌∙◌, ap, subst, ℕ, ◌<◌, ◌≤◌, ◌+◌, Bool, true, false, List, [], ◌∷◌, ◌++◌, length, Option, None, Some, IsTrue, ◌⊎◌, inl, inr, arith, ◌&&◌, ◌||◌, option_and_then, nat_eq, nat_le, if◌then◌else◌, lit<}
use Rattle.std.specs.Option.{option_map}
use Rattle.std.specs.Char.{digit_value}
use Rattle.std.specs.Str.Parse.{AllDigits, IsNumeral}
use Rattle.std.proofs.lemmas.Bool.Decides.{nat_tests}
use Rattle.std.proofs.lemmas.Str.{digit_value_digit}
use Rattle.irr_digits.proofs.Numerals.{digit_between}
use Rattle.irr_grammar.proofs.Recognisers.{Recogniser, Ends, Recognises, state_after, ends-then, ends-step, ends-described, state_after-digits}
use Rattle.irr_token.specs.declared.kind.Kind.{Kind}
use Rattle.irr_token.specs.declared.kind.Kind.TheVariants.{Blank, Digit, Mark}
use Rattle.irr_token.specs.Kinds.{kind_of, AreBlanks}
use Rattle.irr_token.specs.Token.{PlacedNumber, Token, Symbol, symbol_of}
use Rattle.irr_token.specs.Token.Token.{number, mark}
use Rattle.irr_token.specs.Token.Symbol.{digits, byte}
use Rattle.irr_token.specs.Spelling.{IsBehind, AreSpelled, EndsInNoBlank}

pub record Scanner : Type 1 where
  pub State : Type 0
  pub start : State
  pub next : State → Symbol → Option State
  pub ends : State → Bool
  pub rests : State → Bool

abbrev pub tokens_of : Scanner → Recogniser Token
tokens_of M = record { State = M.State; start = M.start; step = λ s t. M.next s (symbol_of t); IsEnd = λ s. IsTrue (M.ends s) }

-- the next state at a byte c of the kind k, behind a byte of the kind last
abbrev pub next_byte : (M : Scanner) → M.State → (last k : Kind) → ℕ → Option M.State
next_byte M s last Blank c = if M.rests s then Some s else None
next_byte M s Digit Digit c = Some s
next_byte M s last Digit c = M.next s digits
next_byte M s last Mark c = M.next s (byte c)

-- whether a text may end here: behind blanks too where trailing is true; the last case does not come
abbrev pub ends_text : (M : Scanner) → Bool → M.State → Kind → Bool
ends_text M trailing s Blank = if M.rests s then (trailing && M.ends s) else true
ends_text M trailing s last = M.ends s

abbrev pub lexed : Scanner → Bool → Recogniser ℕ
lexed M trailing = record {
  State = M.State × Kind;
  start = (M.start, Mark);
  step = λ p c. option_map (λ t. (t, kind_of c)) (next_byte M p.0 p.1 (kind_of c) c);
  IsEnd = λ p. IsTrue (ends_text M trailing p.0 p.1);
}

-- tokens of symbols, each number a single 0
abbrev pub plain_tokens : ℕ → List Symbol → List Token
plain_tokens at [] = []
plain_tokens at (digits ∷ xs) = number (record { place = at; digits = 48 ∷ [] }) ∷ plain_tokens (at + 1 + 0) xs
plain_tokens at (byte c ∷ xs) = mark c ∷ plain_tokens (at + 1 + 0) xs

pub record IsScanner (M : Scanner) (trailing : Bool) : Type 0 where
  pub once : (s t : M.State) → M.next s digits ≡ Some t → M.next t digits ≡ None
  pub marked : (s t : M.State) (c : ℕ) → M.next s (byte c) ≡ Some t → kind_of c ≡ Mark
  pub between : (s t u : M.State) (x y : Symbol) → M.next s x ≡ Some t → M.next t y ≡ Some u → M.rests t ≡ true
  pub behind : trailing ≡ true → (s : M.State) → M.rests s ≡ true
  pub ending : M.State → List Symbol
  pub completes : (s : M.State) → Ends (tokens_of M) s (plain_tokens 0 (ending s))
  pub lasting : (s : M.State) → trailing ≡ false → M.rests s ≡ true → ending s ≢ []
  pub apart : (s : M.State) → M.rests s ≡ false → (xs : List Symbol) → ending s ≢ digits ∷ xs

pub record IsTextOf (M : Scanner) (trailing : Bool) (G : List Token → Type 0) (text : List ℕ) : Type 0 where
  pub blanks : List ℕ
  pub tokens : List Token
  pub rest : List ℕ
  pub are_blanks : AreBlanks blanks
  pub joins : text ≡ blanks ++ rest
  pub spelled : AreSpelled (length blanks) tokens rest
  pub is : G tokens
  pub before : M.rests M.start ≡ false → blanks ≡ []
  pub outside : trailing ≡ false → EndsInNoBlank text

-- a choice by a test
by_test : {A : Type 0} (P : A → Type 0) (b : Bool) (x y : A) → (b ≡ true → P x) → (b ≡ false → P y) → P (if b then x else y)
by_test P true x y f g = f refl
by_test P false x y f g = g refl

abbrev IsOfKind : Kind → ℕ → Type 0
IsOfKind Digit c = (48 ≤ c) × (c ≤ 57)
IsOfKind k c = Unit {0}

kind_is : (c : ℕ) → IsOfKind (kind_of c) c
kind_is c = let P : Kind → Type 0 = λ k. IsOfKind k c in
    by_test P (nat_eq c 32 || nat_eq c 9) Blank (if nat_le 48 c && nat_le c 57 then Digit else Mark) (λ _. tt) (λ _. by_test P (nat_le 48 c && nat_le c 57) Digit Mark between (λ _. tt))
  where
    between : nat_le 48 c && nat_le c 57 ≡ true → (48 ≤ c) × (c ≤ 57)
    between h = (grind (arith, nat_tests), grind (arith, nat_tests))

pub kind_digit : (c : ℕ) → kind_of c ≡ Digit → digit_value c < 10
kind_digit c h = let r : (48 ≤ c) × (c ≤ 57) = subst (λ k. IsOfKind k c) h (kind_is c) in let value = digit_value_digit c r in omega (arith, r)

pub digit_kind : (c : ℕ) → digit_value c < 10 → kind_of c ≡ Digit
digit_kind c h = let r = digit_between (c ∷ []) 0 (h, tt) (omega arith) in
    let low : 48 ≤ c = r.0 in
    let high : c ≤ 57 = r.1 in
    grind (arith, nat_tests)

-- the first token of a list that leads to an end
pub record IsHead {A : Type 0} (M : Recogniser A) (s : M.State) (x : A) (xs : List A) : Type 0 where
  pub state : M.State
  pub step : M.step s x ≡ Some state
  pub ends : Ends M state xs

pub ends-head : {A : Type 0} (M : Recogniser A) (s : M.State) (x : A) (xs : List A) → Ends M s (x ∷ xs) → IsHead M s x xs
unfolding state_after
ends-head M s x xs h = of_option (M.step s x) refl
  where
    of_option : (o : Option M.State) → M.step s x ≡ o → IsHead M s x xs
    of_option None e = let none : state_after M s (x ∷ xs) ≡ None = ap (λ u. option_and_then (λ t. state_after M t xs) u) e in absurd (cc (h.leads))
    of_option (Some t) e = record {
      state = t;
      step = e;
      ends = record { last = h.last; leads = sym (ap (λ u. option_and_then (λ v. state_after M v xs) u) e) ∙ h.leads; is_end = h.is_end };
    }

both_true : (a b : Bool) → a && b ≡ true → (a ≡ true) × (b ≡ true)
both_true true b h = (refl, h)
both_true false b h = absurd (cc)

if_rests : {A : Type 0} (r : Bool) (s t : A) → (if r then Some s else None) ≡ Some t → (r ≡ true) × (s ≡ t)
if_rests true s t h = (refl, cc)
if_rests false s t h = absurd (cc)

spelled-at : (m n : ℕ) (ts : List Token) (xs : List ℕ) → m ≡ n → AreSpelled m ts xs → AreSpelled n ts xs
spelled-at m n ts xs e h = subst (λ k. AreSpelled k ts xs) e h

-- a text that follows a byte of the kind last does not end in a blank
pub Closed : Kind → List ℕ → Type 0
Closed last [] = last ≢ Blank
Closed last (c ∷ cs) = Closed (kind_of c) cs

no_blank-closed : (c : ℕ) (cs : List ℕ) → Closed (kind_of c) cs → EndsInNoBlank (c ∷ cs)
unfolding Closed
no_blank-closed c [] h = h
no_blank-closed c (d ∷ cs) h = no_blank-closed d cs h

pub ends-closed : (last : Kind) (cs : List ℕ) → Closed last cs → EndsInNoBlank cs
unfolding Closed
ends-closed last [] h = tt
ends-closed last (c ∷ cs) h = no_blank-closed c cs h

closed-no_blank : (c : ℕ) (cs : List ℕ) → EndsInNoBlank (c ∷ cs) → Closed (kind_of c) cs
unfolding Closed
closed-no_blank c [] h = h
closed-no_blank c (d ∷ cs) h = closed-no_blank d cs h

pub closed-ends : (last : Kind) (cs : List ℕ) → last ≢ Blank → EndsInNoBlank cs → Closed last cs
unfolding Closed
closed-ends last [] n h = n
closed-ends last (c ∷ cs) n h = closed-no_blank c cs h

module _ (M : Scanner) (trailing : Bool) (laws : IsScanner M trailing) where
  -- what may follow
  record Follows (s : M.State) (last : Kind) (at : ℕ) (text : List ℕ) : Type 0 where
    pub front : List ℕ
    pub blanks : List ℕ
    pub tokens : List Token
    pub rest : List ℕ
    pub are_digits : AllDigits 10 front
    pub only : last ≢ Digit → front ≡ []
    pub are_blanks : AreBlanks blanks
    pub none : M.rests s ≡ false → blanks ≡ []
    pub joins : text ≡ front ++ (blanks ++ rest)
    pub spelled : AreSpelled (at + length front + length blanks) tokens rest
    pub ends : Ends (tokens_of M) s tokens
    pub closed : trailing ≡ false → Closed last text

  abbrev Described : M.State × Kind → List ℕ → Type 0
  Described p text = (p.1 ≡ Blank → M.rests p.0 ≡ true) → (at : ℕ) → Follows p.0 p.1 at text

  nothing-follows : (s : M.State) (last : Kind) (at : ℕ) → M.ends s ≡ true → (trailing ≡ false → last ≢ Blank) → Follows s last at []
  unfolding Closed state_after
  nothing-follows s last at e n = record {
    front = [];
    blanks = [];
    tokens = [];
    rest = [];
    are_digits = tt;
    only = λ _. refl;
    are_blanks = tt;
    none = λ _. refl;
    joins = refl;
    spelled = refl;
    ends = record { last = s; leads = refl; is_end = e };
    closed = n;
  }

  described-end : (p : M.State × Kind) → IsTrue (ends_text M trailing p.0 p.1) → Described p []
  described-end (s, Blank) h = λ r at. let both : (trailing ≡ true) × (M.ends s ≡ true) = at_rest (M.rests s) (r refl) h in
      nothing-follows s Blank at both.1 (λ f. absurd (cc (both.0)))
    where
      at_rest : (b : Bool) → b ≡ true → (if b then (trailing && M.ends s) else true) ≡ true → (trailing ≡ true) × (M.ends s ≡ true)
      at_rest true e g = both_true trailing (M.ends s) g
      at_rest false e g = absurd (cc)
  described-end (s, Digit) h = λ r at. nothing-follows s Digit at h (λ f e. cc)
  described-end (s, Mark) h = λ r at. nothing-follows s Mark at h (λ f e. cc)

  blank-more : (s : M.State) (last : Kind) (at c : ℕ) (xs : List ℕ) → kind_of c ≡ Blank → M.rests s ≡ true → Follows s Blank (at + 1) xs → Follows s last at (c ∷ xs)
  unfolding Closed
  blank-more s last at c xs k r f = let empty : f.front ≡ [] = f.only (λ e. cc) in record {
    front = [];
    blanks = c ∷ f.blanks;
    tokens = f.tokens;
    rest = f.rest;
    are_digits = tt;
    only = λ _. refl;
    are_blanks = (k, f.are_blanks);
    none = λ n. absurd (cc);
    joins = ap (λ l. c ∷ l) (f.joins ∙ ap (λ l. l ++ (f.blanks ++ f.rest)) empty);
    spelled = spelled-at (at + 1 + length f.front + length f.blanks) (at + length {A = ℕ} [] + length (c ∷ f.blanks)) f.tokens f.rest (let z : length f.front ≡ 0 = ap length empty in omega arith) f.spelled;
    ends = f.ends;
    closed = λ t. subst (λ l. Closed l xs) (sym k) (f.closed t);
  }

  digit-more : (s : M.State) (at c : ℕ) (xs : List ℕ) → kind_of c ≡ Digit → Follows s Digit (at + 1) xs → Follows s Digit at (c ∷ xs)
  unfolding Closed
  digit-more s at c xs k f = record {
    front = c ∷ f.front;
    blanks = f.blanks;
    tokens = f.tokens;
    rest = f.rest;
    are_digits = (kind_digit c k, f.are_digits);
    only = λ n. absurd (n refl);
    are_blanks = f.are_blanks;
    none = f.none;
    joins = ap (λ l. c ∷ l) f.joins;
    spelled = spelled-at (at + 1 + length f.front + length f.blanks) (at + length (c ∷ f.front) + length f.blanks) f.tokens f.rest (omega arith) f.spelled;
    ends = f.ends;
    closed = λ t. subst (λ l. Closed l xs) (sym k) (f.closed t);
  }

  number-more : (s t : M.State) (last : Kind) (at c : ℕ) (xs : List ℕ) → kind_of c ≡ Digit → M.next s digits ≡ Some t → Follows t Digit (at + 1) xs → Follows s last at (c ∷ xs)
  unfolding Closed
  number-more s t last at c xs k e f = record {
    front = [];
    blanks = [];
    tokens = number (record { place = at + 0 + 0; digits = c ∷ f.front }) ∷ f.tokens;
    rest = c ∷ xs;
    are_digits = tt;
    only = λ _. refl;
    are_blanks = tt;
    none = λ _. refl;
    joins = refl;
    spelled = (
      (omega arith, (kind_digit c k, f.are_digits)),
      refl,
      record {
        blanks = f.blanks;
        rest = f.rest;
        are_blanks = f.are_blanks;
        joins = ap (λ l. c ∷ l) f.joins;
        is_rest = spelled-at (at + 1 + length f.front + length f.blanks) (at + 0 + 0 + length (c ∷ f.front) + length f.blanks) f.tokens f.rest (omega arith) f.spelled;
      },
    );
    ends = ends-step (tokens_of M) (number (record { place = at + 0 + 0; digits = c ∷ f.front })) f.tokens s t e f.ends;
    closed = λ u. subst (λ l. Closed l xs) (sym k) (f.closed u);
  }

  mark-more : (s t : M.State) (last : Kind) (at c : ℕ) (xs : List ℕ) → kind_of c ≡ Mark → M.next s (byte c) ≡ Some t → Follows t Mark (at + 1) xs → Follows s last at (c ∷ xs)
  unfolding Closed
  mark-more s t last at c xs k e f = let empty : f.front ≡ [] = f.only (λ e. cc) in record {
    front = [];
    blanks = [];
    tokens = mark c ∷ f.tokens;
    rest = c ∷ xs;
    are_digits = tt;
    only = λ _. refl;
    are_blanks = tt;
    none = λ _. refl;
    joins = refl;
    spelled = (
      k,
      record {
        blanks = f.blanks;
        rest = f.rest;
        are_blanks = f.are_blanks;
        joins = ap (λ l. c ∷ l) (f.joins ∙ ap (λ l. l ++ (f.blanks ++ f.rest)) empty);
        is_rest = spelled-at (at + 1 + length f.front + length f.blanks) (at + 0 + 0 + length (c ∷ []) + length f.blanks) f.tokens f.rest (let z : length f.front ≡ 0 = ap length empty in omega arith) f.spelled;
      },
    );
    ends = ends-step (tokens_of M) (mark c) f.tokens s t e f.ends;
    closed = λ u. subst (λ l. Closed l xs) (sym k) (f.closed u);
  }

  step-more : (s t : M.State) (last k : Kind) (at c : ℕ) (xs : List ℕ) → kind_of c ≡ k → next_byte M s last k c ≡ Some t → ((k ≡ Blank → M.rests t ≡ true) → (a : ℕ) → Follows t k a xs) → Follows s last at (c ∷ xs)
  step-more s t last Blank at c xs k e d = let r : (M.rests s ≡ true) × (s ≡ t) = if_rests (M.rests s) s t e in
      blank-more s last at c xs k r.0 (subst (λ u. Follows u Blank (at + 1) xs) (sym r.1) (d (λ _. ap M.rests (sym r.1) ∙ r.0) (at + 1)))
  step-more s t Digit Digit at c xs k e d = let same : s ≡ t = cc in digit-more s at c xs k (subst (λ u. Follows u Digit (at + 1) xs) (sym same) (d (λ f. absurd (cc)) (at + 1)))
  step-more s t Blank Digit at c xs k e d = number-more s t Blank at c xs k e (d (λ f. absurd (cc)) (at + 1))
  step-more s t Mark Digit at c xs k e d = number-more s t Mark at c xs k e (d (λ f. absurd (cc)) (at + 1))
  step-more s t last Mark at c xs k e d = mark-more s t last at c xs k e (d (λ f. absurd (cc)) (at + 1))

  mapped : (o : Option M.State) (k : Kind) (q : M.State × Kind) → option_map (λ t. (t, k)) o ≡ Some q → (o ≡ Some q.0) × (k ≡ q.1)
  mapped None k q e = absurd (cc)
  mapped (Some t) k q e = let same : (t, k) ≡ q = cc in (ap (λ (p : M.State × Kind). Some p.0) same, ap (λ (p : M.State × Kind). p.1) same)

  described-step : (p q : M.State × Kind) (c : ℕ) (xs : List ℕ) → (lexed M trailing).step p c ≡ Some q → Described q xs → Described p (c ∷ xs)
  described-step p q c xs e d = λ r at. let m = mapped (next_byte M p.0 p.1 (kind_of c) c) (kind_of c) q e in
      step-more p.0 q.0 p.1 (kind_of c) at c xs refl m.0 (λ b a. subst (λ k. Follows q.0 k a xs) (sym m.1) (d (λ f. b (m.1 ∙ f)) a))

  texts-only : (G : List Token → Type 0) → ((ts : List Token) → Ends (tokens_of M) M.start ts → G ts) → (text : List ℕ) → Ends (lexed M trailing) (M.start, Mark) text → IsTextOf M trailing G text
  texts-only G g text h = let f = ends-described (lexed M trailing) Described described-end described-step text (M.start, Mark) h (λ e. absurd (cc)) 0 in
      let empty : f.front ≡ [] = f.only (λ e. cc) in record {
        blanks = f.blanks;
        tokens = f.tokens;
        rest = f.rest;
        are_blanks = f.are_blanks;
        joins = f.joins ∙ ap (λ l. l ++ (f.blanks ++ f.rest)) empty;
        spelled = spelled-at (0 + length f.front + length f.blanks) (length f.blanks) f.tokens f.rest (let z : length f.front ≡ 0 = ap length empty in omega arith) f.spelled;
        is = g f.tokens f.ends;
        before = f.none;
        outside = λ t. ends-closed Mark text (f.closed t);
      }

  -- a list of tokens that does not begin with a number, behind a digit
  abbrev Apart : Kind → List Token → Type 0
  Apart Digit (number n ∷ ts) = ⊥
  Apart last ts = Unit {0}

  abbrev EndsFrom : M.State → Kind → List ℕ → Type 0
  EndsFrom s last text = Ends (lexed M trailing) (s, last) text

  step-byte : (s t : M.State) (last k : Kind) (c : ℕ) (xs : List ℕ) → kind_of c ≡ k → next_byte M s last k c ≡ Some t → EndsFrom t k xs → EndsFrom s last (c ∷ xs)
  step-byte s t last k c xs e n h = ends-step (lexed M trailing) c xs (s, last) (t, k)
      (ap (λ j. option_map (λ u. (u, j)) (next_byte M s last j c)) e ∙ ap (option_map (λ u. (u, k))) n) h

  blanks-end : (bs rest : List ℕ) (s : M.State) (last : Kind) → AreBlanks bs → (bs ≢ [] → M.rests s ≡ true) → (trailing ≡ false → Closed last (bs ++ rest))
      → ((l : Kind) → (l ≡ last) ⊎ (l ≡ Blank) → (trailing ≡ false → Closed l rest) → EndsFrom s l rest) → EndsFrom s last (bs ++ rest)
  unfolding Closed
  blanks-end [] rest s last are r closed f = f last (inl refl) closed
  blanks-end (c ∷ cs) rest s last are r closed f =
      let may : M.rests s ≡ true = r (λ e. cc) in
      let step : next_byte M s last Blank c ≡ Some s = ap (λ b. if b then Some s else None) may in
      step-byte s s last Blank c (cs ++ rest) are.0 step (blanks-end cs rest s Blank are.1 (λ _. may) (λ t. subst (λ k. Closed k (cs ++ rest)) are.0 (closed t))
      (λ l is. f l (elim is [ inl e ↦ inr e | inr e ↦ inr e ])))

  closed-digits : (ds ys : List ℕ) → AllDigits 10 ds → Closed Digit (ds ++ ys) → Closed Digit ys
  unfolding Closed
  closed-digits [] ys all h = h
  closed-digits (d ∷ ds) ys all h = closed-digits ds ys all.1 (subst (λ k. Closed k (ds ++ ys)) (digit_kind d all.0) h)

  closed-front : (last : Kind) (ds ys : List ℕ) → IsNumeral 10 ds → Closed last (ds ++ ys) → Closed Digit (ds ++ ys)
  unfolding Closed
  closed-front last [] ys is h = absurd (let some : 0 < length {A = ℕ} [] = is.0 in omega arith)
  closed-front last (d ∷ ds) ys is h = h

  closed-blanks : (last : Kind) (bs : List ℕ) → AreBlanks bs → bs ≢ [] → Closed last (bs ++ []) → ⊥
  unfolding Closed
  closed-blanks last [] are n h = n refl
  closed-blanks last (c ∷ []) are n h = h are.0
  closed-blanks last (c ∷ d ∷ cs) are n h = closed-blanks (kind_of c) (d ∷ cs) are.1 (λ e. cc) h

  -- blanks may stand where tokens follow, or where the text may end in one
  gap : (s t : M.State) (x : Symbol) (ts : List Token) (l : Kind) (at : ℕ) (bs rest : List ℕ) → M.next s x ≡ Some t → Ends (tokens_of M) t ts → AreSpelled at ts rest → AreBlanks bs
      → (trailing ≡ false → Closed l (bs ++ rest)) → bs ≢ [] → M.rests t ≡ true
  gap s t x ts l at bs rest e h sp are closed n = by_trailing trailing refl ts h sp
    where
      by_trailing : (b : Bool) → trailing ≡ b → (us : List Token) → Ends (tokens_of M) t us → AreSpelled at us rest → M.rests t ≡ true
      by_trailing true f us g p = laws.behind f t
      by_trailing false f [] g p = absurd (closed-blanks l bs are n (subst (λ r. Closed l (bs ++ r)) p (closed f)))
      by_trailing false f (u ∷ us) g p = let head = ends-head (tokens_of M) t u us g in laws.between s t head.state x (symbol_of u) e head.step

  apart : (t : M.State) (ts : List Token) (l : Kind) → M.next t digits ≡ None → Ends (tokens_of M) t ts → Apart l ts
  apart t [] Digit e h = tt
  apart t (number n ∷ ts) Digit e h = let head = ends-head (tokens_of M) t (number n) ts h in absurd (cc (head.step))
  apart t (mark c ∷ ts) Digit e h = tt
  apart t ts l e h = tt

  -- behind a mark or a blank
  apart-other : (l k : Kind) (ts : List Token) → (l ≡ k) ⊎ (l ≡ Blank) → k ≢ Digit → Apart l ts
  apart-other Digit k ts (inl e) n = absurd (n (sym e))
  apart-other Digit k ts (inr e) n = absurd (cc)
  apart-other l k ts is n = tt

  next-digit : (s t : M.State) (last : Kind) (n : PlacedNumber) (ts : List Token) (c : ℕ) → Apart last (number n ∷ ts) → M.next s digits ≡ Some t → next_byte M s last Digit c ≡ Some t
  next-digit s t Digit n ts c a e = absurd a
  next-digit s t Blank n ts c a e = e
  next-digit s t Mark n ts c a e = e

  nothing-ends : (s : M.State) (last : Kind) → M.ends s ≡ true → (trailing ≡ false → Closed last []) → EndsFrom s last []
  unfolding state_after Closed
  nothing-ends s last e closed = record { last = (s, last); leads = refl; is_end = by_kind last closed }
    where
      at_rest : (b r : Bool) → trailing ≡ b → (if r then (trailing && M.ends s) else true) ≡ true ⊎ (b ≡ false)
      at_rest true true f = inl (ap (λ u. u && M.ends s) f ∙ e)
      at_rest b false f = inl refl
      at_rest false true f = inr refl

      by_kind : (l : Kind) → (trailing ≡ false → l ≢ Blank) → ends_text M trailing s l ≡ true
      by_kind Blank n = elim (at_rest trailing (M.rests s) refl) [ inl h ↦ h | inr f ↦ absurd (n f refl) ]
      by_kind Digit n = e
      by_kind Mark n = e

  -- what is known of a list of tokens: from each state that it leads from to an end, so do its spellings
  abbrev Lead : List Token → Type 0
  Lead ts = (s : M.State) (last : Kind) (at : ℕ) (rest : List ℕ) → AreSpelled at ts rest → Ends (tokens_of M) s ts → Apart last ts → (trailing ≡ false → Closed last rest) → EndsFrom s last rest

  none-lead : Lead []
  unfolding state_after
  none-lead s last at rest sp h a closed = let same : s ≡ h.last = cc (h.leads) in
      subst (EndsFrom s last) (sym sp) (nothing-ends s last (ap M.ends same ∙ h.is_end) (λ t. subst (Closed last) sp (closed t)))

  keep : (s : M.State) (es : List ℕ) → AllDigits 10 es → state_after (lexed M trailing) (s, Digit) es ≡ Some (s, Digit)
  keep s es all = state_after-digits (lexed M trailing) (s, Digit) (λ c v. ap (λ k. option_map (λ t. (t, k)) (next_byte M s Digit k c)) (digit_kind c v)) es all

  digits-lead : (ts : List Token) (n : PlacedNumber) (s t : M.State) (last : Kind) (at : ℕ) (ds rest : List ℕ) → Lead ts → M.next s digits ≡ Some t → Ends (tokens_of M) t ts → IsNumeral 10 ds
      → IsBehind ds at (λ p r. AreSpelled p ts r) rest → Apart last (number n ∷ ts) → (trailing ≡ false → Closed last rest) → EndsFrom s last rest
  digits-lead ts n s t last at [] rest lead e h is b a closed = absurd (let some : 0 < length {A = ℕ} [] = is.0 in omega arith)
  digits-lead ts n s t last at (d ∷ ds) rest lead e h is b a closed = subst (EndsFrom s last) (sym b.joins)
      (step-byte s t last Digit d (ds ++ (b.blanks ++ b.rest)) (digit_kind d is.1.0) (next-digit s t last n ts d a e)
      (ends-then (lexed M trailing) ds (b.blanks ++ b.rest) (t, Digit) (t, Digit) (keep t ds is.1.1)
      (blanks-end b.blanks b.rest t Digit b.are_blanks (gap s t digits ts Digit (at + length (d ∷ ds) + length b.blanks) b.blanks b.rest e h b.is_rest b.are_blanks shut) shut
      (λ l i. lead t l (at + length (d ∷ ds) + length b.blanks) b.rest b.is_rest h (apart t ts l (laws.once s t e) h)))))
    where
      shut : trailing ≡ false → Closed Digit (b.blanks ++ b.rest)
      shut u = closed-digits (d ∷ ds) (b.blanks ++ b.rest) is.1 (closed-front last (d ∷ ds) (b.blanks ++ b.rest) is (subst (Closed last) b.joins (closed u)))

  mark-lead : (ts : List Token) (c : ℕ) (s t : M.State) (last : Kind) (at : ℕ) (rest : List ℕ) → Lead ts → M.next s (byte c) ≡ Some t → Ends (tokens_of M) t ts
      → IsBehind (c ∷ []) at (λ p r. AreSpelled p ts r) rest → (trailing ≡ false → Closed last rest) → EndsFrom s last rest
  unfolding Closed
  mark-lead ts c s t last at rest lead e h b closed = subst (EndsFrom s last) (sym b.joins)
      (step-byte s t last Mark c (b.blanks ++ b.rest) is e
      (blanks-end b.blanks b.rest t Mark b.are_blanks (gap s t (byte c) ts Mark (at + length (c ∷ []) + length b.blanks) b.blanks b.rest e h b.is_rest b.are_blanks shut) shut
      (λ l i. lead t l (at + length (c ∷ []) + length b.blanks) b.rest b.is_rest h (apart-other l Mark ts i (λ f. cc)))))
    where
      is : kind_of c ≡ Mark
      is = laws.marked s t c e

      shut : trailing ≡ false → Closed Mark (b.blanks ++ b.rest)
      shut u = subst (λ k. Closed k (b.blanks ++ b.rest)) is (subst (Closed last) b.joins (closed u))

  tokens-end : (ts : List Token) → Lead ts
  tokens-end [] s last at rest sp h a closed = none-lead s last at rest sp h a closed
  tokens-end (number n ∷ ts) s last at rest sp h a closed = let head = ends-head (tokens_of M) s (number n) ts h in
      digits-lead ts n s head.state last at n.digits rest (tokens-end ts) head.step head.ends sp.0 sp.2 a closed
  tokens-end (mark c ∷ ts) s last at rest sp h a closed = let head = ends-head (tokens_of M) s (mark c) ts h in
      mark-lead ts c s head.state last at rest (tokens-end ts) head.step head.ends sp.1 closed

  texts-end : (G : List Token → Type 0) → ((ts : List Token) → G ts → Ends (tokens_of M) M.start ts) → (text : List ℕ) → IsTextOf M trailing G text → EndsFrom M.start Mark text
  texts-end G g text h = subst (EndsFrom M.start Mark) (sym h.joins) (blanks-end h.blanks h.rest M.start Mark h.are_blanks may
      (λ t. closed-ends Mark (h.blanks ++ h.rest) (λ e. cc) (subst EndsInNoBlank h.joins (h.outside t)))
      (λ l i. tokens-end h.tokens M.start l (length h.blanks) h.rest h.spelled (g h.tokens h.is) (apart-other l Mark h.tokens i (λ e. cc))))
    where
      may : h.blanks ≢ [] → M.rests M.start ≡ true
      may n = by_rest (M.rests M.start) refl
        where
          by_rest : (b : Bool) → M.rests M.start ≡ b → b ≡ true
          by_rest true e = refl
          by_rest false e = absurd (n (h.before e))

  -- what completes a text

  plain_text : List Symbol → List ℕ
  plain_text [] = []
  plain_text (digits ∷ xs) = 48 ∷ plain_text xs
  plain_text (byte c ∷ xs) = c ∷ plain_text xs

  plain-spelled : (at : ℕ) (xs : List Symbol) (s : M.State) → Ends (tokens_of M) s (plain_tokens at xs) → AreSpelled at (plain_tokens at xs) (plain_text xs)
  unfolding plain_text
  plain-spelled at [] s h = refl
  plain-spelled at (digits ∷ xs) s h = let head = ends-head (tokens_of M) s (number (record { place = at; digits = 48 ∷ [] })) (plain_tokens (at + 1 + 0) xs) h in
      ((omega arith, (lit< tt, tt)), refl, record { blanks = []; rest = plain_text xs; are_blanks = tt; joins = refl; is_rest = plain-spelled (at + 1 + 0) xs head.state head.ends })
  plain-spelled at (byte c ∷ xs) s h = let head = ends-head (tokens_of M) s (mark c) (plain_tokens (at + 1 + 0) xs) h in
      (laws.marked s head.state c head.step, record { blanks = []; rest = plain_text xs; are_blanks = tt; joins = refl; is_rest = plain-spelled (at + 1 + 0) xs head.state head.ends })

  plain-closed : (at : ℕ) (xs : List Symbol) (s : M.State) (last : Kind) → Ends (tokens_of M) s (plain_tokens at xs) → (xs ≡ [] → last ≢ Blank) → Closed last (plain_text xs)
  unfolding plain_text Closed
  plain-closed at [] s last h n = n refl
  plain-closed at (digits ∷ xs) s last h n = let head = ends-head (tokens_of M) s (number (record { place = at; digits = 48 ∷ [] })) (plain_tokens (at + 1 + 0) xs) h in
      plain-closed (at + 1 + 0) xs head.state Digit head.ends (λ e f. cc)
  plain-closed at (byte c ∷ xs) s last h n = let head = ends-head (tokens_of M) s (mark c) (plain_tokens (at + 1 + 0) xs) h in
      subst (λ k. Closed k (plain_text xs)) (sym (laws.marked s head.state c head.step)) (plain-closed (at + 1 + 0) xs head.state Mark head.ends (λ e f. cc))

  plain-apart : (at : ℕ) (xs : List Symbol) (last : Kind) → ((ys : List Symbol) → xs ≢ digits ∷ ys) → Apart last (plain_tokens at xs)
  plain-apart at [] Digit n = tt
  plain-apart at (digits ∷ xs) Digit n = n xs refl
  plain-apart at (byte c ∷ xs) Digit n = tt
  plain-apart at xs last n = tt

  ending-text : Bool → M.State → Kind → List ℕ
  ending-text true s last = 32 ∷ plain_text (laws.ending s)
  ending-text false s Blank = []
  ending-text false s last = plain_text (laws.ending s)

  ending-ends : (b : Bool) (s : M.State) (last : Kind) → M.rests s ≡ b → EndsFrom s last (ending-text b s last)
  unfolding ending-text state_after
  ending-ends true s last r = step-byte s s last Blank 32 (plain_text (laws.ending s)) refl (ap (λ u. if u then Some s else None) r)
      (tokens-end (plain_tokens 0 (laws.ending s)) s Blank 0 (plain_text (laws.ending s)) (plain-spelled 0 (laws.ending s) s (laws.completes s)) (laws.completes s) tt
      (λ t. plain-closed 0 (laws.ending s) s Blank (laws.completes s) (λ e. absurd (laws.lasting s t r e))))
  ending-ends false s Blank r = record { last = (s, Blank); leads = refl; is_end = ap (λ u. if u then (trailing && M.ends s) else true) r }
  ending-ends false s Digit r = tokens-end (plain_tokens 0 (laws.ending s)) s Digit 0 (plain_text (laws.ending s)) (plain-spelled 0 (laws.ending s) s (laws.completes s)) (laws.completes s)
      (plain-apart 0 (laws.ending s) Digit (laws.apart s r)) (λ t. plain-closed 0 (laws.ending s) s Digit (laws.completes s) (λ e f. cc))
  ending-ends false s Mark r = tokens-end (plain_tokens 0 (laws.ending s)) s Mark 0 (plain_text (laws.ending s)) (plain-spelled 0 (laws.ending s) s (laws.completes s)) (laws.completes s)
      tt (λ t. plain-closed 0 (laws.ending s) s Mark (laws.completes s) (λ e f. cc))

  pub lexed_recognises : (G : List Token → Type 0) → ((ts : List Token) → G ts → Ends (tokens_of M) M.start ts) → ((ts : List Token) → Ends (tokens_of M) M.start ts → G ts)
      → Recognises (lexed M trailing) (IsTextOf M trailing G)
  lexed_recognises G ends only = record {
    ends = texts-end G ends;
    only = texts-only G only;
    rest = λ p. ending-text (M.rests p.0) p.0 p.1;
    completes = λ p. ending-ends (M.rests p.0) p.0 p.1 refl;
  }
