-- The lines of a word and fractions are told from left to right.
--   line_recogniser word n     the fronts as states
--   line_recognises            it recognises the lines of the word and n fractions
use Rattle.std.proofs.Common.{◌≡◌, ◌≢◌, refl, sym, ◌∙◌, ap, subst, ℕ, zero, suc, ◌<◌, ◌+◌, Bool, true, false, List, [], ◌∷◌, ◌++◌, length, append_assoc, length-append, Option, None, Some, IfSome, IsTrue, if◌then◌else◌, nat_eq, ◌||◌, ◌&&◌, ◌⊎◌, inl, inr, arith}
use Rattle.std.proofs.lemmas.Bool.Decides.{nat_tests}
use Rattle.std.specs.Str.Parse.{AllDigits, IsNumeral}
use Rattle.irr_grammar.proofs.Recognisers.{Recogniser, Ends, Recognises, state_after, ends-step, ends-described}
use Rattle.irr_token.specs.declared.kind.Kind.{Kind}
use Rattle.irr_token.specs.declared.kind.Kind.TheVariants.{Blank, Digit, Mark}
use Rattle.irr_token.specs.Kinds.{kind_of, AreBlanks}
use Rattle.irr_token.specs.Token.{PlacedNumber}
use Rattle.irr_token.specs.Quotient.{WrittenQuotient, sign_byte, quotient_tokens}
use Rattle.irr_token.specs.Spelling.{AreSpelled}
use Rattle.irr_token.proofs.Lexing.{digit_kind, kind_digit}
use Rattle.irr_setting_text.specs.declared.shape.Sort.{Sort}
use Rattle.irr_setting_text.specs.declared.shape.Sort.TheVariants.{Space, Figure, Sign, Slash, Other}
use Rattle.irr_setting_text.specs.declared.shape.Stage.{Stage}
use Rattle.irr_setting_text.specs.declared.shape.Stage.TheVariants.{Start, Word, Gap, Signed, Numerator, Over, Denominator}
use Rattle.irr_setting_text.specs.WrittenLine.{AreWritten, IsLine}
use Rattle.irr_setting_text.specs.LineFront.{IsWord, mark_sort, kind_sort, sort_of, State, at_stage, after_sort, after_letter, next_state, is_whole, ends_line}
use Rattle.irr_setting_text.proofs.Fractions.{sign_bytes, over_part, over_bytes, placed, placed-spelled, placed-no_blank, IsInBytes, quotient-bytes}

abbrev pub line_recogniser : List ℕ → ℕ → Recogniser ℕ
line_recogniser word n = record {
  State = State;
  start = record { stage = Start; word = word; left = n };
  step = λ s c. next_state s.stage s.word s.left c;
  IsEnd = λ s. IsTrue (ends_line s);
}

-- Sorts of bytes.

blank_sort : (c : ℕ) → kind_of c ≡ Blank → sort_of c ≡ Space
blank_sort c e = ap (λ k. kind_sort k c) e

digit_sort : (c : ℕ) → kind_of c ≡ Digit → sort_of c ≡ Figure
digit_sort c e = ap (λ k. kind_sort k c) e

by_test : {A : Type 0} (P : A → Type 0) (b : Bool) (x y : A) → (b ≡ true → P x) → (b ≡ false → P y) → P (if b then x else y)
by_test P true x y f g = f refl
by_test P false x y f g = g refl

either : (a b : Bool) → a || b ≡ true → (a ≡ true) ⊎ (b ≡ true)
either true b h = inl refl
either false b h = inr h

same : (c n : ℕ) → nat_eq c n ≡ true → c ≡ n
same c n h = grind (arith, nat_tests)

same_byte : (c : ℕ) → nat_eq c c ≡ true
same_byte c = grind (arith, nat_tests)

other_byte : (c d : ℕ) → c ≢ d → nat_eq c d ≡ false
other_byte c d h = grind (arith, nat_tests)

abbrev IsOfSort : Sort → ℕ → Type 0
IsOfSort Space c = kind_of c ≡ Blank
IsOfSort Figure c = kind_of c ≡ Digit
IsOfSort Sign c = (c ≡ 43) ⊎ (c ≡ 45)
IsOfSort Slash c = c ≡ 47
IsOfSort Other c = Unit {0}

mark_is : (c : ℕ) → IsOfSort (mark_sort c) c
mark_is c = let P : Sort → Type 0 = λ x. IsOfSort x c in
    by_test P (nat_eq c 43 || nat_eq c 45) Sign (if nat_eq c 47 then Slash else Other)
    (λ h. elim (either (nat_eq c 43) (nat_eq c 45) h) [ inl e ↦ inl (same c 43 e) | inr e ↦ inr (same c 45 e) ])
    (λ _. by_test P (nat_eq c 47) Slash Other (same c 47) (λ _. tt))

kind_is : (k : Kind) (c : ℕ) → kind_of c ≡ k → IsOfSort (kind_sort k c) c
kind_is Blank c e = e
kind_is Digit c e = e
kind_is Mark c e = mark_is c

sort_is : (c : ℕ) → IsOfSort (sort_of c) c
sort_is c = kind_is (kind_of c) c refl

-- What leads to an end.

-- blanks may follow, and the line may end if no fraction is still to come
record Rests (s : Stage) (w : List ℕ) : Type 0 where
  pub space : (k c : ℕ) → sort_of c ≡ Space → next_state s w k c ≡ at_stage Gap w k
  pub whole : is_whole s w ≡ true

rests_gap : (w : List ℕ) → Rests Gap w
rests_gap w = record { space = λ k c e. ap (λ x. after_sort Gap x w k) e; whole = refl }

rests_numerator : (w : List ℕ) → Rests Numerator w
rests_numerator w = record { space = λ k c e. ap (λ x. after_sort Numerator x w k) e; whole = refl }

rests_denominator : (w : List ℕ) → Rests Denominator w
rests_denominator w = record { space = λ k c e. ap (λ x. after_sort Denominator x w k) e; whole = refl }

rests_word : Rests Word []
rests_word = record { space = λ k c e. ap (λ x. after_sort Word x [] k) e; whole = refl }

rests_start : Rests Start []
rests_start = record { space = λ k c e. ap (λ x. after_sort Start x [] k) e; whole = refl }

zeros : ℕ → List ℕ
zeros zero = []
zeros (suc k) = 32 ∷ 48 ∷ zeros k

module _ (word : List ℕ) (n : ℕ) where
  abbrev EndsFrom : Stage → List ℕ → ℕ → List ℕ → Type 0
  EndsFrom s w k text = Ends (line_recogniser word n) (record { stage = s; word = w; left = k }) text

  step-ends : (s t : Stage) (w v : List ℕ) (k j c : ℕ) (xs : List ℕ) → next_state s w k c ≡ at_stage t v j → EndsFrom t v j xs → EndsFrom s w k (c ∷ xs)
  step-ends s t w v k j c xs e h = ends-step (line_recogniser word n) c xs (record { stage = s; word = w; left = k }) (record { stage = t; word = v; left = j }) e h

  nothing-ends : (s : Stage) (w : List ℕ) → is_whole s w ≡ true → EndsFrom s w 0 []
  unfolding state_after
  nothing-ends s w h = record { last = record { stage = s; word = w; left = 0 }; leads = refl; is_end = h }

  blanks-end : (s : Stage) (w bs : List ℕ) → Rests s w → AreBlanks bs → EndsFrom s w 0 bs
  blanks-end s w [] r h = nothing-ends s w r.whole
  blanks-end s w (b ∷ bs) r h = step-ends s Gap w w 0 0 b bs (r.space 0 b (blank_sort b h.0)) (blanks-end Gap w bs (rests_gap w) h.1)

  zeros-end : (k : ℕ) (s : Stage) (w : List ℕ) → Rests s w → EndsFrom s w k (zeros k)
  unfolding zeros
  zeros-end zero s w r = nothing-ends s w r.whole
  zeros-end (suc k) s w r = step-ends s Gap w w (suc k) (suc k) 32 (48 ∷ zeros k) (r.space (suc k) 32 refl)
      (step-ends Gap Numerator w w (suc k) k 48 (zeros k) refl (zeros-end k Numerator w (rests_numerator w)))

  word-end : (v : List ℕ) (k : ℕ) (text : List ℕ) → EndsFrom Word [] k text → EndsFrom Word v k (v ++ text)
  word-end [] k text h = h
  word-end (c ∷ v) k text h = step-ends Word Word (c ∷ v) v k k c (v ++ text) (ap (λ b. after_letter b Word (c ∷ v) v (sort_of c) k) (same_byte c)) (word-end v k text h)

  start-end : (c : ℕ) (v : List ℕ) (k : ℕ) (text : List ℕ) → EndsFrom Word [] k text → EndsFrom Start (c ∷ v) k (c ∷ (v ++ text))
  start-end c v k text h = step-ends Start Word (c ∷ v) v k k c (v ++ text) (ap (λ b. after_letter b Start (c ∷ v) v (sort_of c) k) (same_byte c)) (word-end v k text h)

  blanks-start : (bs : List ℕ) (c : ℕ) (v : List ℕ) (k : ℕ) (text : List ℕ) → AreBlanks bs → kind_of c ≢ Blank → EndsFrom Start (c ∷ v) k text
      → EndsFrom Start (c ∷ v) k (bs ++ text)
  blanks-start [] c v k text are f h = h
  blanks-start (b ∷ bs) c v k text are f h = step-ends Start Start (c ∷ v) (c ∷ v) k k b (bs ++ text)
      (ap (λ x. after_letter x Start (c ∷ v) v (sort_of b) k) (other_byte c b (λ e. f (ap kind_of e ∙ are.0)))
      ∙ ap (λ x. after_letter false Start (c ∷ v) v x k) (blank_sort b are.0)) (blanks-start bs c v k text are.1 f h)

  digits-end : (ds : List ℕ) (s : Stage) (w : List ℕ) (k : ℕ) (text : List ℕ) → ((x : ℕ) → sort_of x ≡ Figure → next_state s w k x ≡ at_stage s w k) → AllDigits 10 ds
      → EndsFrom s w k text → EndsFrom s w k (ds ++ text)
  digits-end [] s w k text keeps all h = h
  digits-end (d ∷ ds) s w k text keeps all h = step-ends s s w w k k d (ds ++ text) (keeps d (digit_sort d (digit_kind d all.0))) (digits-end ds s w k text keeps all.1 h)

  numeral-end : (ds : List ℕ) (s t : Stage) (w : List ℕ) (k j : ℕ) (text : List ℕ) → ((x : ℕ) → sort_of x ≡ Figure → next_state s w k x ≡ at_stage t w j)
      → ((x : ℕ) → sort_of x ≡ Figure → next_state t w j x ≡ at_stage t w j) → IsNumeral 10 ds → EndsFrom t w j text → EndsFrom s w k (ds ++ text)
  numeral-end [] s t w k j text begins keeps is h = absurd (let some : 0 < length {A = ℕ} [] = is.0 in omega arith)
  numeral-end (d ∷ ds) s t w k j text begins keeps is h = step-ends s t w w k j d (ds ++ text) (begins d (digit_sort d (digit_kind d is.1.0)))
      (digits-end ds t w j text keeps is.1.1 h)

  over-end : (d : Option PlacedNumber) (w : List ℕ) (k : ℕ) (text : List ℕ) → IfSome d (λ m. IsNumeral 10 m.digits) → EndsFrom Numerator w k text
      → EndsFrom Denominator w k text → EndsFrom Numerator w k (over_bytes d ++ text)
  over-end None w k text is h g = h
  over-end (Some d) w k text is h g = step-ends Numerator Over w w k k 47 (d.digits ++ text) refl
      (numeral-end d.digits Over Denominator w k k text (λ x e. ap (λ y. after_sort Over y w k) e) (λ x e. ap (λ y. after_sort Denominator y w k) e) is g)

  fraction-end : (q : WrittenQuotient) (run w : List ℕ) (k : ℕ) (text : List ℕ) → IsInBytes q run → EndsFrom Numerator w k text → EndsFrom Denominator w k text
      → EndsFrom Gap w (suc k) (run ++ text)
  fraction-end q run w k text b h g = subst (λ l. EndsFrom Gap w (suc k) (l ++ text)) (sym b.are) (signed q.sign)
    where
      later : EndsFrom Numerator w k (over_bytes q.denominator ++ text)
      later = over-end q.denominator w k text b.denominator h g

      unsigned : (s : Stage) (j : ℕ) → ((x : ℕ) → sort_of x ≡ Figure → next_state s w j x ≡ at_stage Numerator w k)
          → EndsFrom s w j ((q.numerator.digits ++ over_bytes q.denominator) ++ text)
      unsigned s j begins = subst (EndsFrom s w j) (sym (append_assoc q.numerator.digits (over_bytes q.denominator) text))
          (numeral-end q.numerator.digits s Numerator w j k (over_bytes q.denominator ++ text) begins (λ x e. ap (λ y. after_sort Numerator y w k) e) b.numerator later)

      sign_is : (p : Bool) → sort_of (sign_byte p) ≡ Sign
      sign_is true = refl
      sign_is false = refl

      signed : (s : Option Bool) → EndsFrom Gap w (suc k) ((sign_bytes s ++ (q.numerator.digits ++ over_bytes q.denominator)) ++ text)
      signed None = unsigned Gap (suc k) (λ x e. ap (λ y. after_sort Gap y w (suc k)) e)
      signed (Some p) = step-ends Gap Signed w w (suc k) k (sign_byte p) ((q.numerator.digits ++ over_bytes q.denominator) ++ text)
          (ap (λ y. after_sort Gap y w (suc k)) (sign_is p)) (unsigned Signed k (λ x e. ap (λ y. after_sort Signed y w k) e))

  gap-end : (bs : List ℕ) (w : List ℕ) (k : ℕ) (text : List ℕ) → AreBlanks bs → EndsFrom Gap w k text → EndsFrom Gap w k (bs ++ text)
  gap-end [] w k text are h = h
  gap-end (b ∷ bs) w k text are h = step-ends Gap Gap w w k k b (bs ++ text) ((rests_gap w).space k b (blank_sort b are.0)) (gap-end bs w k text are.1 h)

  some_blanks-end : (bs : List ℕ) (s : Stage) (w : List ℕ) (k : ℕ) (text : List ℕ) → Rests s w → AreBlanks bs → 0 < length bs → EndsFrom Gap w k text
      → EndsFrom s w k (bs ++ text)
  some_blanks-end [] s w k text r are some h = absurd (let f : 0 < length {A = ℕ} [] = some in omega arith)
  some_blanks-end (b ∷ bs) s w k text r are some h = step-ends s Gap w w k k b (bs ++ text) (r.space k b (blank_sort b are.0)) (gap-end bs w k text are.1 h)

  written-end : (qs : List WrittenQuotient) (at : ℕ) (s : Stage) (w text : List ℕ) → Rests s w → AreWritten at qs text → EndsFrom s w (length qs) text
  written-end [] at s w text r h = blanks-end s w text r h
  written-end (q ∷ qs) at s w text r h = subst (EndsFrom s w (suc (length qs))) (sym h.joins)
      (some_blanks-end h.blanks s w (suc (length qs)) (h.run ++ h.rest) r h.are_blanks h.some
      (fraction-end q h.run w (length qs) h.rest (quotient-bytes q (at + length h.blanks) h.run h.no_blank h.spelled)
      (written-end qs (at + length h.blanks + length h.run) Numerator w h.rest (rests_numerator w) h.is_rest)
      (written-end qs (at + length h.blanks + length h.run) Denominator w h.rest (rests_denominator w) h.is_rest)))

  lines-end : (v : List ℕ) → IsWord v → (line : List ℕ) → IsLine v n line → EndsFrom Start v n line
  lines-end [] f line h = absurd f
  lines-end (c ∷ v) f line h =
      let sp = h.spells in
      subst (EndsFrom Start (c ∷ v) n) (sym sp.joins) (blanks-start sp.blanks c v n (c ∷ (v ++ sp.behind)) sp.are_blanks f
      (start-end c v n sp.behind (subst (λ k. EndsFrom Word [] k sp.behind) sp.count
      (written-end h.quotients (length sp.blanks + length (c ∷ v)) Word [] sp.behind rests_word sp.are))))

  ending : Stage → List ℕ → ℕ → List ℕ
  ending Start w k = w ++ zeros k
  ending Word w k = w ++ zeros k
  ending Gap w k = zeros k
  ending Signed w k = 48 ∷ zeros k
  ending Numerator w k = zeros k
  ending Over w k = 48 ∷ zeros k
  ending Denominator w k = zeros k

  completes : (s : Stage) (w : List ℕ) (k : ℕ) → EndsFrom s w k (ending s w k)
  unfolding ending
  completes Start [] k = zeros-end k Start [] rests_start
  completes Start (c ∷ v) k = start-end c v k (zeros k) (zeros-end k Word [] rests_word)
  completes Word w k = word-end w k (zeros k) (zeros-end k Word [] rests_word)
  completes Gap w k = zeros-end k Gap w (rests_gap w)
  completes Signed w k = step-ends Signed Numerator w w k k 48 (zeros k) refl (zeros-end k Numerator w (rests_numerator w))
  completes Numerator w k = zeros-end k Numerator w (rests_numerator w)
  completes Over w k = step-ends Over Denominator w w k k 48 (zeros k) refl (zeros-end k Denominator w (rests_denominator w))
  completes Denominator w k = zeros-end k Denominator w (rests_denominator w)

-- What a text that ends is, from each state.

record Tail (k at : ℕ) (text : List ℕ) : Type 0 where
  pub quotients : List WrittenQuotient
  pub count : length quotients ≡ k
  pub are : AreWritten at quotients text

-- digits as P says, and what follows a denominator
record DenominatorTail (P : List ℕ → Type 0) (k at : ℕ) (text : List ℕ) : Type 0 where
  pub figures : List ℕ
  pub rest : List ℕ
  pub is : P figures
  pub joins : text ≡ figures ++ rest
  pub tail : Tail k (at + length figures) rest

-- digits as P says, perhaps a slash and a denominator, and what follows
record NumeratorTail (P : List ℕ → Type 0) (k at : ℕ) (text : List ℕ) : Type 0 where
  pub figures : List ℕ
  pub over : Option (List ℕ)
  pub rest : List ℕ
  pub is : P figures
  pub is_over : IfSome over (λ es. IsNumeral 10 es)
  pub joins : text ≡ figures ++ (over_part over ++ rest)
  pub tail : Tail k (at + length figures + length (over_part over)) rest

record WordTail (w : List ℕ) (k at : ℕ) (text : List ℕ) : Type 0 where
  pub behind : List ℕ
  pub joins : text ≡ w ++ behind
  pub tail : Tail k (at + length w) behind

record StartTail (w : List ℕ) (k at : ℕ) (text : List ℕ) : Type 0 where
  pub blanks : List ℕ
  pub behind : List ℕ
  pub are_blanks : AreBlanks blanks
  pub joins : text ≡ blanks ++ (w ++ behind)
  pub tail : Tail k (at + length blanks + length w) behind

abbrev DescribedAt : Stage → List ℕ → ℕ → List ℕ → Type 0
DescribedAt Start w k text = (at : ℕ) → StartTail w k at text
DescribedAt Word w k text = (at : ℕ) → WordTail w k at text
DescribedAt Gap w k text = (at b : ℕ) → kind_of b ≡ Blank → Tail k at (b ∷ text)
DescribedAt Signed w k text = (at : ℕ) → NumeratorTail (IsNumeral 10) k at text
DescribedAt Numerator w k text = (at : ℕ) → NumeratorTail (AllDigits 10) k at text
DescribedAt Over w k text = (at : ℕ) → DenominatorTail (IsNumeral 10) k at text
DescribedAt Denominator w k text = (at : ℕ) → DenominatorTail (AllDigits 10) k at text

abbrev Described : State → List ℕ → Type 0
Described s text = DescribedAt s.stage s.word s.left text

tail-at : (k m n : ℕ) (text : List ℕ) → m ≡ n → Tail k m text → Tail k n text
tail-at k m n text e h = subst (λ p. Tail k p text) e h

no_tail : (at : ℕ) → Tail 0 at []
no_tail at = record { quotients = []; count = refl; are = tt }

written-at : (m n : ℕ) (qs : List WrittenQuotient) (text : List ℕ) → m ≡ n → AreWritten m qs text → AreWritten n qs text
written-at m n qs text e h = subst (λ p. AreWritten p qs text) e h

blank-written : (qs : List WrittenQuotient) (at b : ℕ) (text : List ℕ) → kind_of b ≡ Blank → AreWritten (at + 1) qs text → AreWritten at qs (b ∷ text)
blank-written [] at b text e h = (e, h)
blank-written (q ∷ qs) at b text e h = record {
  blanks = b ∷ h.blanks;
  run = h.run;
  rest = h.rest;
  are_blanks = (e, h.are_blanks);
  some = omega arith;
  joins = ap (λ l. b ∷ l) h.joins;
  spelled = subst (λ p. AreSpelled p (quotient_tokens q) h.run) (let f : at + 1 + length h.blanks ≡ at + length (b ∷ h.blanks) = omega arith in f) h.spelled;
  no_blank = h.no_blank;
  is_rest = written-at (at + 1 + length h.blanks + length h.run) (at + length (b ∷ h.blanks) + length h.run) qs h.rest (omega arith) h.is_rest;
}

blank-tail : (k at b : ℕ) (text : List ℕ) → kind_of b ≡ Blank → Tail k (at + 1) text → Tail k at (b ∷ text)
blank-tail k at b text e h = record { quotients = h.quotients; count = h.count; are = blank-written h.quotients at b text e h.are }

-- a blank, a fraction and what follows it
fraction-tail : (k at b : ℕ) (s : Option Bool) (ds : List ℕ) (over : Option (List ℕ)) (text rest : List ℕ) → kind_of b ≡ Blank → IsNumeral 10 ds
    → IfSome over (λ es. IsNumeral 10 es) → text ≡ sign_bytes s ++ (ds ++ (over_part over ++ rest))
    → Tail k (at + 1 + length (sign_bytes s ++ (ds ++ over_part over))) rest → Tail (suc k) at (b ∷ text)
fraction-tail k at b s ds over text rest e is h joins t = record {
  quotients = placed (at + 1) s ds over ∷ t.quotients;
  count = ap suc t.count;
  are = record {
    blanks = b ∷ [];
    run = sign_bytes s ++ (ds ++ over_part over);
    rest = rest;
    are_blanks = (e, tt);
    some = omega arith;
    joins = ap (λ l. b ∷ l) (joins ∙ ap (λ l. sign_bytes s ++ l) (sym (append_assoc ds (over_part over) rest)) ∙ sym (append_assoc (sign_bytes s) (ds ++ over_part over) rest));
    spelled = placed-spelled (at + 1) s ds over is h;
    no_blank = placed-no_blank s ds over is h;
    is_rest = t.are;
  };
}

first_true : (a b : Bool) → a && b ≡ true → a ≡ true
first_true true b h = refl
first_true false b h = absurd (let f : false ≡ true = h in cc)

described-end : (s : Stage) (w : List ℕ) (k : ℕ) → nat_eq k 0 && is_whole s w ≡ true → DescribedAt s w k []
described-end s w (suc k) h = absurd (let e : suc k ≡ 0 = same (suc k) 0 (first_true (nat_eq (suc k) 0) (is_whole s w) h) in omega (arith, e))
described-end Start [] zero h = λ at. record { blanks = []; behind = []; are_blanks = tt; joins = refl; tail = no_tail (at + 0 + 0) }
described-end Start (x ∷ xs) zero h = absurd (let f : false ≡ true = h in cc)
described-end Word [] zero h = λ at. record { behind = []; joins = refl; tail = no_tail (at + 0) }
described-end Word (x ∷ xs) zero h = absurd (let f : false ≡ true = h in cc)
described-end Gap w zero h = λ at b e. record { quotients = []; count = refl; are = (e, tt) }
described-end Signed w zero h = absurd (let f : false ≡ true = h in cc)
described-end Numerator w zero h = λ at. record { figures = []; over = None; rest = []; is = tt; is_over = tt; joins = refl; tail = no_tail (at + 0 + 0) }
described-end Over w zero h = absurd (let f : false ≡ true = h in cc)
described-end Denominator w zero h = λ at. record { figures = []; rest = []; is = tt; joins = refl; tail = no_tail (at + 0) }

-- one byte more

sign-tail : (k c : ℕ) (xs : List ℕ) → (c ≡ 43) ⊎ (c ≡ 45) → DescribedAt Signed [] k xs → DescribedAt Gap [] (suc k) (c ∷ xs)
sign-tail k c xs is d = λ at b e. let t = d (at + 1 + 1) in
    elim is [ inl p ↦ of_sign at b e false p t | inr p ↦ of_sign at b e true p t ]
  where
    of_sign : (at b : ℕ) → kind_of b ≡ Blank → (negative : Bool) → c ≡ sign_byte negative → NumeratorTail (IsNumeral 10) k (at + 1 + 1) xs → Tail (suc k) at (b ∷ c ∷ xs)
    of_sign at b e negative p t = fraction-tail k at b (Some negative) t.figures t.over (c ∷ xs) t.rest e t.is t.is_over
        (ap (λ d. d ∷ xs) p ∙ ap (λ l. sign_byte negative ∷ l) t.joins)
        (tail-at k (at + 1 + 1 + length t.figures + length (over_part t.over)) (at + 1 + length (sign_bytes (Some negative) ++ (t.figures ++ over_part t.over))) t.rest
        (let f = length-append t.figures (over_part t.over) in omega (arith, f)) t.tail)

figure-tail : (k c : ℕ) (xs : List ℕ) → kind_of c ≡ Digit → DescribedAt Numerator [] k xs → DescribedAt Gap [] (suc k) (c ∷ xs)
figure-tail k c xs is d = λ at b e. let t = d (at + 1 + 1) in
    fraction-tail k at b None (c ∷ t.figures) t.over (c ∷ xs) t.rest e (omega arith, (kind_digit c is, t.is)) t.is_over
    (ap (λ l. c ∷ l) t.joins)
    (tail-at k (at + 1 + 1 + length t.figures + length (over_part t.over)) (at + 1 + length (c ∷ (t.figures ++ over_part t.over))) t.rest
    (let f = length-append t.figures (over_part t.over) in omega (arith, f)) t.tail)

more-figure : (P : List ℕ → Type 0) (k c : ℕ) (xs : List ℕ) → ((ds : List ℕ) → AllDigits 10 ds → P (c ∷ ds)) → DescribedAt Numerator [] k xs → (at : ℕ) → NumeratorTail P k at (c ∷ xs)
more-figure P k c xs f d at = let t = d (at + 1) in record {
  figures = c ∷ t.figures;
  over = t.over;
  rest = t.rest;
  is = f t.figures t.is;
  is_over = t.is_over;
  joins = ap (λ l. c ∷ l) t.joins;
  tail = tail-at k (at + 1 + length t.figures + length (over_part t.over)) (at + length (c ∷ t.figures) + length (over_part t.over)) t.rest (omega arith) t.tail;
}

more-denominator : (P : List ℕ → Type 0) (k c : ℕ) (xs : List ℕ) → ((ds : List ℕ) → AllDigits 10 ds → P (c ∷ ds)) → DescribedAt Denominator [] k xs → (at : ℕ) → DenominatorTail P k at (c ∷ xs)
more-denominator P k c xs f d at = let t = d (at + 1) in record {
  figures = c ∷ t.figures;
  rest = t.rest;
  is = f t.figures t.is;
  joins = ap (λ l. c ∷ l) t.joins;
  tail = tail-at k (at + 1 + length t.figures) (at + length (c ∷ t.figures)) t.rest (omega arith) t.tail;
}

slash-tail : (k c : ℕ) (xs : List ℕ) → c ≡ 47 → DescribedAt Over [] k xs → DescribedAt Numerator [] k (c ∷ xs)
slash-tail k c xs e d = λ at. let t = d (at + 1) in record {
  figures = [];
  over = Some t.figures;
  rest = t.rest;
  is = tt;
  is_over = t.is;
  joins = ap (λ b. b ∷ xs) e ∙ ap (λ l. 47 ∷ l) t.joins;
  tail = tail-at k (at + 1 + length t.figures) (at + 0 + length (47 ∷ t.figures)) t.rest (omega arith) t.tail;
}

abbrev More : Stage → ℕ → ℕ → List ℕ → Option State → Type 0
More s k c xs o = IfSome o (λ t. Described t xs → DescribedAt s [] k (c ∷ xs))

sort-more : (s : Stage) (x : Sort) (w : List ℕ) (k c : ℕ) (xs : List ℕ) → IsOfSort x c → More s k c xs (after_sort s x w k)
sort-more Gap Sign w zero c xs is = tt
sort-more Gap Sign w (suc k) c xs is = sign-tail k c xs is
sort-more Gap Figure w zero c xs is = tt
sort-more Gap Figure w (suc k) c xs is = figure-tail k c xs is
sort-more Signed Figure w k c xs is = more-figure (IsNumeral 10) k c xs (λ ds all. (omega arith, (kind_digit c is, all)))
sort-more Numerator Figure w k c xs is = more-figure (AllDigits 10) k c xs (λ ds all. (kind_digit c is, all))
sort-more Numerator Slash w k c xs is = slash-tail k c xs is
sort-more Over Figure w k c xs is = more-denominator (IsNumeral 10) k c xs (λ ds all. (omega arith, (kind_digit c is, all)))
sort-more Denominator Figure w k c xs is = more-denominator (AllDigits 10) k c xs (λ ds all. (kind_digit c is, all))
sort-more Start Space w k c xs is = λ d at. record { blanks = []; behind = c ∷ xs; are_blanks = tt; joins = refl; tail = d (at + 0 + 0) c is }
sort-more Word Space w k c xs is = λ d at. record { behind = c ∷ xs; joins = refl; tail = d (at + 0) c is }
sort-more Gap Space w k c xs is = λ d at b e. blank-tail k at b (c ∷ xs) e (d (at + 1) c is)
sort-more Numerator Space w k c xs is = λ d at. record { figures = []; over = None; rest = c ∷ xs; is = tt; is_over = tt; joins = refl; tail = d (at + 0 + 0) c is }
sort-more Denominator Space w k c xs is = λ d at. record { figures = []; rest = c ∷ xs; is = tt; joins = refl; tail = d (at + 0) c is }
sort-more Start x w k c xs is = tt
sort-more Word x w k c xs is = tt
sort-more Gap x w k c xs is = tt
sort-more Signed x w k c xs is = tt
sort-more Numerator x w k c xs is = tt
sort-more Over x w k c xs is = tt
sort-more Denominator x w k c xs is = tt

letter-word : (x c k : ℕ) (v xs : List ℕ) → x ≡ c → DescribedAt Word v k xs → DescribedAt Word (x ∷ v) k (c ∷ xs)
letter-word x c k v xs e d = λ at. let t = d (at + 1) in record {
  behind = t.behind;
  joins = ap (λ b. b ∷ xs) (sym e) ∙ ap (λ l. x ∷ l) t.joins;
  tail = tail-at k (at + 1 + length v) (at + length (x ∷ v)) t.behind (omega arith) t.tail;
}

letter-start : (x c k : ℕ) (v xs : List ℕ) → x ≡ c → DescribedAt Word v k xs → DescribedAt Start (x ∷ v) k (c ∷ xs)
letter-start x c k v xs e d = λ at. let t = d (at + 1) in record {
  blanks = [];
  behind = t.behind;
  are_blanks = tt;
  joins = ap (λ b. b ∷ xs) (sym e) ∙ ap (λ l. x ∷ l) t.joins;
  tail = tail-at k (at + 1 + length v) (at + 0 + length (x ∷ v)) t.behind (omega arith) t.tail;
}

blank-start : (c k : ℕ) (w xs : List ℕ) → kind_of c ≡ Blank → DescribedAt Start w k xs → DescribedAt Start w k (c ∷ xs)
blank-start c k w xs e d = λ at. let t = d (at + 1) in record {
  blanks = c ∷ t.blanks;
  behind = t.behind;
  are_blanks = (e, t.are_blanks);
  joins = ap (λ l. c ∷ l) t.joins;
  tail = tail-at k (at + 1 + length t.blanks + length w) (at + length (c ∷ t.blanks) + length w) t.behind (omega arith) t.tail;
}

start-more : (b : Bool) (y : Sort) (x c k : ℕ) (v xs : List ℕ) → nat_eq x c ≡ b → IsOfSort y c
    → IfSome (after_letter b Start (x ∷ v) v y k) (λ t. Described t xs → DescribedAt Start (x ∷ v) k (c ∷ xs))
start-more true y x c k v xs e is = letter-start x c k v xs (same x c e)
start-more false Space x c k v xs e is = blank-start c k (x ∷ v) xs is
start-more false Figure x c k v xs e is = tt
start-more false Sign x c k v xs e is = tt
start-more false Slash x c k v xs e is = tt
start-more false Other x c k v xs e is = tt

word-more : (b : Bool) (y : Sort) (x c k : ℕ) (v xs : List ℕ) → nat_eq x c ≡ b
    → IfSome (after_letter b Word (x ∷ v) v y k) (λ t. Described t xs → DescribedAt Word (x ∷ v) k (c ∷ xs))
word-more true y x c k v xs e = letter-word x c k v xs (same x c e)
word-more false y x c k v xs e = tt

byte-more : (s : Stage) (w : List ℕ) (k c : ℕ) (xs : List ℕ) → IfSome (next_state s w k c) (λ t. Described t xs → DescribedAt s w k (c ∷ xs))
byte-more Start [] k c xs = sort-more Start (sort_of c) [] k c xs (sort_is c)
byte-more Start (x ∷ v) k c xs = start-more (nat_eq x c) (sort_of c) x c k v xs refl (sort_is c)
byte-more Word [] k c xs = sort-more Word (sort_of c) [] k c xs (sort_is c)
byte-more Word (x ∷ v) k c xs = word-more (nat_eq x c) (sort_of c) x c k v xs refl
byte-more Gap w k c xs = sort-more Gap (sort_of c) w k c xs (sort_is c)
byte-more Signed w k c xs = sort-more Signed (sort_of c) w k c xs (sort_is c)
byte-more Numerator w k c xs = sort-more Numerator (sort_of c) w k c xs (sort_is c)
byte-more Over w k c xs = sort-more Over (sort_of c) w k c xs (sort_is c)
byte-more Denominator w k c xs = sort-more Denominator (sort_of c) w k c xs (sort_is c)

if_some-at : (o : Option State) (P : State → Type 0) (s : State) → o ≡ Some s → IfSome o P → P s
if_some-at o P s e h = let Q : Option State → Type 0 = λ u. IfSome u P in subst Q e h

described-step : (s t : State) (c : ℕ) (xs : List ℕ) → next_state s.stage s.word s.left c ≡ Some t → Described t xs → Described s (c ∷ xs)
described-step s t c xs e = if_some-at (next_state s.stage s.word s.left c) (λ u. Described u xs → Described s (c ∷ xs)) t e (byte-more s.stage s.word s.left c xs)

lines-only : (word : List ℕ) (n : ℕ) (line : List ℕ) → Ends (line_recogniser word n) (record { stage = Start; word = word; left = n }) line → IsLine word n line
lines-only word n line h =
    let t = ends-described (line_recogniser word n) Described (λ s. described-end s.stage s.word s.left) described-step line (record { stage = Start; word = word; left = n }) h 0 in
    record {
      quotients = t.tail.quotients;
      spells = record {
        count = t.tail.count;
        blanks = t.blanks;
        behind = t.behind;
        are_blanks = t.are_blanks;
        joins = t.joins;
        are = written-at (0 + length t.blanks + length word) (length t.blanks + length word) t.tail.quotients t.behind (omega arith) t.tail.are;
      };
    }

pub line_recognises : (word : List ℕ) (n : ℕ) → IsWord word → Recognises (line_recogniser word n) (IsLine word n)
line_recognises word n f = record {
  ends = λ line h. lines-end word n word f line h;
  only = λ line h. lines-only word n line h;
  rest = λ s. ending word n s.stage s.word s.left;
  completes = λ s. completes word n s.stage s.word s.left;
}
