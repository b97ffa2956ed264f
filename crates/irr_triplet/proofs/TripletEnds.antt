-- From a front of a triplet's text to an end.
--   EndsFrom f ts        the tokens ts lead from the front f to an end
--   IsTailEnd q p ts     ts leads to an end from each front where the component p may end, in the quotes q
--   comma-first, comma-second, closing-tail     such are a comma and what follows it, and the closing quote
--   Opens q p u a        a front where a term begins
--   term-ends            a term leads from there to what follows it
--   LaterEnds            so do terms that fit, behind a term and behind a number
--   component-ends       a component leads from its start to what follows it
--   quote-ends           and so from the front before all, with its quote
--   ending, completes    tokens that complete a front
use Rattle.std.proofs.Common.{◌≡◌, refl, sym, ◌∙◌, ap, subst, Bool, true, false, List, [], ◌∷◌, ◌++◌, append_assoc, ℕ, ◌+◌, Option, None, Some, if◌then◌else◌, ◌||◌, ◌&&◌, not}
use Rattle.std.specs.Option.{option_or}
use Rattle.irr_grammar.proofs.Recognisers.{Ends, state_after, ends-step}
use Rattle.irr_token.specs.Token.{PlacedNumber, Token, Symbol, symbol_of}
use Rattle.irr_token.specs.Token.Token.{number, mark}
use Rattle.irr_token.specs.Token.Symbol.{digits, byte}
use Rattle.irr_token.specs.Quotient.{sign_byte, sign_tokens}
use Rattle.irr_token.proofs.Lexing.{tokens_of, plain_tokens, ends-head}
use Rattle.irr_triplet.specs.declared.term.Letter.{Letter as Coordinate}
use Rattle.irr_triplet.specs.declared.term.Letter.TheVariants as letters
use Rattle.irr_triplet.specs.declared.shape.Slot.{Slot}
use Rattle.irr_triplet.specs.declared.shape.Slot.TheVariants.{X, Y, Z, Constant}
use Rattle.irr_triplet.specs.declared.shape.Sort.{Sort}
use Rattle.irr_triplet.specs.declared.shape.Sort.TheVariants.{Number, Sign, Slash, Comma, Single, Double, Letter, Other}
use Rattle.irr_triplet.specs.declared.shape.Quote.{Quote}
use Rattle.irr_triplet.specs.declared.shape.Quote.TheVariants.{Unquoted, InSingle, InDouble}
use Rattle.irr_triplet.specs.declared.shape.Part.{Part}
use Rattle.irr_triplet.specs.declared.shape.Part.TheVariants.{First, Second, Third}
use Rattle.irr_triplet.specs.declared.shape.Used.{Used}
use Rattle.irr_triplet.specs.declared.shape.At.{At}
use Rattle.irr_triplet.specs.declared.shape.At.TheVariants.{Start, Signed, Coefficient, Over, Behind}
use Rattle.irr_triplet.specs.declared.shape.Front.{Front}
use Rattle.irr_triplet.specs.declared.shape.Front.TheVariants.{Before, Within, Closed}
use Rattle.irr_triplet.specs.Letters.{letter_byte}
use Rattle.irr_triplet.specs.WrittenTriplet.{Body, upper_byte, body_tokens, letter_slot, slot_of, Term, WrittenComponent, later_tokens, component_tokens, IsComponent}
use Rattle.irr_triplet.specs.WrittenTriplet.Body.{lettered as lettered_term, constant as constant_term}
use Rattle.irr_triplet.specs.TripletFront.{sort_of, is_used, with_slot, is_full, unused, lettered, signed, next_at, ended, behind, opening, next_within, next_front, ends_triplet}
use Rattle.irr_triplet.proofs.UsedSlots.{Fits, component-fits, not-full, unused-free}
use Rattle.irr_triplet.proofs.TripletScanner.{symbol_sort, is_live, triplet_scanner, IsInner, next-within}
use Rattle.irr_triplet.proofs.TripletFollows.{closing}

abbrev pub EndsFrom : Front → List Token → Type 0
EndsFrom f ts = Ends (tokens_of triplet_scanner) f ts

abbrev token_sort : Token → Sort
token_sort t = symbol_sort (symbol_of t)

step : (f g : Front) (t : Token) (ts : List Token) → next_front f (token_sort t) ≡ Some g → EndsFrom g ts → EndsFrom f (t ∷ ts)
step f g t ts e h = ends-step (tokens_of triplet_scanner) t ts f g e h

inner : (q : Quote) (p : Part) (u : Used) (a : At) (g : Front) (t : Token) (ts : List Token) → IsInner (token_sort t) → next_at q p u a (token_sort t) ≡ Some g → EndsFrom g ts → EndsFrom (Within q p u a) (t ∷ ts)
inner q p u a g t ts i e h = step (Within q p u a) g t ts (next-within q p u a (token_sort t) i ∙ e) h

-- What stands behind a component.

abbrev pub IsTailEnd : Quote → Part → List Token → Type 0
IsTailEnd q p ts = (u : Used) (a : At) → ended u a ≡ true → EndsFrom (Within q p u a) ts

tail_step : (q : Quote) (p : Part) (g : Front) (t : Token) (ts : List Token) → behind q p (token_sort t) ≡ Some g → EndsFrom g ts → IsTailEnd q p (t ∷ ts)
tail_step q p g t ts e h u a end = step (Within q p u a) g t ts (ended_then (ended u a) (behind q p (token_sort t)) (next_at q p u a (token_sort t)) end e) h
  where
    ended_then : (b : Bool) (o x : Option Front) → b ≡ true → o ≡ Some g → (if b then option_or o x else x) ≡ Some g
    ended_then true o x b f = ap (λ l. option_or l x) f
    ended_then false o x b f = absurd (cc)

pub comma-first : (q : Quote) (ts : List Token) → EndsFrom (Within q Second unused Start) ts → IsTailEnd q First (mark 44 ∷ ts)
comma-first Unquoted ts h = tail_step Unquoted First (Within Unquoted Second unused Start) (mark 44) ts refl h
comma-first InSingle ts h = tail_step InSingle First (Within InSingle Second unused Start) (mark 44) ts refl h
comma-first InDouble ts h = tail_step InDouble First (Within InDouble Second unused Start) (mark 44) ts refl h

pub comma-second : (q : Quote) (ts : List Token) → EndsFrom (Within q Third unused Start) ts → IsTailEnd q Second (mark 44 ∷ ts)
comma-second Unquoted ts h = tail_step Unquoted Second (Within Unquoted Third unused Start) (mark 44) ts refl h
comma-second InSingle ts h = tail_step InSingle Second (Within InSingle Third unused Start) (mark 44) ts refl h
comma-second InDouble ts h = tail_step InDouble Second (Within InDouble Third unused Start) (mark 44) ts refl h

closed : EndsFrom Closed []
unfolding state_after
closed = record { last = Closed; leads = refl; is_end = refl }

pub closing-tail : (q : Quote) → IsTailEnd q Third (closing q)
unfolding state_after
closing-tail Unquoted = λ u a e. record { last = Within Unquoted Third u a; leads = refl; is_end = ap (λ b. b || not (is_live (Within Unquoted Third u a))) e }
closing-tail InSingle = tail_step InSingle Third Closed (mark 39) [] refl closed
closing-tail InDouble = tail_step InDouble Third Closed (mark 34) [] refl closed

-- A component.

letter-sort : (l : Coordinate) (upper : Bool) → sort_of (if upper then upper_byte l else letter_byte l) ≡ Letter (letter_slot l)
letter-sort letters.X true = refl
letter-sort letters.X false = refl
letter-sort letters.Y true = refl
letter-sort letters.Y false = refl
letter-sort letters.Z true = refl
letter-sort letters.Z false = refl

-- a front where a term begins
record Opens (q : Quote) (p : Part) (u : Used) (a : At) : Type 0 where
  pub by_number : next_at q p u a Number ≡ Some (Within q p u Coefficient)
  pub by_letter : (s : Slot) → next_at q p u a (Letter s) ≡ lettered q p u s

opens-start : (q : Quote) (p : Part) (u : Used) → Opens q p u Start
opens-start q p u = record { by_number = refl; by_letter = λ s. refl }

opens-signed : (q : Quote) (p : Part) (u : Used) → Opens q p u Signed
opens-signed q p u = record { by_number = refl; by_letter = λ s. refl }

letter-ends : (q : Quote) (p : Part) (u : Used) (a : At) (l : Coordinate) (upper : Bool) (ts : List Token) → next_at q p u a (Letter (letter_slot l)) ≡ lettered q p u (letter_slot l)
    → is_used u (letter_slot l) ≡ false → EndsFrom (Within q p (with_slot u (letter_slot l)) Behind) ts → EndsFrom (Within q p u a) (mark (if upper then upper_byte l else letter_byte l) ∷ ts)
letter-ends q p u a l upper ts e f h = inner q p u a (Within q p (with_slot u (letter_slot l)) Behind) (mark (if upper then upper_byte l else letter_byte l)) ts
    (subst IsInner (sym (letter-sort l upper)) tt)
    (ap (next_at q p u a) (letter-sort l upper) ∙ e ∙ ap (λ b. if b then None else Some (Within q p (with_slot u (letter_slot l)) Behind)) f) h

over-ends : (q : Quote) (p : Part) (u : Used) (d : PlacedNumber) (ts : List Token) → u.constant ≡ false → EndsFrom (Within q p (with_slot u Constant) Behind) ts
    → EndsFrom (Within q p u Coefficient) (mark 47 ∷ number d ∷ ts)
over-ends q p u d ts f h = inner q p u Coefficient (Within q p (with_slot u Constant) Over) (mark 47) (number d ∷ ts) tt (ap (λ b. if b then None else Some (Within q p (with_slot u Constant) Over)) f)
    (inner q p (with_slot u Constant) Over (Within q p (with_slot u Constant) Behind) (number d) ts tt refl h)

term-ends : (q : Quote) (p : Part) (u : Used) (a : At) (b : Body) (ts : List Token) → Opens q p u a → is_used u (slot_of b) ≡ false → EndsFrom (Within q p (with_slot u (slot_of b)) Behind) ts
    → (slot_of b ≡ Constant → EndsFrom (Within q p u Coefficient) ts) → EndsFrom (Within q p u a) (body_tokens b ++ ts)
term-ends q p u a (lettered_term None upper l) ts o f h g = letter-ends q p u a l upper ts (o.by_letter (letter_slot l)) f h
term-ends q p u a (lettered_term (Some n) upper l) ts o f h g = inner q p u a (Within q p u Coefficient) (number n) (mark (if upper then upper_byte l else letter_byte l) ∷ ts) tt o.by_number
    (letter-ends q p u Coefficient l upper ts refl f h)
term-ends q p u a (constant_term n None) ts o f h g = inner q p u a (Within q p u Coefficient) (number n) ts tt o.by_number (g refl)
term-ends q p u a (constant_term n (Some d)) ts o f h g = inner q p u a (Within q p u Coefficient) (number n) (mark 47 ∷ number d ∷ ts) tt o.by_number (over-ends q p u d ts f h)

sign-sort : (b : Bool) → sort_of (sign_byte b) ≡ Sign
sign-sort true = refl
sign-sort false = refl

sign-ends : (q : Quote) (p : Part) (u : Used) (a : At) (g : Front) (negative : Bool) (ts : List Token) → next_at q p u a Sign ≡ Some g → EndsFrom g ts → EndsFrom (Within q p u a) (mark (sign_byte negative) ∷ ts)
sign-ends q p u a g negative ts e h = inner q p u a g (mark (sign_byte negative)) ts (subst IsInner (sym (sign-sort negative)) tt) (ap (next_at q p u a) (sign-sort negative) ∙ e) h

-- a term behind a sign, and terms behind it
one-more : (q : Quote) (p : Part) (u : Used) (t : Term) (ts rest : List Token) → is_used u (slot_of t.body) ≡ false → EndsFrom (Within q p (with_slot u (slot_of t.body)) Behind) (ts ++ rest)
    → (slot_of t.body ≡ Constant → EndsFrom (Within q p u Coefficient) (ts ++ rest)) → EndsFrom (Within q p u Signed) ((body_tokens t.body ++ ts) ++ rest)
one-more q p u t ts rest f h g = subst (EndsFrom (Within q p u Signed)) (sym (append_assoc (body_tokens t.body) ts rest)) (term-ends q p u Signed t.body (ts ++ rest) (opens-signed q p u) f h g)

signed-some : (q : Quote) (p : Part) (u : Used) (s : Slot) → is_used u s ≡ false → signed q p u ≡ Some (Within q p u Signed)
signed-some q p u s f = ap (λ b. if b then None else Some (Within q p u Signed)) (not-full u s f)

record LaterEnds (q : Quote) (p : Part) (rest : List Token) (u : Used) (later : List Term) : Type 0 where
  pub behind_term : Fits u later → EndsFrom (Within q p u Behind) (later_tokens later ++ rest)
  pub behind_number : u.constant ≡ false → Fits (with_slot u Constant) later → EndsFrom (Within q p u Coefficient) (later_tokens later ++ rest)

later-more : (q : Quote) (p : Part) (rest : List Token) (u : Used) (t : Term) (later : List Term) → ((v : Used) → LaterEnds q p rest v later) → Fits u (t ∷ later)
    → EndsFrom (Within q p u Signed) ((body_tokens t.body ++ later_tokens later) ++ rest)
later-more q p rest u t later h f = one-more q p u t (later_tokens later) rest f.0 ((h (with_slot u (slot_of t.body))).behind_term f.1)
    (λ e. (h u).behind_number (subst (λ s. is_used u s ≡ false) e f.0) (subst (λ s. Fits (with_slot u s) later) e f.1))

later-ends : (q : Quote) (p : Part) (rest : List Token) → IsTailEnd q p rest → (later : List Term) (u : Used) → LaterEnds q p rest u later
later-ends q p rest tail [] u = record { behind_term = λ _. tail u Behind refl; behind_number = λ e _. tail u Coefficient (ap not e) }
later-ends q p rest tail (t ∷ later) u = record {
  behind_term = λ f. sign-ends q p u Behind (Within q p u Signed) t.negative ((body_tokens t.body ++ later_tokens later) ++ rest) (signed-some q p u (slot_of t.body) f.0)
      (later-more q p rest u t later (later-ends q p rest tail later) f);
  behind_number = λ e f. sign-ends q p u Coefficient (Within q p (with_slot u Constant) Signed) t.negative ((body_tokens t.body ++ later_tokens later) ++ rest)
      (ap (λ b. if b then None else signed q p (with_slot u Constant)) e ∙ signed-some q p (with_slot u Constant) (slot_of t.body) f.0)
      (later-more q p rest (with_slot u Constant) t later (later-ends q p rest tail later) f);
}

pub component-ends : (q : Quote) (p : Part) (c : WrittenComponent) (rest : List Token) → IsComponent c → IsTailEnd q p rest → EndsFrom (Within q p unused Start) (component_tokens c ++ rest)
component-ends q p c rest is tail = signed_first c.sign
  where
    fits : Fits (with_slot unused (slot_of c.front)) c.later
    fits = component-fits c is

    term : (a : At) → Opens q p unused a → EndsFrom (Within q p unused a) ((body_tokens c.front ++ later_tokens c.later) ++ rest)
    term a o = subst (EndsFrom (Within q p unused a)) (sym (append_assoc (body_tokens c.front) (later_tokens c.later) rest))
        (term-ends q p unused a c.front (later_tokens c.later ++ rest) o (unused-free (slot_of c.front)) ((later-ends q p rest tail c.later (with_slot unused (slot_of c.front))).behind_term fits)
        (λ e. (later-ends q p rest tail c.later unused).behind_number refl (subst (λ s. Fits (with_slot unused s) c.later) e fits)))

    signed_first : (s : Option Bool) → EndsFrom (Within q p unused Start) ((sign_tokens s ++ (body_tokens c.front ++ later_tokens c.later)) ++ rest)
    signed_first None = term Start (opens-start q p unused)
    signed_first (Some negative) = sign-ends q p unused Start (Within q p unused Signed) negative ((body_tokens c.front ++ later_tokens c.later) ++ rest) refl (term Signed (opens-signed q p unused))

-- The first token: a quote, or a component's.

-- a token that begins a component leads there from the front before it too
begins-ends : (t : Token) (ts : List Token) → opening (token_sort t) ≡ next_within Unquoted First unused Start (token_sort t) → EndsFrom (Within Unquoted First unused Start) (t ∷ ts) → EndsFrom Before (t ∷ ts)
begins-ends t ts e h = let head = ends-head (tokens_of triplet_scanner) (Within Unquoted First unused Start) t ts h in step Before head.state t ts (e ∙ head.step) head.ends

first-token : (t : Token) (ts : List Token) → IsInner (token_sort t) → EndsFrom (Within Unquoted First unused Start) (t ∷ ts) → EndsFrom Before (t ∷ ts)
first-token t ts i h = begins-ends t ts (of_sort (token_sort t) i) h
  where
    of_sort : (s : Sort) → IsInner s → opening s ≡ next_within Unquoted First unused Start s
    of_sort Number j = refl
    of_sort Sign j = refl
    of_sort Slash j = refl
    of_sort (Letter s) j = refl
    of_sort Other j = refl
    of_sort Comma j = absurd j
    of_sort Single j = absurd j
    of_sort Double j = absurd j

first-body : (b : Body) (ts : List Token) → EndsFrom (Within Unquoted First unused Start) (body_tokens b ++ ts) → EndsFrom Before (body_tokens b ++ ts)
first-body (lettered_term None upper l) ts h = first-token (mark (if upper then upper_byte l else letter_byte l)) ts (subst IsInner (sym (letter-sort l upper)) tt) h
first-body (lettered_term (Some n) upper l) ts h = first-token (number n) (mark (if upper then upper_byte l else letter_byte l) ∷ ts) tt h
first-body (constant_term n None) ts h = first-token (number n) ts tt h
first-body (constant_term n (Some d)) ts h = first-token (number n) (mark 47 ∷ number d ∷ ts) tt h

first-component : (c : WrittenComponent) (rest : List Token) → EndsFrom (Within Unquoted First unused Start) (component_tokens c ++ rest) → EndsFrom Before (component_tokens c ++ rest)
first-component c rest h = of_sign c.sign h
  where
    of_sign : (s : Option Bool) → EndsFrom (Within Unquoted First unused Start) ((sign_tokens s ++ (body_tokens c.front ++ later_tokens c.later)) ++ rest)
        → EndsFrom Before ((sign_tokens s ++ (body_tokens c.front ++ later_tokens c.later)) ++ rest)
    of_sign None g = let same = append_assoc (body_tokens c.front) (later_tokens c.later) rest in
        subst (EndsFrom Before) (sym same) (first-body c.front (later_tokens c.later ++ rest) (subst (EndsFrom (Within Unquoted First unused Start)) same g))
    of_sign (Some negative) g = first-token (mark (sign_byte negative)) ((body_tokens c.front ++ later_tokens c.later) ++ rest) (subst IsInner (sym (sign-sort negative)) tt) g

pub quote-ends : (q : Quote) (c : WrittenComponent) (rest : List Token) → EndsFrom (Within q First unused Start) (component_tokens c ++ rest) → EndsFrom Before (closing q ++ (component_tokens c ++ rest))
quote-ends Unquoted c rest h = first-component c rest h
quote-ends InSingle c rest h = step Before (Within InSingle First unused Start) (mark 39) (component_tokens c ++ rest) refl h
quote-ends InDouble c rest h = step Before (Within InDouble First unused Start) (mark 34) (component_tokens c ++ rest) refl h

-- What completes a front.

closing_symbols : Quote → List Symbol
closing_symbols Unquoted = []
closing_symbols InSingle = byte 39 ∷ []
closing_symbols InDouble = byte 34 ∷ []

tail_symbols : Quote → Part → List Symbol
tail_symbols q Third = closing_symbols q
tail_symbols q Second = byte 44 ∷ byte 120 ∷ closing_symbols q
tail_symbols q First = byte 44 ∷ byte 120 ∷ byte 44 ∷ byte 120 ∷ closing_symbols q

-- behind a number: nothing where it may be a constant, else a letter that is left
letter_symbols : Used → List Symbol → List Symbol
letter_symbols u xs = if u.x then (if u.y then (if u.z then [] else byte 122 ∷ xs) else byte 121 ∷ xs) else byte 120 ∷ xs

number_symbols : Used → List Symbol → List Symbol
number_symbols u xs = if u.constant then letter_symbols u xs else xs

pub ending : Front → List Symbol
ending Before = byte 120 ∷ tail_symbols Unquoted First
ending (Within q p u Start) = digits ∷ number_symbols u (tail_symbols q p)
ending (Within q p u Signed) = digits ∷ number_symbols u (tail_symbols q p)
ending (Within q p u Coefficient) = number_symbols u (tail_symbols q p)
ending (Within q p u Over) = digits ∷ tail_symbols q p
ending (Within q p u Behind) = tail_symbols q p
ending Closed = []

closing-plain : (q : Quote) (at : ℕ) → plain_tokens at (closing_symbols q) ≡ closing q
unfolding closing_symbols
closing-plain Unquoted at = refl
closing-plain InSingle at = refl
closing-plain InDouble at = refl

closing-symbols : (q : Quote) (at : ℕ) → IsTailEnd q Third (plain_tokens at (closing_symbols q))
closing-symbols q at = subst (IsTailEnd q Third) (sym (closing-plain q at)) (closing-tail q)

-- the letter x as a component
x-ends : (q : Quote) (p : Part) (ts : List Token) → IsTailEnd q p ts → EndsFrom (Within q p unused Start) (mark 120 ∷ ts)
x-ends q p ts h = letter-ends q p unused Start letters.X false ts refl refl (h (with_slot unused X) Behind refl)

tail-symbols : (q : Quote) (p : Part) (at : ℕ) → IsTailEnd q p (plain_tokens at (tail_symbols q p))
unfolding tail_symbols
tail-symbols q Third at = closing-symbols q at
tail-symbols q Second at = comma-second q _ (x-ends q Third _ (closing-symbols q (at + 1 + 0 + 1 + 0)))
tail-symbols q First at = comma-first q _ (x-ends q Second _ (comma-second q _ (x-ends q Third _ (closing-symbols q (at + 1 + 0 + 1 + 0 + 1 + 0 + 1 + 0)))))

-- behind a number, where it is no constant: a front with no slot left is an end
letter-symbols : (q : Quote) (p : Part) (u : Used) (at : ℕ) → u.constant ≡ true → EndsFrom (Within q p u Coefficient) (plain_tokens at (letter_symbols u (tail_symbols q p)))
unfolding letter_symbols state_after
letter-symbols q p u at e = by_slots u.x u.y u.z refl refl refl
  where
    full : u.x ≡ true → u.y ≡ true → u.z ≡ true → is_full u ≡ true
    full x y z = ap (λ b. b && (u.y && (u.z && u.constant))) x ∙ ap (λ b. b && (u.z && u.constant)) y ∙ ap (λ b. b && u.constant) z ∙ e

    dead : (a b : Bool) → b ≡ true → a || not (not b) ≡ true
    dead true b f = refl
    dead false true f = refl
    dead false false f = absurd (cc)

    by_slots : (x y z : Bool) → u.x ≡ x → u.y ≡ y → u.z ≡ z
        → EndsFrom (Within q p u Coefficient) (plain_tokens at (if x then (if y then (if z then [] else byte 122 ∷ tail_symbols q p) else byte 121 ∷ tail_symbols q p) else byte 120 ∷ tail_symbols q p))
    by_slots false y z ex ey ez = letter-ends q p u Coefficient letters.X false _ refl ex (tail-symbols q p (at + 1 + 0) (with_slot u X) Behind refl)
    by_slots true false z ex ey ez = letter-ends q p u Coefficient letters.Y false _ refl ey (tail-symbols q p (at + 1 + 0) (with_slot u Y) Behind refl)
    by_slots true true false ex ey ez = letter-ends q p u Coefficient letters.Z false _ refl ez (tail-symbols q p (at + 1 + 0) (with_slot u Z) Behind refl)
    by_slots true true true ex ey ez = record { last = Within q p u Coefficient; leads = refl; is_end = dead (ends_triplet (Within q p u Coefficient)) (is_full u) (full ex ey ez) }

number-symbols : (q : Quote) (p : Part) (u : Used) (at : ℕ) → EndsFrom (Within q p u Coefficient) (plain_tokens at (number_symbols u (tail_symbols q p)))
unfolding number_symbols
number-symbols q p u at = by_constant u.constant refl
  where
    by_constant : (b : Bool) → u.constant ≡ b → EndsFrom (Within q p u Coefficient) (plain_tokens at (if b then letter_symbols u (tail_symbols q p) else tail_symbols q p))
    by_constant true e = letter-symbols q p u at e
    by_constant false e = tail-symbols q p at u Coefficient (ap not e)

pub completes : (f : Front) → EndsFrom f (plain_tokens 0 (ending f))
unfolding ending
completes Before = step Before (Within Unquoted First (with_slot unused X) Behind) (mark 120) _ refl (tail-symbols Unquoted First (0 + 1 + 0) (with_slot unused X) Behind refl)
completes (Within q p u Start) = inner q p u Start (Within q p u Coefficient) (number (record { place = 0; digits = 48 ∷ [] })) _ tt refl (number-symbols q p u (0 + 1 + 0))
completes (Within q p u Signed) = inner q p u Signed (Within q p u Coefficient) (number (record { place = 0; digits = 48 ∷ [] })) _ tt refl (number-symbols q p u (0 + 1 + 0))
completes (Within q p u Coefficient) = number-symbols q p u 0
completes (Within q p u Over) = inner q p u Over (Within q p u Behind) (number (record { place = 0; digits = 48 ∷ [] })) _ tt refl (tail-symbols q p (0 + 1 + 0) u Behind refl)
completes (Within q p u Behind) = tail-symbols q p 0 u Behind refl
completes Closed = closed
