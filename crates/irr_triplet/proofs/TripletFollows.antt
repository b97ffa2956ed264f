-- What may follow a front of a triplet's text.
--   AreTerms u P ts      ts is terms that fit behind the slots u, and then a list of P
--   IsTerm, IsOver, IsWhole u P ts      it is a term without its sign, the denominator of a constant, a component, then terms, then a list of P
--   IsInFront P ts       it is a component, and then a list of P
--   IsNext P ts          it is a comma, a component, and then a list of P
--   closing q            the closing quote
--   IsTail q p ts        it is what stands behind the component p in the quotes q
--   IsOpened ts          it is an opening quote or none, three components with commas between, and the closing quote
--   Described f ts       ts completes the front f
--   token-more           where a front leads to another by a token, what completes that one completes it with the token before
--   token-end            a front that a text completes and that is an end is completed by nothing
use Rattle.std.proofs.Common.{◌≡◌, refl, sym, ◌∙◌, ap, Bool, true, false, List, [], ◌∷◌, ◌++◌, append_assoc, ℕ, Option, None, Some, IfSome, if◌then◌else◌, ◌||◌, not, ◌⊎◌, inl, inr, subst}
use Rattle.irr_token.specs.Token.{PlacedNumber, Token}
use Rattle.irr_token.specs.Token.Token.{number, mark}
use Rattle.irr_token.specs.Quotient.{sign_byte, sign_tokens}
use Rattle.irr_token.proofs.Lexing.{tokens_of}
use Rattle.irr_triplet.specs.declared.term.Letter.{Letter as Coordinate}
use Rattle.irr_triplet.specs.declared.term.Letter.TheVariants as letters
use Rattle.irr_triplet.specs.declared.shape.Slot.{Slot}
use Rattle.irr_triplet.specs.declared.shape.Slot.TheVariants.{X, Y, Z, Constant}
use Rattle.irr_triplet.specs.declared.shape.Sort.{Sort}
use Rattle.irr_triplet.specs.declared.shape.Sort.TheVariants.{Number, Sign, Slash, Comma, Single, Double, Letter, Other}
use Rattle.irr_triplet.specs.declared.shape.Quote.{Quote}
use Rattle.irr_triplet.specs.declared.shape.Quote.TheVariants.{Unquoted, InSingle, InDouble}
use Rattle.irr_triplet.specs.declared.shape.Part.{Part}
use Rattle.irr_triplet.specs.declared.shape.Part.TheVariants.{First, Second, Third}
use Rattle.irr_triplet.specs.declared.shape.Used.{Used}
use Rattle.irr_triplet.specs.declared.shape.At.{At}
use Rattle.irr_triplet.specs.declared.shape.At.TheVariants.{Start, Signed, Coefficient, Over, Behind}
use Rattle.irr_triplet.specs.declared.shape.Front.{Front}
use Rattle.irr_triplet.specs.declared.shape.Front.TheVariants.{Before, Within, Closed}
use Rattle.irr_triplet.specs.Letters.{letter_byte}
use Rattle.irr_triplet.specs.WrittenTriplet.{Body, upper_byte, coefficient_tokens, body_tokens, letter_slot, slot_of, Term, WrittenComponent, later_tokens, component_tokens, IsComponent}
use Rattle.irr_triplet.specs.WrittenTriplet.Body.{lettered as lettered_term, constant as constant_term}
use Rattle.irr_triplet.specs.TripletFront.{sort_of, is_used, with_slot, is_full, unused, lettered, signed, signed_behind_number, next_at, ended, behind, opening, next_within, next_front, ends_triplet}
use Rattle.irr_triplet.proofs.UsedSlots.{Fits, fits-component}
use Rattle.irr_triplet.proofs.TripletScanner.{is_live, triplet_scanner, IsLetterByte, IsOfSort, sort_is, behind-none, unless, if_within, if_some-at}

pub record AreTerms (u : Used) (P : List Token → Type 0) (ts : List Token) : Type 0 where
  pub later : List Term
  pub fits : Fits u later
  pub rest : List Token
  pub tail : P rest
  pub are : ts ≡ later_tokens later ++ rest

pub record IsTerm (u : Used) (P : List Token → Type 0) (ts : List Token) : Type 0 where
  pub body : Body
  pub free : is_used u (slot_of body) ≡ false
  pub rest : List Token
  pub terms : AreTerms (with_slot u (slot_of body)) P rest
  pub are : ts ≡ body_tokens body ++ rest

pub record IsOver (u : Used) (P : List Token → Type 0) (ts : List Token) : Type 0 where
  pub denominator : PlacedNumber
  pub rest : List Token
  pub terms : AreTerms u P rest
  pub are : ts ≡ number denominator ∷ rest

pub record IsWhole (u : Used) (P : List Token → Type 0) (ts : List Token) : Type 0 where
  pub sign : Option Bool
  pub rest : List Token
  pub term : IsTerm u P rest
  pub are : ts ≡ sign_tokens sign ++ rest

pub record IsInFront (P : List Token → Type 0) (ts : List Token) : Type 0 where
  pub component : WrittenComponent
  pub is : IsComponent component
  pub rest : List Token
  pub tail : P rest
  pub are : ts ≡ component_tokens component ++ rest

pub record IsNext (P : List Token → Type 0) (ts : List Token) : Type 0 where
  pub behind : List Token
  pub next : IsInFront P behind
  pub are : ts ≡ mark 44 ∷ behind

abbrev pub closing : Quote → List Token
closing Unquoted = []
closing InSingle = mark 39 ∷ []
closing InDouble = mark 34 ∷ []

abbrev pub IsTail : Quote → Part → List Token → Type 0
IsTail q First ts = IsNext (λ l. IsNext (λ k. k ≡ closing q) l) ts
IsTail q Second ts = IsNext (λ k. k ≡ closing q) ts
IsTail q Third ts = ts ≡ closing q

pub record IsOpened (ts : List Token) : Type 0 where
  pub quote : Quote
  pub inner : List Token
  pub whole : IsInFront (IsTail quote First) inner
  pub are : ts ≡ closing quote ++ inner

pub record IsOpenedAt (ts : List Token) : Type 0 where
  pub quote : Quote
  pub inner : List Token
  pub whole : IsWhole unused (IsTail quote First) inner
  pub are : ts ≡ closing quote ++ inner

abbrev pub Described : Front → List Token → Type 0
Described Before ts = IsOpenedAt ts
Described (Within q p u Start) ts = IsWhole u (IsTail q p) ts
Described (Within q p u Signed) ts = IsTerm u (IsTail q p) ts
Described (Within q p u Coefficient) ts = (n : PlacedNumber) → IsTerm u (IsTail q p) (number n ∷ ts)
Described (Within q p u Over) ts = IsOver u (IsTail q p) ts
Described (Within q p u Behind) ts = AreTerms u (IsTail q p) ts
Described Closed ts = ts ≡ []

-- a component of terms that fit
whole-component : (P : List Token → Type 0) (ts : List Token) → IsWhole unused P ts → IsInFront P ts
whole-component P ts h = record {
  component = record { sign = h.sign; front = h.term.body; later = h.term.terms.later };
  is = fits-component (record { sign = h.sign; front = h.term.body; later = h.term.terms.later }) h.term.terms.fits;
  rest = h.term.terms.rest;
  tail = h.term.terms.tail;
  are = h.are ∙ ap (λ l. sign_tokens h.sign ++ l) (h.term.are ∙ ap (λ l. body_tokens h.term.body ++ l) h.term.terms.are)
      ∙ regroup (sign_tokens h.sign) (body_tokens h.term.body) (later_tokens h.term.terms.later) h.term.terms.rest;
}
  where
    regroup : (a b c d : List Token) → a ++ (b ++ (c ++ d)) ≡ (a ++ (b ++ c)) ++ d
    regroup a b c d = ap (λ l. a ++ l) (sym (append_assoc b c d)) ∙ sym (append_assoc a (b ++ c) d)

pub opened : (ts : List Token) → IsOpenedAt ts → IsOpened ts
opened ts h = record { quote = h.quote; inner = h.inner; whole = whole-component (IsTail h.quote First) h.inner h.whole; are = h.are }

next-more : (P : List Token → Type 0) (c : ℕ) (ts : List Token) → c ≡ 44 → IsWhole unused P ts → IsNext P (mark c ∷ ts)
next-more P c ts e h = record { behind = ts; next = whole-component P ts h; are = ap (λ d. mark d ∷ ts) e }

close-more : (c n : ℕ) (ts : List Token) → c ≡ n → ts ≡ [] → mark c ∷ ts ≡ mark n ∷ []
close-more c n ts e h = ap (λ d. mark d ∷ ts) e ∙ ap (λ l. mark n ∷ l) h

behind-more : (q : Quote) (p : Part) (s : Sort) (c : ℕ) (ts : List Token) → IsOfSort s c → IfSome (behind q p s) (λ g. Described g ts → IsTail q p (mark c ∷ ts))
behind-more Unquoted First Number c ts e = tt
behind-more Unquoted First Sign c ts e = tt
behind-more Unquoted First Slash c ts e = tt
behind-more Unquoted First Comma c ts e = λ h. next-more (IsTail Unquoted Second) c ts e h
behind-more Unquoted First Single c ts e = tt
behind-more Unquoted First Double c ts e = tt
behind-more Unquoted First (Letter t) c ts e = tt
behind-more Unquoted First Other c ts e = tt
behind-more Unquoted Second Number c ts e = tt
behind-more Unquoted Second Sign c ts e = tt
behind-more Unquoted Second Slash c ts e = tt
behind-more Unquoted Second Comma c ts e = λ h. next-more (IsTail Unquoted Third) c ts e h
behind-more Unquoted Second Single c ts e = tt
behind-more Unquoted Second Double c ts e = tt
behind-more Unquoted Second (Letter t) c ts e = tt
behind-more Unquoted Second Other c ts e = tt
behind-more Unquoted Third Number c ts e = tt
behind-more Unquoted Third Sign c ts e = tt
behind-more Unquoted Third Slash c ts e = tt
behind-more Unquoted Third Comma c ts e = tt
behind-more Unquoted Third Single c ts e = tt
behind-more Unquoted Third Double c ts e = tt
behind-more Unquoted Third (Letter t) c ts e = tt
behind-more Unquoted Third Other c ts e = tt
behind-more InSingle First Number c ts e = tt
behind-more InSingle First Sign c ts e = tt
behind-more InSingle First Slash c ts e = tt
behind-more InSingle First Comma c ts e = λ h. next-more (IsTail InSingle Second) c ts e h
behind-more InSingle First Single c ts e = tt
behind-more InSingle First Double c ts e = tt
behind-more InSingle First (Letter t) c ts e = tt
behind-more InSingle First Other c ts e = tt
behind-more InSingle Second Number c ts e = tt
behind-more InSingle Second Sign c ts e = tt
behind-more InSingle Second Slash c ts e = tt
behind-more InSingle Second Comma c ts e = λ h. next-more (IsTail InSingle Third) c ts e h
behind-more InSingle Second Single c ts e = tt
behind-more InSingle Second Double c ts e = tt
behind-more InSingle Second (Letter t) c ts e = tt
behind-more InSingle Second Other c ts e = tt
behind-more InSingle Third Number c ts e = tt
behind-more InSingle Third Sign c ts e = tt
behind-more InSingle Third Slash c ts e = tt
behind-more InSingle Third Comma c ts e = tt
behind-more InSingle Third Single c ts e = λ h. close-more c 39 ts e h
behind-more InSingle Third Double c ts e = tt
behind-more InSingle Third (Letter t) c ts e = tt
behind-more InSingle Third Other c ts e = tt
behind-more InDouble First Number c ts e = tt
behind-more InDouble First Sign c ts e = tt
behind-more InDouble First Slash c ts e = tt
behind-more InDouble First Comma c ts e = λ h. next-more (IsTail InDouble Second) c ts e h
behind-more InDouble First Single c ts e = tt
behind-more InDouble First Double c ts e = tt
behind-more InDouble First (Letter t) c ts e = tt
behind-more InDouble First Other c ts e = tt
behind-more InDouble Second Number c ts e = tt
behind-more InDouble Second Sign c ts e = tt
behind-more InDouble Second Slash c ts e = tt
behind-more InDouble Second Comma c ts e = λ h. next-more (IsTail InDouble Third) c ts e h
behind-more InDouble Second Single c ts e = tt
behind-more InDouble Second Double c ts e = tt
behind-more InDouble Second (Letter t) c ts e = tt
behind-more InDouble Second Other c ts e = tt
behind-more InDouble Third Number c ts e = tt
behind-more InDouble Third Sign c ts e = tt
behind-more InDouble Third Slash c ts e = tt
behind-more InDouble Third Comma c ts e = tt
behind-more InDouble Third Single c ts e = tt
behind-more InDouble Third Double c ts e = λ h. close-more c 34 ts e h
behind-more InDouble Third (Letter t) c ts e = tt
behind-more InDouble Third Other c ts e = tt

-- A token more in a component.

no-terms : (u : Used) (P : List Token → Type 0) (ts : List Token) → P ts → AreTerms u P ts
no-terms u P ts h = record { later = []; fits = tt; rest = ts; tail = h; are = refl }

signed-more : (u : Used) (P : List Token → Type 0) (negative : Bool) (ts : List Token) → IsTerm u P ts → AreTerms u P (mark (sign_byte negative) ∷ ts)
signed-more u P negative ts h = record {
  later = record { negative = negative; body = h.body } ∷ h.terms.later;
  fits = (h.free, h.terms.fits);
  rest = h.terms.rest;
  tail = h.terms.tail;
  are = ap (λ l. mark (sign_byte negative) ∷ l) (h.are ∙ ap (λ l. body_tokens h.body ++ l) h.terms.are ∙ sym (append_assoc (body_tokens h.body) (later_tokens h.terms.later) h.terms.rest));
}

sign-more : (u : Used) (P : List Token → Type 0) (c : ℕ) (ts : List Token) → (c ≡ 43) ⊎ (c ≡ 45) → IsTerm u P ts → AreTerms u P (mark c ∷ ts)
sign-more u P c ts (inl e) h = subst (λ d. AreTerms u P (mark d ∷ ts)) (sym e) (signed-more u P false ts h)
sign-more u P c ts (inr e) h = subst (λ d. AreTerms u P (mark d ∷ ts)) (sym e) (signed-more u P true ts h)

first-sign : (u : Used) (P : List Token → Type 0) (c : ℕ) (ts : List Token) → (c ≡ 43) ⊎ (c ≡ 45) → IsTerm u P ts → IsWhole u P (mark c ∷ ts)
first-sign u P c ts (inl e) h = record { sign = Some false; rest = ts; term = h; are = ap (λ d. mark d ∷ ts) e }
first-sign u P c ts (inr e) h = record { sign = Some true; rest = ts; term = h; are = ap (λ d. mark d ∷ ts) e }

unsigned : (u : Used) (P : List Token → Type 0) (ts : List Token) → IsTerm u P ts → IsWhole u P ts
unsigned u P ts h = record { sign = None; rest = ts; term = h; are = refl }

lettered-tokens : (u : Used) (P : List Token → Type 0) (l : Coordinate) (upper : Bool) (c : ℕ) (n : Option PlacedNumber) (ts : List Token) → c ≡ (if upper then upper_byte l else letter_byte l)
    → is_used u (letter_slot l) ≡ false → AreTerms (with_slot u (letter_slot l)) P ts → IsTerm u P (coefficient_tokens n ++ (mark c ∷ ts))
lettered-tokens u P l upper c n ts e f h = record { body = lettered_term n upper l; free = f; rest = ts; terms = h; are = joined n }
  where
    joined : (m : Option PlacedNumber) → coefficient_tokens m ++ (mark c ∷ ts) ≡ (coefficient_tokens m ++ (mark (if upper then upper_byte l else letter_byte l) ∷ [])) ++ ts
    joined None = ap (λ d. mark d ∷ ts) e
    joined (Some m) = ap (λ d. number m ∷ mark d ∷ ts) e

letter-more : (u : Used) (P : List Token → Type 0) (s : Slot) (c : ℕ) (n : Option PlacedNumber) (ts : List Token) → IsLetterByte s c → is_used u s ≡ false → AreTerms (with_slot u s) P ts
    → IsTerm u P (coefficient_tokens n ++ (mark c ∷ ts))
letter-more u P X c n ts (inl e) f h = lettered-tokens u P letters.X false c n ts e f h
letter-more u P X c n ts (inr e) f h = lettered-tokens u P letters.X true c n ts e f h
letter-more u P Y c n ts (inl e) f h = lettered-tokens u P letters.Y false c n ts e f h
letter-more u P Y c n ts (inr e) f h = lettered-tokens u P letters.Y true c n ts e f h
letter-more u P Z c n ts (inl e) f h = lettered-tokens u P letters.Z false c n ts e f h
letter-more u P Z c n ts (inr e) f h = lettered-tokens u P letters.Z true c n ts e f h
letter-more u P Constant c n ts e f h = absurd e

over-more : (u : Used) (P : List Token → Type 0) (c : ℕ) (n : PlacedNumber) (ts : List Token) → c ≡ 47 → u.constant ≡ false → IsOver (with_slot u Constant) P ts → IsTerm u P (number n ∷ mark c ∷ ts)
over-more u P c n ts e f h = record {
  body = constant_term n (Some h.denominator);
  free = f;
  rest = h.rest;
  terms = h.terms;
  are = ap (λ d. number n ∷ mark d ∷ ts) e ∙ ap (λ l. number n ∷ mark 47 ∷ l) h.are;
}

constant-more : (u : Used) (P : List Token → Type 0) (n : PlacedNumber) (ts : List Token) → u.constant ≡ false → AreTerms (with_slot u Constant) P ts → IsTerm u P (number n ∷ ts)
constant-more u P n ts f h = record { body = constant_term n None; free = f; rest = ts; terms = h; are = refl }

sign-behind : (q : Quote) (p : Part) (u : Used) (c : ℕ) (ts : List Token) → (c ≡ 43) ⊎ (c ≡ 45) → IfSome (signed q p u) (λ g. Described g ts → AreTerms u (IsTail q p) (mark c ∷ ts))
sign-behind q p u c ts e = unless (λ g. Described g ts → AreTerms u (IsTail q p) (mark c ∷ ts)) (is_full u) (Within q p u Signed) (λ _. sign-more u (IsTail q p) c ts e)

with_more : (o : Option Front) (P Q : Front → Type 0) → ((g : Front) → P g → Q g) → IfSome o P → IfSome o Q
with_more None P Q f h = tt
with_more (Some g) P Q f h = f g h

sign-behind-number : (q : Quote) (p : Part) (u : Used) (c : ℕ) (ts : List Token) → (c ≡ 43) ⊎ (c ≡ 45)
    → IfSome (signed_behind_number q p u) (λ g. Described g ts → (n : PlacedNumber) → IsTerm u (IsTail q p) (number n ∷ mark c ∷ ts))
sign-behind-number q p u c ts e = by_used u.constant refl
  where
    by_used : (b : Bool) → u.constant ≡ b → IfSome (if b then None else signed q p (with_slot u Constant)) (λ g. Described g ts → (n : PlacedNumber) → IsTerm u (IsTail q p) (number n ∷ mark c ∷ ts))
    by_used true f = tt
    by_used false f = with_more (signed q p (with_slot u Constant)) (λ g. Described g ts → AreTerms (with_slot u Constant) (IsTail q p) (mark c ∷ ts))
        (λ g. Described g ts → (n : PlacedNumber) → IsTerm u (IsTail q p) (number n ∷ mark c ∷ ts)) (λ g more d n. constant-more u (IsTail q p) n (mark c ∷ ts) f (more d))
        (sign-behind q p (with_slot u Constant) c ts e)

letter-behind : (q : Quote) (p : Part) (u : Used) (a : At) (s : Slot) (ts us : List Token) → (is_used u s ≡ false → AreTerms (with_slot u s) (IsTail q p) ts → Described (Within q p u a) us)
    → IfSome (lettered q p u s) (λ g. Described g ts → Described (Within q p u a) us)
letter-behind q p u a s ts us f = unless (λ g. Described g ts → Described (Within q p u a) us) (is_used u s) (Within q p (with_slot u s) Behind) f

at-mark : (q : Quote) (p : Part) (u : Used) (a : At) (s : Sort) (c : ℕ) (ts : List Token) → IsOfSort s c → IfSome (next_at q p u a s) (λ g. Described g ts → Described (Within q p u a) (mark c ∷ ts))
at-mark q p u a Number c ts e = absurd e
at-mark q p u Start Sign c ts e = first-sign u (IsTail q p) c ts e
at-mark q p u Start (Letter s) c ts e = letter-behind q p u Start s ts (mark c ∷ ts) (λ f h. unsigned u (IsTail q p) (mark c ∷ ts) (letter-more u (IsTail q p) s c None ts e f h))
at-mark q p u Start s c ts e = tt
at-mark q p u Signed (Letter s) c ts e = letter-behind q p u Signed s ts (mark c ∷ ts) (λ f h. letter-more u (IsTail q p) s c None ts e f h)
at-mark q p u Signed s c ts e = tt
at-mark q p u Coefficient (Letter s) c ts e = letter-behind q p u Coefficient s ts (mark c ∷ ts) (λ f h n. letter-more u (IsTail q p) s c (Some n) ts e f h)
at-mark q p u Coefficient Slash c ts e = unless (λ g. Described g ts → Described (Within q p u Coefficient) (mark c ∷ ts)) u.constant (Within q p (with_slot u Constant) Over)
    (λ f h n. over-more u (IsTail q p) c n ts e f h)
at-mark q p u Coefficient Sign c ts e = sign-behind-number q p u c ts e
at-mark q p u Coefficient s c ts e = tt
at-mark q p u Over s c ts e = tt
at-mark q p u Behind Sign c ts e = sign-behind q p u c ts e
at-mark q p u Behind s c ts e = tt

at-number : (q : Quote) (p : Part) (u : Used) (a : At) (n : PlacedNumber) (ts : List Token) → IfSome (next_at q p u a Number) (λ g. Described g ts → Described (Within q p u a) (number n ∷ ts))
at-number q p u Start n ts = λ h. unsigned u (IsTail q p) (number n ∷ ts) (h n)
at-number q p u Signed n ts = λ h. h n
at-number q p u Coefficient n ts = tt
at-number q p u Over n ts = λ h. record { denominator = n; rest = ts; terms = h; are = refl }
at-number q p u Behind n ts = tt

-- the end of a component
ended-tail : (q : Quote) (p : Part) (u : Used) (a : At) (ts : List Token) → ended u a ≡ true → IsTail q p ts → Described (Within q p u a) ts
ended-tail q p u Start ts e h = absurd (cc)
ended-tail q p u Signed ts e h = absurd (cc)
ended-tail q p u Coefficient ts e h = λ n. constant-more u (IsTail q p) n ts (negated u.constant e) (no-terms (with_slot u Constant) (IsTail q p) ts h)
  where
    negated : (b : Bool) → not b ≡ true → b ≡ false
    negated true f = absurd (cc)
    negated false f = refl
ended-tail q p u Over ts e h = absurd (cc)
ended-tail q p u Behind ts e h = no-terms u (IsTail q p) ts h

within-mark : (q : Quote) (p : Part) (u : Used) (a : At) (s : Sort) (c : ℕ) (ts : List Token) → IsOfSort s c
    → IfSome (next_within q p u a s) (λ g. Described g ts → Described (Within q p u a) (mark c ∷ ts))
within-mark q p u a s c ts e = if_within (λ g. Described g ts → Described (Within q p u a) (mark c ∷ ts)) q p u a s
    (λ end. with_more (behind q p s) (λ g. Described g ts → IsTail q p (mark c ∷ ts)) (λ g. Described g ts → Described (Within q p u a) (mark c ∷ ts))
    (λ g more d. ended-tail q p u a (mark c ∷ ts) end (more d)) (behind-more q p s c ts e))
    (at-mark q p u a s c ts e)

within-number : (q : Quote) (p : Part) (u : Used) (a : At) (n : PlacedNumber) (ts : List Token) → IfSome (next_within q p u a Number) (λ g. Described g ts → Described (Within q p u a) (number n ∷ ts))
within-number q p u a n ts = let P : Front → Type 0 = λ g. Described g ts → Described (Within q p u a) (number n ∷ ts) in
    if_within P q p u a Number (λ _. nothing P) (at-number q p u a n ts)
  where
    nothing : (P : Front → Type 0) → IfSome (behind q p Number) P
    nothing P = let Q : Option Front → Type 0 = λ o. IfSome o P in subst Q (sym (behind-none q p Number tt)) tt

-- The first token.

abbrev AtFirst : List Token → Type 0
AtFirst ts = IsWhole unused (IsTail Unquoted First) ts

unquoted : (o : Option Front) (ts us : List Token) → IfSome o (λ g. Described g ts → AtFirst us) → IfSome o (λ g. Described g ts → IsOpenedAt us)
unquoted o ts us h = with_more o (λ g. Described g ts → AtFirst us) (λ g. Described g ts → IsOpenedAt us) (λ g more d. record { quote = Unquoted; inner = us; whole = more d; are = refl }) h

first-mark : (s : Sort) (c : ℕ) (ts : List Token) → IsOfSort s c → IfSome (opening s) (λ g. Described g ts → IsOpenedAt (mark c ∷ ts))
first-mark Single c ts e = λ h. record { quote = InSingle; inner = ts; whole = h; are = ap (λ d. mark d ∷ ts) e }
first-mark Double c ts e = λ h. record { quote = InDouble; inner = ts; whole = h; are = ap (λ d. mark d ∷ ts) e }
first-mark Number c ts e = absurd e
first-mark Sign c ts e = unquoted (opening Sign) ts (mark c ∷ ts) (at-mark Unquoted First unused Start Sign c ts e)
first-mark Slash c ts e = tt
first-mark Comma c ts e = tt
first-mark (Letter s) c ts e = unquoted (opening (Letter s)) ts (mark c ∷ ts) (at-mark Unquoted First unused Start (Letter s) c ts e)
first-mark Other c ts e = tt

mark-more : (f : Front) (s : Sort) (c : ℕ) (ts : List Token) → IsOfSort s c → IfSome (next_front f s) (λ g. Described g ts → Described f (mark c ∷ ts))
mark-more Before s c ts e = first-mark s c ts e
mark-more (Within q p u a) s c ts e = within-mark q p u a s c ts e
mark-more Closed s c ts e = tt

number-more : (f : Front) (n : PlacedNumber) (ts : List Token) → IfSome (next_front f Number) (λ g. Described g ts → Described f (number n ∷ ts))
number-more Before n ts = unquoted (opening Number) ts (number n ∷ ts) (at-number Unquoted First unused Start n ts)
number-more (Within q p u a) n ts = within-number q p u a n ts
number-more Closed n ts = tt

pub token-more : (f g : Front) (t : Token) (ts : List Token) → (tokens_of triplet_scanner).step f t ≡ Some g → Described g ts → Described f (t ∷ ts)
token-more f g (number n) ts e = if_some-at (next_front f Number) (λ u. Described u ts → Described f (number n ∷ ts)) g e (number-more f n ts)
token-more f g (mark c) ts e = if_some-at (next_front f (sort_of c)) (λ u. Described u ts → Described f (mark c ∷ ts)) g e (mark-more f (sort_of c) c ts (sort_is c))

-- The end.

only_end : (a b : Bool) → a || not b ≡ true → b ≡ true → a ≡ true
only_end true b h l = refl
only_end false true h l = h
only_end false false h l = absurd (cc)

pub live-end : (f : Front) → (ends_triplet f || not (is_live f)) ≡ true → is_live f ≡ true → ends_triplet f ≡ true
live-end f h l = only_end (ends_triplet f) (is_live f) h l

pub token-end : (f : Front) → ends_triplet f ≡ true → Described f []
token-end Closed e = refl
token-end Before e = absurd (cc)
token-end (Within Unquoted Third u a) e = ended-tail Unquoted Third u a [] e refl
token-end (Within Unquoted First u a) e = absurd (cc)
token-end (Within Unquoted Second u a) e = absurd (cc)
token-end (Within InSingle p u a) e = absurd (cc)
token-end (Within InDouble p u a) e = absurd (cc)
