-- The components of a triplet's text.
--   front_skipped      the blanks at the front
--   quote_skipped, no_quote     and the quote
--   parts_of           the three components
--   three_zeros, three_beyond   their first fault
use Rattle.std.proofs.Common.{◌≡◌, ◌≢◌, refl, sym, ◌∙◌, subst, ℕ, Bool, true, false, List, [], ◌∷◌, ◌++◌, length, Option, None, Some, arith, ◌⊎◌, inl, inr}
use Rattle.std.specs.Prelude.{if◌then◌else◌}
use Rattle.std.specs.Option.{option_or}
use Rattle.irr_token.specs.declared.kind.Kind.TheVariants.{Digit, Mark}
use Rattle.irr_token.specs.Kinds.{kind_of, AreBlanks}
use Rattle.irr_token.specs.Token.{Token}
use Rattle.irr_token.specs.Token.Token.{number, mark}
use Rattle.irr_token.specs.Spelling.{AreSpelled}
use Rattle.irr_token.specs.Reading.{BeginsWith}
use Rattle.irr_token.proofs.Blanks.{IsStep, no_blank-spelled}
use Rattle.irr_token.proofs.Signs.{front_mark, front_number, IsBehindMark}
use Rattle.irr_triplet.specs.declared.reading.Parts.{Parts}
use Rattle.irr_triplet.specs.declared.slots.Slots.{Slots}
use Rattle.irr_triplet.specs.declared.term.Letter.{Letter}
use Rattle.irr_triplet.specs.declared.term.Letter.TheVariants.{X, Y, Z}
use Rattle.irr_triplet.specs.WrittenTriplet.{Body, WrittenComponent, WrittenTriplet, component_tokens, quote_tokens, body_tokens, later_tokens, IsComponent, IsSpelling}
use Rattle.irr_triplet.specs.WrittenTriplet.Body.{lettered, constant}
use Rattle.irr_triplet.specs.TripletFault.{terms, triplet_denominators, triplet_numbers, denominators, numbers}
use Rattle.irr_triplet.specs.WrittenTerms.{IsBehindComponent, IsZeroAnswer, IsBeyondAnswer, IsRead}
use Rattle.irr_triplet.specs.TripletParts.{AreParts, IsUnquoted}
use Rattle.irr_triplet.proofs.TermTokens.{case_byte}
use Rattle.irr_triplet.proofs.SlotReading.{zero_or, beyond_or}

-- the front

pub front_skipped : (text left : List ℕ) (to : ℕ) (blanks rest : List ℕ) (ts : List Token) → IsStep 0 text 0 to left → AreBlanks blanks → text ≡ blanks ++ rest
    → AreSpelled (length blanks) ts rest → AreSpelled to ts left
front_skipped text left to blanks rest ts step are e sp =
    let s = step [] blanks rest refl are (no_blank-spelled (length blanks) ts rest sp) e in
    let at : to ≡ length blanks = omega (arith, s.1) in
    subst (λ l. AreSpelled to ts l) (sym s.0) (subst (λ p. AreSpelled p ts rest) (sym at) sp)

-- no token but a quote begins with the byte of one
not_quoted : (b at : ℕ) (ts : List Token) (text : List ℕ) → (b ≡ 39) ⊎ (b ≡ 34) → kind_of b ≡ Mark → IsUnquoted ts → AreSpelled at ts text → ¬ (BeginsWith b text)
not_quoted b at [] text is k un sp h = subst (BeginsWith b) sp h
not_quoted b at (number n ∷ ts) text is k un sp h = let e : Mark ≡ Digit = sym k ∙ front_number at n b ts text sp h in cc
not_quoted b at (mark c ∷ ts) text (inl e) k un sp h = un.0 (front_mark at c b ts text sp h ∙ e)
not_quoted b at (mark c ∷ ts) text (inr e) k un sp h = un.1 (front_mark at c b ts text sp h ∙ e)

pub quote_skipped : (b place to : ℕ) (text left : List ℕ) (q : Option Bool) (ts : List Token) → (b ≡ 39) ⊎ (b ≡ 34) → kind_of b ≡ Mark → BeginsWith b text → IsBehindMark place text to left → IsUnquoted ts
    → AreSpelled place (quote_tokens q ++ ts) text → AreSpelled to ts left
quote_skipped b place to text left None ts is k at f un sp = absurd (not_quoted b place ts text is k un sp at)
quote_skipped b place to text left (Some double) ts is k at f un sp = f (if double then 34 else 39) ts sp

pub no_quote : (place : ℕ) (text : List ℕ) (q : Option Bool) (ts : List Token) → ¬ (BeginsWith 39 text) → ¬ (BeginsWith 34 text) → AreSpelled place (quote_tokens q ++ ts) text → AreSpelled place ts text
no_quote place text None ts single double sp = sp
no_quote place text (Some true) ts single double sp = absurd (double (subst (BeginsWith 34) (sym sp.1.joins) refl))
no_quote place text (Some false) ts single double sp = absurd (single (subst (BeginsWith 39) (sym sp.1.joins) refl))

-- what stands round a component

letter_unquoted : (upper : Bool) (l : Letter) → (case_byte upper l ≢ 39) × (case_byte upper l ≢ 34)
letter_unquoted true X = (λ e. omega (arith, e), λ e. omega (arith, e))
letter_unquoted true Y = (λ e. omega (arith, e), λ e. omega (arith, e))
letter_unquoted true Z = (λ e. omega (arith, e), λ e. omega (arith, e))
letter_unquoted false X = (λ e. omega (arith, e), λ e. omega (arith, e))
letter_unquoted false Y = (λ e. omega (arith, e), λ e. omega (arith, e))
letter_unquoted false Z = (λ e. omega (arith, e), λ e. omega (arith, e))

unquoted_body : (b : Body) (ts us : List Token) → IsUnquoted ((body_tokens b ++ ts) ++ us)
unquoted_body (lettered None upper l) ts us = letter_unquoted upper l
unquoted_body (lettered (Some n) upper l) ts us = tt
unquoted_body (constant n d) ts us = tt

unquoted_component : (c : WrittenComponent) (ts : List Token) → IsUnquoted (component_tokens c ++ ts)
unquoted_component c ts = by c.sign
  where
    by : (s : Option Bool) → IsUnquoted (component_tokens (record { sign = s; front = c.front; later = c.later }) ++ ts)
    by None = unquoted_body c.front (later_tokens c.later) ts
    by (Some true) = (λ e. omega (arith, e), λ e. omega (arith, e))
    by (Some false) = (λ e. omega (arith, e), λ e. omega (arith, e))

comma : (ts : List Token) → IsBehindComponent (mark 44 ∷ ts)
comma ts = ((λ e. omega (arith, e), refl), (λ e. omega (arith, e), λ e. omega (arith, e)))

closing : (q : Option Bool) → IsBehindComponent (quote_tokens q)
closing None = (tt, tt)
closing (Some true) = ((λ e. omega (arith, e), refl), (λ e. omega (arith, e), λ e. omega (arith, e)))
closing (Some false) = ((λ e. omega (arith, e), refl), (λ e. omega (arith, e), λ e. omega (arith, e)))

-- the three components

abbrev pub Opens : List ℕ → ℕ → List ℕ → Type 0
Opens text to left = (blanks rest : List ℕ) (q : Option Bool) (ts : List Token) → AreBlanks blanks → text ≡ blanks ++ rest → IsUnquoted ts → AreSpelled (length blanks) (quote_tokens q ++ ts) rest → AreSpelled to ts left

abbrev pub ReadsComponent : ℕ → List ℕ → Slots → ℕ → List ℕ → Type 0
ReadsComponent at text s to left = (c : WrittenComponent) (ts : List Token) → IsComponent c → IsBehindComponent ts → AreSpelled at (component_tokens c ++ ts) text → IsRead (terms c) s × AreSpelled to ts left

abbrev pub Skips : ℕ → List ℕ → ℕ → List ℕ → Type 0
Skips at text to left = (ts : List Token) → AreSpelled at (mark 44 ∷ ts) text → AreSpelled to ts left

pub parts_of : (text s t u v w l : List ℕ) (a b c d e n : ℕ) (r : Parts) → Opens text a s → ReadsComponent a s r.x b t → Skips b t c u → ReadsComponent c u r.y d v → Skips d v e w → ReadsComponent e w r.z n l
    → (p : WrittenTriplet) → IsSpelling p text → AreParts r p
parts_of text s t u v w l a b c d e n r opens fx f fy g fz p h =
    let last = component_tokens p.z ++ quote_tokens p.quote in
    let second = component_tokens p.y ++ (mark 44 ∷ last) in
    let x = fx p.x (mark 44 ∷ second) h.x (comma second) (opens h.blanks h.rest p.quote (component_tokens p.x ++ (mark 44 ∷ second)) h.are_blanks h.joins (unquoted_component p.x (mark 44 ∷ second)) h.spelled) in
    let y = fy p.y (mark 44 ∷ last) h.y (comma last) (f second x.1) in
    let z = fz p.z (quote_tokens p.quote) h.z (closing p.quote) (g last y.1) in
    record { x = x.0; y = y.0; z = z.0 }

-- the first fault

pub three_zeros : (r : Parts) (o m : Option ℕ) → m ≡ option_or r.y.zero r.z.zero → o ≡ option_or r.x.zero m → (t : WrittenTriplet) → AreParts r t → IsZeroAnswer o (triplet_denominators t)
three_zeros r o m f e t h = subst (λ a. IsZeroAnswer a (triplet_denominators t)) (sym e)
    (zero_or r.x.zero m (denominators (terms t.x)) (denominators (terms t.y) ++ denominators (terms t.z)) h.x.zero
    (subst (λ a. IsZeroAnswer a (denominators (terms t.y) ++ denominators (terms t.z))) (sym f) (zero_or r.y.zero r.z.zero (denominators (terms t.y)) (denominators (terms t.z)) h.y.zero h.z.zero)))

pub three_beyond : (r : Parts) (o m : Option ℕ) → m ≡ option_or r.y.beyond r.z.beyond → o ≡ option_or r.x.beyond m → (t : WrittenTriplet) → AreParts r t → IsBeyondAnswer o (triplet_numbers t)
three_beyond r o m f e t h = subst (λ a. IsBeyondAnswer a (triplet_numbers t)) (sym e)
    (beyond_or r.x.beyond m (numbers (terms t.x)) (numbers (terms t.y) ++ numbers (terms t.z)) h.x.beyond
    (subst (λ a. IsBeyondAnswer a (numbers (terms t.y) ++ numbers (terms t.z))) (sym f) (beyond_or r.y.beyond r.z.beyond (numbers (terms t.y)) (numbers (terms t.z)) h.y.beyond h.z.beyond)))
