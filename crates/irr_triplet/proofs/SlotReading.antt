-- The terms of a component by their letters, and its faults.
--   with_faults        slots with other faults
--   zero_or, beyond_or     the first fault of two lists of numbers
--   read_more          one term more at the front
--   Progress           what is left of the terms, and that it ends as the whole does
--   progress-first, progress-more, progress-last     through a loop
--   read_all           a component that is read from its first term on
use Rattle.std.proofs.Common.{◌≡◌, ◌≢◌, refl, sym, ◌∙◌, ap, subst, ℕ, Bool, true, false, List, [], ◌∷◌, ◌++◌, append_assoc, append-nil, Option, None, Some, arith, ◌⊎◌, inl, inr}
use Rattle.std.specs.Prelude.{if◌then◌else◌}
use Rattle.std.specs.Option.{option_map, option_or}
use Rattle.irr_token.specs.declared.kind.Kind.TheVariants.{Digit, Mark}
use Rattle.irr_token.specs.Token.{PlacedNumber, Token}
use Rattle.irr_token.specs.Token.Token.{number, mark}
use Rattle.irr_token.specs.Spelling.{AreSpelled}
use Rattle.irr_token.specs.Quotient.{sign_byte, is_negative, sign_tokens}
use Rattle.irr_token.specs.Reading.{BeginsWith}
use Rattle.irr_token.specs.Fault.{Limited}
use Rattle.irr_token.proofs.FirstFaults.{none-zero, here-zero, later-zero, none-beyond, here-beyond, later-beyond}
use Rattle.irr_token.proofs.Signs.{front_mark, front_number}
use Rattle.irr_triplet.specs.declared.shape.Slot.{Slot}
use Rattle.irr_triplet.specs.declared.shape.Slot.TheVariants.{X, Y, Z, Constant}
use Rattle.irr_triplet.specs.declared.slots.Slots.{Slots}
use Rattle.irr_triplet.specs.WrittenTriplet.{Body, Term, WrittenComponent, slot_of, body_tokens, later_tokens, component_tokens, Lacks, AreDistinct, IsComponent}
use Rattle.irr_triplet.specs.WrittenTriplet.Body.{lettered, constant}
use Rattle.irr_triplet.specs.TripletFault.{same_slot, term_at, terms, body_denominators, denominators, body_numbers, numbers}
use Rattle.irr_triplet.specs.WrittenTerms.{plain, plain_body, slot_term, letter_of, IsUnsigned, IsBehindTerm, IsBehindComponent, IsZeroAnswer, IsBeyondAnswer, IsWith, IsReadOn, IsRead}

-- slots

pub with_faults : (r : Slots) (zero beyond : Option ℕ) (k : Slot) → slot_term (record { x = r.x; y = r.y; z = r.z; constant = r.constant; zero = zero; beyond = beyond }) k ≡ slot_term r k
with_faults r zero beyond X = refl
with_faults r zero beyond Y = refl
with_faults r zero beyond Z = refl
with_faults r zero beyond Constant = refl

same_slot-not : (k s : Slot) → k ≢ s → same_slot k s ≡ false
same_slot-not X X h = absurd (h refl)
same_slot-not X Y h = refl
same_slot-not X Z h = refl
same_slot-not X Constant h = refl
same_slot-not Y X h = refl
same_slot-not Y Y h = absurd (h refl)
same_slot-not Y Z h = refl
same_slot-not Y Constant h = refl
same_slot-not Z X h = refl
same_slot-not Z Y h = refl
same_slot-not Z Z h = absurd (h refl)
same_slot-not Z Constant h = refl
same_slot-not Constant X h = refl
same_slot-not Constant Y h = refl
same_slot-not Constant Z h = refl
same_slot-not Constant Constant h = absurd (h refl)

same_slot-is : (k s : Slot) → same_slot k s ≡ true → k ≡ s
same_slot-is X X e = refl
same_slot-is X Y e = absurd (cc)
same_slot-is X Z e = absurd (cc)
same_slot-is X Constant e = absurd (cc)
same_slot-is Y X e = absurd (cc)
same_slot-is Y Y e = refl
same_slot-is Y Z e = absurd (cc)
same_slot-is Y Constant e = absurd (cc)
same_slot-is Z X e = absurd (cc)
same_slot-is Z Y e = absurd (cc)
same_slot-is Z Z e = refl
same_slot-is Z Constant e = absurd (cc)
same_slot-is Constant X e = absurd (cc)
same_slot-is Constant Y e = absurd (cc)
same_slot-is Constant Z e = absurd (cc)
same_slot-is Constant Constant e = refl

term_at-lacks : (k : Slot) (ts : List Term) → Lacks k ts → term_at k ts ≡ None
term_at-lacks k [] h = refl
term_at-lacks k (t ∷ ts) h = ap (λ (b : Bool). if b then Some t else term_at k ts) (same_slot-not k (slot_of t.body) h.0) ∙ term_at-lacks k ts h.1

-- faults

pub zero_or : (a b : Option ℕ) (ns ms : List PlacedNumber) → IsZeroAnswer a ns → IsZeroAnswer b ms → IsZeroAnswer (option_or a b) (ns ++ ms)
zero_or None None ns ms h g = none-zero ns ms h g
zero_or None (Some p) ns ms h g = later-zero ns ms p h g
zero_or (Some p) b ns ms h g = here-zero ns ms p h

pub beyond_or : (a b : Option ℕ) (ns ms : List Limited) → IsBeyondAnswer a ns → IsBeyondAnswer b ms → IsBeyondAnswer (option_or a b) (ns ++ ms)
beyond_or None None ns ms h g = none-beyond ns ms h g
beyond_or None (Some p) ns ms h g = later-beyond ns ms p h g
beyond_or (Some p) b ns ms h g = here-beyond ns ms p h

-- lower case changes nothing

plain-slot : (b : Body) → slot_of (plain_body b) ≡ slot_of b
plain-slot (lettered n upper l) = refl
plain-slot (constant n d) = refl

plain-denominators : (b : Body) → body_denominators (plain_body b) ≡ body_denominators b
plain-denominators (lettered n upper l) = refl
plain-denominators (constant n d) = refl

plain-numbers : (b : Body) → body_numbers (plain_body b) ≡ body_numbers b
plain-numbers (lettered n upper l) = refl
plain-numbers (constant n d) = refl

-- one term more

more_slots : (k : Slot) (t : Term) (ts : List Term) (old : Option Term) → Lacks (slot_of t.body) ts
    → option_or (option_map plain (term_at k ts)) (if same_slot k (slot_of t.body) then Some (plain t) else old) ≡ option_or (option_map plain (term_at k (t ∷ ts))) old
more_slots k t ts old h = at (same_slot k (slot_of t.body)) refl
  where
    at : (b : Bool) → same_slot k (slot_of t.body) ≡ b
        → option_or (option_map plain (term_at k ts)) (if b then Some (plain t) else old) ≡ option_or (option_map plain (if b then Some t else term_at k ts)) old
    at true e = ap (λ o. option_or (option_map plain o) (Some (plain t))) (term_at-lacks k ts (subst (λ s. Lacks s ts) (sym (same_slot-is k (slot_of t.body) e)) h))
    at false e = refl

pub read_more : (r s end : Slots) (t : Term) (ts : List Term) → IsWith r (plain t) s → Lacks (slot_of t.body) ts → IsReadOn s ts end → IsReadOn r (t ∷ ts) end
read_more r s end t ts w h on = record {
  slots = λ k. on.slots k ∙ ap (option_or (option_map plain (term_at k ts))) (w.slots k ∙ ap (λ (j : Slot). if same_slot k j then Some (plain t) else slot_term r k) (plain-slot t.body)) ∙ more_slots k t ts (slot_term r k) h;
  zero = λ ns z. subst (IsZeroAnswer end.zero) (append_assoc ns (body_denominators t.body) (denominators ts))
      (on.zero (ns ++ body_denominators t.body) (subst (λ ms. IsZeroAnswer s.zero (ns ++ ms)) (plain-denominators t.body) (w.zero ns z)));
  beyond = λ ns z. subst (IsBeyondAnswer end.beyond) (append_assoc ns (body_numbers t.body) (numbers ts))
      (on.beyond (ns ++ body_numbers t.body) (subst (λ ms. IsBeyondAnswer s.beyond (ns ++ ms)) (plain-numbers t.body) (w.beyond ns z)));
}

-- what may stand behind a term

sign_behind : (negative : Bool) → (sign_byte negative ≢ 47) × (letter_of (sign_byte negative) ≡ None)
sign_behind true = (λ e. omega (arith, e), refl)
sign_behind false = (λ e. omega (arith, e), refl)

behind_term : (ts : List Term) (tail : List Token) → IsBehindComponent tail → IsBehindTerm (later_tokens ts ++ tail)
behind_term [] tail is = is.0
behind_term (t ∷ ts) tail is = sign_behind t.negative

-- a reading of a term with its sign
abbrev pub ReadsTerm : ℕ → List ℕ → Term → ℕ → List ℕ → Type 0
ReadsTerm place text r to left = (s : Option Bool) (b : Body) (ts : List Token) → IsBehindTerm ts → AreSpelled place (sign_tokens s ++ (body_tokens b ++ ts)) text
    → (r ≡ plain (record { negative = is_negative s; body = b })) × AreSpelled to ts left

abbrev pub BeginsWithSign : List ℕ → Type 0
BeginsWithSign text = BeginsWith 43 text ⊎ BeginsWith 45 text

no_sign : (at : ℕ) (tail : List Token) (text : List ℕ) → IsUnsigned tail → AreSpelled at tail text → ¬ (BeginsWithSign text)
no_sign at [] text un sp (inl b) = subst (BeginsWith 43) sp b
no_sign at [] text un sp (inr b) = subst (BeginsWith 45) sp b
no_sign at (number n ∷ ts) text un sp (inl b) = let e : Mark ≡ Digit = front_number at n 43 ts text sp b in cc
no_sign at (number n ∷ ts) text un sp (inr b) = let e : Mark ≡ Digit = front_number at n 45 ts text sp b in cc
no_sign at (mark c ∷ ts) text un sp (inl b) = un.0 (front_mark at c 43 ts text sp b)
no_sign at (mark c ∷ ts) text un sp (inr b) = un.1 (front_mark at c 45 ts text sp b)

some_sign : (at : ℕ) (negative : Bool) (ts : List Token) (text : List ℕ) → AreSpelled at (mark (sign_byte negative) ∷ ts) text → BeginsWithSign text
some_sign at true ts text sp = inr (subst (BeginsWith 45) (sym sp.1.joins) refl)
some_sign at false ts text sp = inl (subst (BeginsWith 43) (sym sp.1.joins) refl)

pub record Progress (r s : Slots) (at : ℕ) (text : List ℕ) (ts : List Term) (tail : List Token) : Type 0 where
  pub left : List Term
  pub distinct : AreDistinct left
  pub spelled : AreSpelled at (later_tokens left ++ tail) text
  pub on : (end : Slots) → IsReadOn s left end → IsReadOn r ts end

pub progress-first : (r : Slots) (at : ℕ) (text : List ℕ) (ts : List Term) (tail : List Token) → AreDistinct ts → AreSpelled at (later_tokens ts ++ tail) text → Progress r r at text ts tail
progress-first r at text ts tail d sp = record { left = ts; distinct = d; spelled = sp; on = λ end h. h }

pub progress-more : (r s next : Slots) (at to : ℕ) (text behind : List ℕ) (ts : List Term) (tail : List Token) (u : Term) → IsBehindComponent tail → BeginsWithSign text → ReadsTerm at text u to behind
    → IsWith s u next → Progress r s at text ts tail → Progress r next to behind ts tail
progress-more r s next at to text behind ts tail u is sign f w p = by p.left p.distinct p.spelled p.on
  where
    by : (left : List Term) → AreDistinct left → AreSpelled at (later_tokens left ++ tail) text → ((end : Slots) → IsReadOn s left end → IsReadOn r ts end) → Progress r next to behind ts tail
    by [] d sp on = absurd (no_sign at tail text is.1 sp sign)
    by (t ∷ left) d sp on =
        let one = f (Some t.negative) t.body (later_tokens left ++ tail) (behind_term left tail is)
        (subst (λ us. AreSpelled at (mark (sign_byte t.negative) ∷ us) text) (append_assoc (body_tokens t.body) (later_tokens left) tail) sp) in
        record { left = left; distinct = d.1; spelled = one.1; on = λ end h. on end (read_more s next end t left (subst (λ v. IsWith s v next) one.0 w) d.0 h) }

read_none : (r : Slots) → IsReadOn r [] r
read_none r = record { slots = λ k. refl; zero = λ ns h. subst (IsZeroAnswer r.zero) (sym (append-nil ns)) h; beyond = λ ns h. subst (IsBeyondAnswer r.beyond) (sym (append-nil ns)) h }

pub progress-last : (r s : Slots) (at : ℕ) (text : List ℕ) (ts : List Term) (tail : List Token) → ¬ (BeginsWithSign text) → Progress r s at text ts tail → IsReadOn r ts s × AreSpelled at tail text
progress-last r s at text ts tail sign p = by p.left p.spelled p.on
  where
    by : (left : List Term) → AreSpelled at (later_tokens left ++ tail) text → ((end : Slots) → IsReadOn s left end → IsReadOn r ts end) → IsReadOn r ts s × AreSpelled at tail text
    by [] sp on = (on s (read_none s), sp)
    by (t ∷ left) sp on = absurd (sign (some_sign at t.negative ((body_tokens t.body ++ later_tokens left) ++ tail) text sp))

-- a component from its first term on

abbrev pub no_terms : Slots
no_terms = record { x = None; y = None; z = None; constant = None; zero = None; beyond = None }

no_term : (k : Slot) → slot_term no_terms k ≡ None
no_term X = refl
no_term Y = refl
no_term Z = refl
no_term Constant = refl

or_none : (o : Option Term) → option_or o None ≡ o
or_none None = refl
or_none (Some t) = refl

read_whole : (ts : List Term) (s : Slots) → IsReadOn no_terms ts s → IsRead ts s
read_whole ts s h = record {
  slots = λ k. h.slots k ∙ ap (option_or (option_map plain (term_at k ts))) (no_term k) ∙ or_none (option_map plain (term_at k ts));
  zero = h.zero [] tt;
  beyond = h.beyond [] tt;
}

pub read_all : (at p q : ℕ) (text t u : List ℕ) (front : Term) (s end : Slots) → ReadsTerm at text front p t → IsWith no_terms front s
    → ((ts : List Term) (tail : List Token) → AreDistinct ts → IsBehindComponent tail → AreSpelled p (later_tokens ts ++ tail) t → IsReadOn s ts end × AreSpelled q tail u)
    → (c : WrittenComponent) (tail : List Token) → IsComponent c → IsBehindComponent tail → AreSpelled at (component_tokens c ++ tail) text → IsRead (terms c) end × AreSpelled q tail u
read_all at p q text t u front s end f w g c tail is behind sp =
    let one = f c.sign c.front (later_tokens c.later ++ tail) (behind_term c.later tail behind) (subst (λ us. AreSpelled at us text)
    (append_assoc (sign_tokens c.sign) (body_tokens c.front ++ later_tokens c.later) tail ∙ ap (λ us. sign_tokens c.sign ++ us) (append_assoc (body_tokens c.front) (later_tokens c.later) tail)) sp) in
    let two = g c.later tail is.1 behind one.1 in
    (read_whole (terms c) end (read_more no_terms s end (record { negative = is_negative c.sign; body = c.front }) c.later (subst (λ v. IsWith no_terms v s) one.0 w) is.0 two.0), two.1)
