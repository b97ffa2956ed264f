-- The texts of triplets are told from left to right.
--   triplet_recogniser   the fronts as states of a recogniser of texts
--   IsTripletTokens ts   ts are the tokens of a triplet
--   triplet_recognises   it recognises the texts of triplets
--   step-some, step-none, is-end, end-is      the program's functions are those of the recogniser
--   live-after           the fronts that come are those that a text completes
use Rattle.std.proofs.Common.{◌≡◌, refl, sym, ◌∙◌, ap, subst, Bool, true, false, List, [], ◌∷◌, ◌++◌, length, ℕ, Option, None, Some, IsTrue, ◌||◌, not}
use Rattle.std.specs.Option.{option_map}
use Rattle.irr_grammar.proofs.Recognisers.{Recogniser, Ends, Recognises, ends-described}
use Rattle.irr_token.specs.declared.kind.Kind.{Kind}
use Rattle.irr_token.specs.declared.kind.Kind.TheVariants.{Blank, Digit, Mark}
use Rattle.irr_token.specs.Kinds.{kind_of}
use Rattle.irr_token.specs.Token.{Token, symbol_of}
use Rattle.irr_token.specs.Token.Token.{mark}
use Rattle.irr_token.specs.Spelling.{AreSpelled}
use Rattle.irr_token.proofs.Lexing.{tokens_of, next_byte, lexed, IsScanner, IsTextOf, lexed_recognises}
use Rattle.irr_triplet.specs.declared.shape.Sort.TheVariants.{Number}
use Rattle.irr_triplet.specs.declared.shape.Quote.{Quote}
use Rattle.irr_triplet.specs.declared.shape.Quote.TheVariants.{Unquoted, InSingle, InDouble}
use Rattle.irr_triplet.specs.declared.shape.Part.TheVariants.{First, Second, Third}
use Rattle.irr_triplet.specs.declared.shape.At.TheVariants.{Start}
use Rattle.irr_triplet.specs.declared.shape.Front.{Front}
use Rattle.irr_triplet.specs.declared.shape.Front.TheVariants.{Before, Within}
use Rattle.irr_triplet.specs.WrittenTriplet.{WrittenTriplet, IsComponent, component_tokens, quote_tokens, triplet_tokens, IsTriplet}
use Rattle.irr_triplet.specs.TripletFront.{sort_of, unused, next_front, front_after, ends_triplet}
use Rattle.irr_triplet.proofs.TripletScanner.{symbol_sort, is_live, triplet_scanner, sort_is, sort-mark, none_other, once, live-next}
use Rattle.irr_triplet.proofs.TripletFollows.{closing, IsOpened, Described, opened, token-more, live-end, token-end}
use Rattle.irr_triplet.proofs.TripletEnds.{EndsFrom, comma-first, comma-second, closing-tail, component-ends, ending, completes, quote-ends}

abbrev pub triplet_recogniser : Recogniser ℕ
triplet_recogniser = lexed triplet_scanner true

pub record IsTripletTokens (ts : List Token) : Type 0 where
  pub triplet : WrittenTriplet
  pub x : IsComponent triplet.x
  pub y : IsComponent triplet.y
  pub z : IsComponent triplet.z
  pub are : triplet_tokens triplet ≡ ts

-- The tokens that lead to an end are those of a triplet.

abbrev Follows : Front → List Token → Type 0
Follows f ts = is_live f ≡ true → Described f ts

follows-end : (f : Front) → IsTrue (ends_triplet f || not (is_live f)) → Follows f []
follows-end f e l = token-end f (live-end f e l)

follows-more : (f g : Front) (t : Token) (ts : List Token) → (tokens_of triplet_scanner).step f t ≡ Some g → Follows g ts → Follows f (t ∷ ts)
follows-more f g t ts e h l = token-more f g t ts e (h (live-next f g (symbol_sort (symbol_of t)) e l))

written_quote : Quote → Option Bool
written_quote Unquoted = None
written_quote InSingle = Some false
written_quote InDouble = Some true

written-closing : (q : Quote) → closing q ≡ quote_tokens (written_quote q)
unfolding written_quote
written-closing Unquoted = refl
written-closing InSingle = refl
written-closing InDouble = refl

of-opened : (ts : List Token) → IsOpened ts → IsTripletTokens ts
of-opened ts h = let x = h.whole in let y = x.tail in let z = y.next.tail in
    record {
      triplet = record { quote = written_quote h.quote; x = x.component; y = y.next.component; z = z.next.component };
      x = x.is;
      y = y.next.is;
      z = z.next.is;
      are = sym (joined (closing h.quote) (quote_tokens (written_quote h.quote)) (component_tokens x.component) (component_tokens y.next.component) (component_tokens z.next.component)
          ts h.inner x.rest y.behind y.next.rest z.behind z.next.rest
          (written-closing h.quote) h.are x.are y.are y.next.are z.are z.next.are z.next.tail);
    }
  where
    joined : (q w x y z ts inner r b s d k : List Token) → q ≡ w → ts ≡ q ++ inner → inner ≡ x ++ r → r ≡ mark 44 ∷ b → b ≡ y ++ s → s ≡ mark 44 ∷ d → d ≡ z ++ k → k ≡ q
        → ts ≡ w ++ (x ++ (mark 44 ∷ (y ++ (mark 44 ∷ (z ++ w)))))
    joined q w x y z ts inner r b s d k e f g h i j l m =
        f ∙ ap (λ u. u ++ inner) e ∙ ap (λ u. w ++ u) (g ∙ ap (λ u. x ++ u) (h ∙ ap (λ u. mark 44 ∷ u) (i ∙ ap (λ u. y ++ u) (j ∙ ap (λ u. mark 44 ∷ u) (l ∙ ap (λ u. z ++ u) (m ∙ e))))))

tokens-only : (ts : List Token) → Ends (tokens_of triplet_scanner) Before ts → IsTripletTokens ts
tokens-only ts h = of-opened ts (opened ts (ends-described (tokens_of triplet_scanner) Follows follows-end follows-more ts Before h refl))

-- The tokens of a triplet lead to an end.

quote_of : Option Bool → Quote
quote_of None = Unquoted
quote_of (Some true) = InDouble
quote_of (Some false) = InSingle

closing-of : (q : Option Bool) → closing (quote_of q) ≡ quote_tokens q
unfolding quote_of
closing-of None = refl
closing-of (Some true) = refl
closing-of (Some false) = refl

triplet-ends : (t : WrittenTriplet) → IsComponent t.x → IsComponent t.y → IsComponent t.z → EndsFrom Before (triplet_tokens t)
triplet-ends t x y z = subst (λ w. EndsFrom Before (w ++ (component_tokens t.x ++ (mark 44 ∷ (component_tokens t.y ++ (mark 44 ∷ (component_tokens t.z ++ w))))))) (closing-of t.quote) (of_quote (quote_of t.quote))
  where
    third : (q : Quote) → EndsFrom (Within q Third unused Start) (component_tokens t.z ++ closing q)
    third q = component-ends q Third t.z (closing q) z (closing-tail q)

    second : (q : Quote) → EndsFrom (Within q Second unused Start) (component_tokens t.y ++ (mark 44 ∷ (component_tokens t.z ++ closing q)))
    second q = component-ends q Second t.y (mark 44 ∷ (component_tokens t.z ++ closing q)) y (comma-second q (component_tokens t.z ++ closing q) (third q))

    first : (q : Quote) → EndsFrom (Within q First unused Start) (component_tokens t.x ++ (mark 44 ∷ (component_tokens t.y ++ (mark 44 ∷ (component_tokens t.z ++ closing q)))))
    first q = component-ends q First t.x (mark 44 ∷ (component_tokens t.y ++ (mark 44 ∷ (component_tokens t.z ++ closing q)))) x (comma-first q (component_tokens t.y ++ (mark 44 ∷ (component_tokens t.z ++ closing q))) (second q))

    of_quote : (q : Quote) → EndsFrom Before (closing q ++ (component_tokens t.x ++ (mark 44 ∷ (component_tokens t.y ++ (mark 44 ∷ (component_tokens t.z ++ closing q))))))
    of_quote q = quote-ends q t.x (mark 44 ∷ (component_tokens t.y ++ (mark 44 ∷ (component_tokens t.z ++ closing q)))) (first q)

tokens-end : (ts : List Token) → IsTripletTokens ts → Ends (tokens_of triplet_scanner) Before ts
tokens-end ts h = subst (EndsFrom Before) h.are (triplet-ends h.triplet h.x h.y h.z)

-- The texts.

triplet_laws : IsScanner triplet_scanner true
triplet_laws = record {
  once = once;
  marked = λ f g c e. sort-mark (sort_of c) c (sort_is c) (λ o. let none : next_front f (sort_of c) ≡ None = ap (next_front f) o ∙ none_other f in absurd (cc));
  between = λ f g h x y e d. refl;
  behind = λ e f. refl;
  ending = ending;
  completes = completes;
  lasting = λ f e. absurd (cc);
  apart = λ f e. absurd (cc);
}

triplet_texts : Recognises triplet_recogniser (IsTextOf triplet_scanner true IsTripletTokens)
triplet_texts = lexed_recognises triplet_scanner true triplet_laws IsTripletTokens tokens-end tokens-only

text-triplet : (text : List ℕ) → IsTextOf triplet_scanner true IsTripletTokens text → IsTriplet text
text-triplet text h = record {
  triplet = h.is.triplet;
  spells = record {
    x = h.is.x;
    y = h.is.y;
    z = h.is.z;
    blanks = h.blanks;
    rest = h.rest;
    are_blanks = h.are_blanks;
    joins = h.joins;
    spelled = subst (λ ts. AreSpelled (length h.blanks) ts h.rest) (sym h.is.are) h.spelled;
  };
}

triplet-text : (text : List ℕ) → IsTriplet text → IsTextOf triplet_scanner true IsTripletTokens text
triplet-text text h = record {
  blanks = h.spells.blanks;
  tokens = triplet_tokens h.triplet;
  rest = h.spells.rest;
  are_blanks = h.spells.are_blanks;
  joins = h.spells.joins;
  spelled = h.spells.spelled;
  is = record { triplet = h.triplet; x = h.spells.x; y = h.spells.y; z = h.spells.z; are = refl };
  before = λ e. absurd (cc);
  outside = λ e. absurd (cc);
}

pub triplet_recognises : Recognises triplet_recogniser IsTriplet
triplet_recognises = record {
  ends = λ xs h. triplet_texts.ends xs (triplet-text xs h);
  only = λ xs h. text-triplet xs (triplet_texts.only xs h);
  rest = triplet_texts.rest;
  completes = triplet_texts.completes;
}

-- A byte more in the program.

after-next : (f : Front) (last k : Kind) (c : ℕ) → next_byte triplet_scanner f last k c ≡ front_after f last k c
after-next f Blank Blank c = refl
after-next f Digit Blank c = refl
after-next f Mark Blank c = refl
after-next f Digit Digit c = refl
after-next f Blank Digit c = refl
after-next f Mark Digit c = refl
after-next f Blank Mark c = refl
after-next f Digit Mark c = refl
after-next f Mark Mark c = refl

pub step-some : (f g : Front) (last : Kind) (c : ℕ) → front_after f last (kind_of c) c ≡ Some g → triplet_recogniser.step (f, last) c ≡ Some (g, kind_of c)
step-some f g last c e = ap (option_map (λ t. (t, kind_of c))) (after-next f last (kind_of c) c ∙ e)

pub step-none : (f : Front) (last : Kind) (c : ℕ) → front_after f last (kind_of c) c ≡ None → triplet_recogniser.step (f, last) c ≡ None
step-none f last c e = ap (option_map (λ t. (t, kind_of c))) (after-next f last (kind_of c) c ∙ e)

pub live-after : (f g : Front) (last k : Kind) (c : ℕ) → front_after f last k c ≡ Some g → is_live f ≡ true → is_live g ≡ true
live-after f g Blank Blank c e l = let same : f ≡ g = cc in subst (λ h. is_live h ≡ true) same l
live-after f g Digit Blank c e l = let same : f ≡ g = cc in subst (λ h. is_live h ≡ true) same l
live-after f g Mark Blank c e l = let same : f ≡ g = cc in subst (λ h. is_live h ≡ true) same l
live-after f g Digit Digit c e l = let same : f ≡ g = cc in subst (λ h. is_live h ≡ true) same l
live-after f g Blank Digit c e l = live-next f g Number e l
live-after f g Mark Digit c e l = live-next f g Number e l
live-after f g Blank Mark c e l = live-next f g (sort_of c) e l
live-after f g Digit Mark c e l = live-next f g (sort_of c) e l
live-after f g Mark Mark c e l = live-next f g (sort_of c) e l

pub is-end : (f : Front) (last : Kind) → ends_triplet f ≡ true → triplet_recogniser.IsEnd (f, last)
is-end f Blank e = ap (λ b. b || not (is_live f)) e
is-end f Digit e = ap (λ b. b || not (is_live f)) e
is-end f Mark e = ap (λ b. b || not (is_live f)) e

pub end-is : (f : Front) (last : Kind) → is_live f ≡ true → triplet_recogniser.IsEnd (f, last) → ends_triplet f ≡ true
end-is f Blank l e = live-end f e l
end-is f Digit l e = live-end f e l
end-is f Mark l e = live-end f e l
