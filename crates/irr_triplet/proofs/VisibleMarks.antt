-- The marks of a triplet are no blanks, and end no line.
--   AreVisible ts       each mark of the tokens ts is a byte above 32
--   visible-append, visible-sign, visible-over     the parts of tokens
--   visible-triplet     the tokens of a triplet
use Rattle.std.proofs.Common.{◌<◌, Bool, true, false, List, [], ◌∷◌, ◌++◌, Option, None, Some, arith}
use Rattle.std.specs.Prelude.{if◌then◌else◌}
use Rattle.irr_token.specs.Token.{PlacedNumber, Token}
use Rattle.irr_token.specs.Token.Token.{number, mark}
use Rattle.irr_token.specs.Quotient.{sign_byte, sign_tokens, over_tokens}
use Rattle.irr_triplet.specs.declared.term.Letter.{Letter}
use Rattle.irr_triplet.specs.declared.term.Letter.TheVariants.{X, Y, Z}
use Rattle.irr_triplet.specs.Letters.{letter_byte}
use Rattle.irr_triplet.specs.WrittenTriplet.{Body, Term, WrittenComponent, WrittenTriplet, upper_byte, coefficient_tokens, body_tokens, later_tokens, component_tokens, quote_tokens, triplet_tokens}
use Rattle.irr_triplet.specs.WrittenTriplet.Body.{lettered, constant}

abbrev pub AreVisible : List Token → Type 0
AreVisible [] = Unit {0}
AreVisible (number n ∷ ts) = AreVisible ts
AreVisible (mark c ∷ ts) = (32 < c) × AreVisible ts

pub visible-append : (ts us : List Token) → AreVisible ts → AreVisible us → AreVisible (ts ++ us)
visible-append [] us h k = k
visible-append (number n ∷ ts) us h k = visible-append ts us h k
visible-append (mark c ∷ ts) us h k = (h.0, visible-append ts us h.1 k)

visible-sign_byte : (negative : Bool) → 32 < sign_byte negative
visible-sign_byte true = omega arith
visible-sign_byte false = omega arith

pub visible-sign : (s : Option Bool) → AreVisible (sign_tokens s)
visible-sign None = tt
visible-sign (Some negative) = (visible-sign_byte negative, tt)

pub visible-over : (d : Option PlacedNumber) → AreVisible (over_tokens d)
visible-over None = tt
visible-over (Some d) = (omega arith, tt)

visible-letter : (upper : Bool) (l : Letter) → 32 < (if upper then upper_byte l else letter_byte l)
visible-letter true X = omega arith
visible-letter true Y = omega arith
visible-letter true Z = omega arith
visible-letter false X = omega arith
visible-letter false Y = omega arith
visible-letter false Z = omega arith

visible-coefficient : (n : Option PlacedNumber) → AreVisible (coefficient_tokens n)
visible-coefficient None = tt
visible-coefficient (Some n) = tt

visible-body : (b : Body) → AreVisible (body_tokens b)
visible-body (lettered n upper l) = visible-append (coefficient_tokens n) (mark (if upper then upper_byte l else letter_byte l) ∷ []) (visible-coefficient n)
    (visible-letter upper l, tt)
visible-body (constant n d) = visible-over d

visible-later : (ts : List Term) → AreVisible (later_tokens ts)
visible-later [] = tt
visible-later (t ∷ ts) = (visible-sign_byte t.negative, visible-append (body_tokens t.body) (later_tokens ts) (visible-body t.body) (visible-later ts))

visible-component : (c : WrittenComponent) → AreVisible (component_tokens c)
visible-component c = visible-append (sign_tokens c.sign) (body_tokens c.front ++ later_tokens c.later) (visible-sign c.sign)
    (visible-append (body_tokens c.front) (later_tokens c.later) (visible-body c.front) (visible-later c.later))

visible-quote : (q : Option Bool) → AreVisible (quote_tokens q)
visible-quote None = tt
visible-quote (Some true) = (omega arith, tt)
visible-quote (Some false) = (omega arith, tt)

pub visible-triplet : (t : WrittenTriplet) → AreVisible (triplet_tokens t)
visible-triplet t =
    let last = component_tokens t.z ++ quote_tokens t.quote in
    let second = component_tokens t.y ++ (mark 44 ∷ last) in
    visible-append (quote_tokens t.quote) (component_tokens t.x ++ (mark 44 ∷ second)) (visible-quote t.quote)
    (visible-append (component_tokens t.x) (mark 44 ∷ second) (visible-component t.x) (
      omega arith,
      visible-append (component_tokens t.y) (mark 44 ∷ last) (visible-component t.y) (
        omega arith,
        visible-append (component_tokens t.z) (quote_tokens t.quote) (visible-component t.z) (visible-quote t.quote),
      ),
    ))
