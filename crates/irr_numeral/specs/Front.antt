-- Where a front of a number's text ends, and what may follow.
--   kind_of c            the kind of the byte c
--   next_front f k       where the front ends after one byte more, of the kind k; none where it begins no text of a number
--   ends_text f          whether the front is a whole text
use Rattle.std.specs.Prelude.{ℕ, Bool, true, false, Option, None, Some, if◌then◌else◌, nat_eq, nat_le, ◌&&◌, not}
use Rattle.irr_numeral.specs.declared.shape.Kind.{Kind}
use Rattle.irr_numeral.specs.declared.shape.Kind.TheVariants.{Minus, Plus, Slash, Star, Letter, Caret, Nought, Digit, Other}
use Rattle.irr_numeral.specs.declared.shape.Front.{Front}
use Rattle.irr_numeral.specs.declared.shape.Front.TheVariants.{Start, Zero, Sign, Numerator, Over, OverZero, Denominator, Times, Root, Power, Exponent}

abbrev pub kind_of : ℕ → Kind
kind_of c = if nat_eq c 45 then Minus else (if nat_eq c 43 then Plus else (if nat_eq c 47 then Slash else (if nat_eq c 42 then Star
    else (if nat_eq c 122 then Letter else (if nat_eq c 94 then Caret else (if nat_eq c 48 then Nought else (if nat_le 49 c && nat_le c 57 then Digit else Other)))))))

-- behind a coefficient: *z^, and another term where this one is the first
abbrev pub behind_coefficient : Bool → Kind → Option Front
behind_coefficient later Star = Some Times
behind_coefficient false Plus = Some (Sign true)
behind_coefficient false Minus = Some (Sign true)
behind_coefficient later _ = None

abbrev pub next_front : Front → Kind → Option Front
next_front Start Minus = Some (Sign false)
next_front Start Nought = Some Zero
next_front Start Digit = Some (Numerator false)
next_front Start _ = None
next_front Zero _ = None
next_front (Sign later) Digit = Some (Numerator later)
next_front (Sign later) _ = None
next_front (Numerator later) Nought = Some (Numerator later)
next_front (Numerator later) Digit = Some (Numerator later)
next_front (Numerator later) Slash = Some (Over later)
next_front (Numerator later) k = behind_coefficient later k
next_front (Over later) Nought = Some (OverZero later)
next_front (Over later) Digit = Some (Denominator later)
next_front (Over later) _ = None
next_front (OverZero later) k = behind_coefficient later k
next_front (Denominator later) Nought = Some (Denominator later)
next_front (Denominator later) Digit = Some (Denominator later)
next_front (Denominator later) k = behind_coefficient later k
next_front Times Letter = Some Root
next_front Times _ = None
next_front Root Caret = Some Power
next_front Root _ = None
next_front Power Digit = Some Exponent
next_front Power _ = None
next_front Exponent Nought = Some Exponent
next_front Exponent Digit = Some Exponent
next_front Exponent Plus = Some (Sign true)
next_front Exponent Minus = Some (Sign true)
next_front Exponent _ = None

abbrev pub ends_text : Front → Bool
ends_text Zero = true
ends_text (Numerator later) = not later
ends_text (OverZero later) = not later
ends_text (Denominator later) = not later
ends_text Exponent = true
ends_text _ = false
