-- The numbers of several fractions, one after another.
--   none-zero, here-zero, later-zero           zeros of two lists of numbers
--   none-beyond, here-beyond, later-beyond     and numbers beyond their limits
--   same-denominators, same-limited, same-value     what is read of a fraction is what is written
use Rattle.std.proofs.Common.{◌≡◌, ap, ap₂, ℕ, List, [], ◌∷◌, ◌++◌, Option, inl, inr}
use Rattle.irr_rational.specs.Rational.{ratio}
use Rattle.irr_token.specs.declared.read.Quotient.{Quotient}
use Rattle.irr_token.specs.Token.{PlacedNumber, value_of}
use Rattle.irr_token.specs.Quotient.{WrittenQuotient, with_sign, denominator_value, quotient_value}
use Rattle.irr_token.specs.Reading.{written_quotient, IsReadAs}
use Rattle.irr_token.specs.Fault.{Limited, AreNotZero, IsFirstZero, AreWithin, IsFirstBeyond, present, present_limited, denominators, limited}

pub none-zero : (ns ms : List PlacedNumber) → AreNotZero ns → AreNotZero ms → AreNotZero (ns ++ ms)
none-zero [] ms h g = g
none-zero (n ∷ ns) ms h g = (h.0, none-zero ns ms h.1 g)

pub here-zero : (ns ms : List PlacedNumber) (p : ℕ) → IsFirstZero ns p → IsFirstZero (ns ++ ms) p
here-zero [] ms p h = absurd h
here-zero (n ∷ ns) ms p (inl h) = inl h
here-zero (n ∷ ns) ms p (inr h) = inr (h.0, here-zero ns ms p h.1)

pub later-zero : (ns ms : List PlacedNumber) (p : ℕ) → AreNotZero ns → IsFirstZero ms p → IsFirstZero (ns ++ ms) p
later-zero [] ms p h g = g
later-zero (n ∷ ns) ms p h g = inr (h.0, later-zero ns ms p h.1 g)

pub none-beyond : (ns ms : List Limited) → AreWithin ns → AreWithin ms → AreWithin (ns ++ ms)
none-beyond [] ms h g = g
none-beyond (n ∷ ns) ms h g = (h.0, none-beyond ns ms h.1 g)

pub here-beyond : (ns ms : List Limited) (p : ℕ) → IsFirstBeyond ns p → IsFirstBeyond (ns ++ ms) p
here-beyond [] ms p h = absurd h
here-beyond (n ∷ ns) ms p (inl h) = inl h
here-beyond (n ∷ ns) ms p (inr h) = inr (h.0, here-beyond ns ms p h.1)

pub later-beyond : (ns ms : List Limited) (p : ℕ) → AreWithin ns → IsFirstBeyond ms p → IsFirstBeyond (ns ++ ms) p
later-beyond [] ms p h g = g
later-beyond (n ∷ ns) ms p h g = inr (h.0, later-beyond ns ms p h.1 g)

-- the front and the rest of two lists
pub zero-parts : (ns ms : List PlacedNumber) → AreNotZero (ns ++ ms) → AreNotZero ns × AreNotZero ms
zero-parts [] ms h = (tt, h)
zero-parts (n ∷ ns) ms h = let r = zero-parts ns ms h.1 in ((h.0, r.0), r.1)

pub beyond-parts : (ns ms : List Limited) → AreWithin (ns ++ ms) → AreWithin ns × AreWithin ms
beyond-parts [] ms h = (tt, h)
beyond-parts (n ∷ ns) ms h = let r = beyond-parts ns ms h.1 in ((h.0, r.0), r.1)

pub same-denominators : (r : Quotient) (q : WrittenQuotient) → IsReadAs r q → denominators (written_quotient r) ≡ denominators q
same-denominators r q h = ap present h.denominator

pub same-limited : (m : ℕ) (r : Quotient) (q : WrittenQuotient) → IsReadAs r q → limited m (written_quotient r) ≡ limited m q
same-limited m r q h = ap₂ (λ (n : PlacedNumber) (d : Option PlacedNumber). record { limit = m; number = n } ∷ present_limited d) h.numerator h.denominator

pub same-value : (r : Quotient) (q : WrittenQuotient) → IsReadAs r q → quotient_value (written_quotient r) ≡ quotient_value q
same-value r q h = ap₂ ratio (ap₂ with_sign h.sign (ap value_of h.numerator)) (ap denominator_value h.denominator)
