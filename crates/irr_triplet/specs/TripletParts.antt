-- The values of what is read of a triplet's text.
--   AreParts r t           r is read of the triplet t
--   IsUnquoted ts          the tokens ts do not begin with a quote
--   IsSized c              the number of the coefficient c is within its limit
--   IsSoundConstant q      the denominator of q is not 0, and its numbers are within their limits
--   IsSound s              all coefficients of s and its constant are so
--   HasBounds v            the numbers of the fraction v are small, and its denominator is not 0
use Rattle.std.specs.Prelude.{◌≢◌, ◌<◌, ◌≤◌, List, [], ◌∷◌, IfSome, unsigned_abs}
use Rattle.std.specs.Option.{option_map}
use Rattle.irr_token.specs.declared.common.Value.{Value}
use Rattle.irr_token.specs.declared.faults.TheConstants.{DENOMINATOR_LIMIT}
use Rattle.irr_token.specs.declared.read.Quotient.{Quotient}
use Rattle.irr_token.specs.Token.{Token}
use Rattle.irr_token.specs.Token.Token.{number, mark}
use Rattle.irr_token.specs.Reading.{placed_number, written_quotient}
use Rattle.irr_token.specs.Fault.{AreNotZero, AreWithin, denominators, limited}
use Rattle.irr_triplet.specs.declared.reading.Parts.{Parts}
use Rattle.irr_triplet.specs.declared.slots.Slots.{Slots}
use Rattle.irr_triplet.specs.declared.written.Coefficient.{Coefficient}
use Rattle.irr_triplet.specs.WrittenTriplet.{WrittenTriplet}
use Rattle.irr_triplet.specs.TripletFault.{terms, size_limited}
use Rattle.irr_triplet.specs.WrittenTerms.{IsRead}

pub record AreParts (r : Parts) (t : WrittenTriplet) : Type 0 where
  pub x : IsRead (terms t.x) r.x
  pub y : IsRead (terms t.y) r.y
  pub z : IsRead (terms t.z) r.z

abbrev pub IsUnquoted : List Token → Type 0
IsUnquoted [] = Unit {0}
IsUnquoted (number n ∷ ts) = Unit {0}
IsUnquoted (mark c ∷ ts) = (c ≢ 39) × (c ≢ 34)

abbrev pub IsSized : Coefficient → Type 0
IsSized c = AreWithin (size_limited (option_map placed_number c.number))

abbrev pub IsSoundConstant : Quotient → Type 0
IsSoundConstant q = AreNotZero (denominators (written_quotient q)) × AreWithin (limited DENOMINATOR_LIMIT (written_quotient q))

pub record IsSound (r : Slots) : Type 0 where
  pub x : IfSome r.x IsSized
  pub y : IfSome r.y IsSized
  pub z : IfSome r.z IsSized
  pub constant : IfSome r.constant IsSoundConstant

abbrev pub HasBounds : Value → Type 0
HasBounds v = (unsigned_abs v.num ≤ 1000000) × (0 < v.den) × (v.den ≤ DENOMINATOR_LIMIT)
