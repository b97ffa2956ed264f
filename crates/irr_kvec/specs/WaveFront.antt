-- Where a front of a wave vector's text ends, and what may follow.
--   sort_of c              the sort of the mark c
--   next_front f s         where the front ends after one token more, of the sort s; none where it begins no text of a wave vector
--   rests_front f          blanks may stand here
--   front_after f last k c     where the front ends after one byte c more, of the kind k, behind a byte of the kind last
--   ends_front f last      whether the front is a whole text
use Rattle.std.specs.Prelude.{ℕ, Bool, true, false, Option, None, Some, if◌then◌else◌, nat_eq, ◌||◌, not}
use Rattle.irr_token.specs.declared.kind.Kind.{Kind}
use Rattle.irr_token.specs.declared.kind.Kind.TheVariants.{Blank, Digit, Mark}
use Rattle.irr_kvec.specs.declared.shape.Sort.{Sort}
use Rattle.irr_kvec.specs.declared.shape.Sort.TheVariants.{Number, Sign, Slash, Comma, Other}
use Rattle.irr_kvec.specs.declared.shape.Part.{Part}
use Rattle.irr_kvec.specs.declared.shape.Part.TheVariants.{First, Second, Third}
use Rattle.irr_kvec.specs.declared.shape.Front.{Front}
use Rattle.irr_kvec.specs.declared.shape.Front.TheVariants.{Start, Signed, Numerator, Over, Denominator}

abbrev pub sort_of : ℕ → Sort
sort_of c = if nat_eq c 43 || nat_eq c 45 then Sign else (if nat_eq c 47 then Slash else (if nat_eq c 44 then Comma else Other))

-- behind a comma
abbrev pub behind_comma : Part → Option Front
behind_comma First = Some (Start Second)
behind_comma Second = Some (Start Third)
behind_comma Third = None

abbrev pub next_front : Front → Sort → Option Front
next_front (Start p) Sign = Some (Signed p)
next_front (Start p) Number = Some (Numerator p)
next_front (Start p) _ = None
next_front (Signed p) Number = Some (Numerator p)
next_front (Signed p) _ = None
next_front (Numerator p) Slash = Some (Over p)
next_front (Numerator p) Comma = behind_comma p
next_front (Numerator p) _ = None
next_front (Over p) Number = Some (Denominator p)
next_front (Over p) _ = None
next_front (Denominator p) Comma = behind_comma p
next_front (Denominator p) _ = None

abbrev pub rests_front : Front → Bool
rests_front (Start First) = false
rests_front (Denominator Third) = false
rests_front _ = true

abbrev pub front_after : Front → (last k : Kind) → ℕ → Option Front
front_after f last Blank c = if rests_front f then Some f else None
front_after f Digit Digit c = Some f
front_after f last Digit c = next_front f Number
front_after f last Mark c = next_front f (sort_of c)

abbrev pub ends_wave : Front → Bool
ends_wave (Numerator Third) = true
ends_wave (Denominator Third) = true
ends_wave _ = false

-- behind a blank only at a front where none may stand, which does not come
abbrev pub ends_front : Front → Kind → Bool
ends_front f Blank = not (rests_front f)
ends_front f last = ends_wave f
