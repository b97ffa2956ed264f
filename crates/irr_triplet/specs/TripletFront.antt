-- Where a front of a triplet's text ends, and what may follow.
--   sort_of c              the sort of the mark c
--   is_used u s            the terms so far have the slot s
--   with_slot u s          the slots used with s more
--   is_full u              no slot is left
--   lettered, slashed, signed, signed_behind_number      where the front ends behind a letter, a slash and a sign; none where no slot is left for the term
--   next_at q p u a s      where the front ends in its component after one token more, of the sort s
--   ended u a              a component may end here
--   behind q p s           where the front ends with a token of the sort s behind the component p, in the quotes q
--   opening s              where the front ends with its first token
--   next_within q p u a s  where a front in a component ends after one token more
--   next_front f s         where the front ends after one token more; none where it begins no triplet's text
--   front_after f last k c     where the front ends after one byte c more, of the kind k, behind a byte of the kind last
--   ends_triplet f         whether the front is a whole text
use Rattle.std.specs.Prelude.{ℕ, Bool, true, false, Option, None, Some, if◌then◌else◌, nat_eq, ◌||◌, ◌&&◌, not}
use Rattle.std.specs.Option.{option_or}
use Rattle.irr_token.specs.declared.kind.Kind.{Kind}
use Rattle.irr_token.specs.declared.kind.Kind.TheVariants.{Blank, Digit, Mark}
use Rattle.irr_triplet.specs.declared.shape.Slot.{Slot}
use Rattle.irr_triplet.specs.declared.shape.Slot.TheVariants.{X, Y, Z, Constant}
use Rattle.irr_triplet.specs.declared.shape.Sort.{Sort}
use Rattle.irr_triplet.specs.declared.shape.Sort.TheVariants.{Number, Sign, Slash, Comma, Single, Double, Letter, Other}
use Rattle.irr_triplet.specs.declared.shape.Quote.{Quote}
use Rattle.irr_triplet.specs.declared.shape.Quote.TheVariants.{Unquoted, InSingle, InDouble}
use Rattle.irr_triplet.specs.declared.shape.Part.{Part}
use Rattle.irr_triplet.specs.declared.shape.Part.TheVariants.{First, Second, Third}
use Rattle.irr_triplet.specs.declared.shape.Used.{Used}
use Rattle.irr_triplet.specs.declared.shape.At.{At}
use Rattle.irr_triplet.specs.declared.shape.At.TheVariants.{Start, Signed, Coefficient, Over, Behind}
use Rattle.irr_triplet.specs.declared.shape.Front.{Front}
use Rattle.irr_triplet.specs.declared.shape.Front.TheVariants.{Before, Within, Closed}

abbrev pub sort_of : ℕ → Sort
sort_of c = if nat_eq c 43 || nat_eq c 45 then Sign else (if nat_eq c 47 then Slash else (if nat_eq c 44 then Comma else (if nat_eq c 39 then Single
    else (if nat_eq c 34 then Double else (if nat_eq c 120 || nat_eq c 88 then Letter X else (if nat_eq c 121 || nat_eq c 89 then Letter Y
    else (if nat_eq c 122 || nat_eq c 90 then Letter Z else Other)))))))

abbrev pub is_used : Used → Slot → Bool
is_used u X = u.x
is_used u Y = u.y
is_used u Z = u.z
is_used u Constant = u.constant

abbrev pub with_slot : Used → Slot → Used
with_slot u X = record { x = true; y = u.y; z = u.z; constant = u.constant }
with_slot u Y = record { x = u.x; y = true; z = u.z; constant = u.constant }
with_slot u Z = record { x = u.x; y = u.y; z = true; constant = u.constant }
with_slot u Constant = record { x = u.x; y = u.y; z = u.z; constant = true }

abbrev pub is_full : Used → Bool
is_full u = u.x && (u.y && (u.z && u.constant))

abbrev pub unused : Used
unused = record { x = false; y = false; z = false; constant = false }

-- behind a letter, if it is not used already
abbrev pub lettered : Quote → Part → Used → Slot → Option Front
lettered q p u s = if is_used u s then None else Some (Within q p (with_slot u s) Behind)

-- behind a slash: the number before it is that of a constant
abbrev pub slashed : Quote → Part → Used → Option Front
slashed q p u = if u.constant then None else Some (Within q p (with_slot u Constant) Over)

-- behind a sign: another term must be able to follow
abbrev pub signed : Quote → Part → Used → Option Front
signed q p u = if is_full u then None else Some (Within q p u Signed)

abbrev pub signed_behind_number : Quote → Part → Used → Option Front
signed_behind_number q p u = if u.constant then None else signed q p (with_slot u Constant)

abbrev pub next_at : Quote → Part → Used → At → Sort → Option Front
next_at q p u Start Sign = Some (Within q p u Signed)
next_at q p u Start Number = Some (Within q p u Coefficient)
next_at q p u Start (Letter s) = lettered q p u s
next_at q p u Start _ = None
next_at q p u Signed Number = Some (Within q p u Coefficient)
next_at q p u Signed (Letter s) = lettered q p u s
next_at q p u Signed _ = None
next_at q p u Coefficient (Letter s) = lettered q p u s
next_at q p u Coefficient Slash = slashed q p u
next_at q p u Coefficient Sign = signed_behind_number q p u
next_at q p u Coefficient _ = None
next_at q p u Over Number = Some (Within q p u Behind)
next_at q p u Over _ = None
next_at q p u Behind Sign = signed q p u
next_at q p u Behind _ = None

-- a component may end here: behind a number it is a constant then
abbrev pub ended : Used → At → Bool
ended u Behind = true
ended u Coefficient = not u.constant
ended u a = false

-- what stands behind a component
abbrev pub behind : Quote → Part → Sort → Option Front
behind q First Comma = Some (Within q Second unused Start)
behind q Second Comma = Some (Within q Third unused Start)
behind InSingle Third Single = Some Closed
behind InDouble Third Double = Some Closed
behind q p s = None

-- the first token
abbrev pub opening : Sort → Option Front
opening Single = Some (Within InSingle First unused Start)
opening Double = Some (Within InDouble First unused Start)
opening s = next_at Unquoted First unused Start s

-- a token behind a component, or in it
abbrev pub next_within : Quote → Part → Used → At → Sort → Option Front
next_within q p u a s = if ended u a then option_or (behind q p s) (next_at q p u a s) else next_at q p u a s

abbrev pub next_front : Front → Sort → Option Front
next_front Before s = opening s
next_front (Within q p u a) s = next_within q p u a s
next_front Closed s = None

abbrev pub front_after : Front → (last k : Kind) → ℕ → Option Front
front_after f last Blank c = Some f
front_after f Digit Digit c = Some f
front_after f last Digit c = next_front f Number
front_after f last Mark c = next_front f (sort_of c)

abbrev pub ends_triplet : Front → Bool
ends_triplet Closed = true
ends_triplet (Within Unquoted Third u a) = ended u a
ends_triplet f = false
