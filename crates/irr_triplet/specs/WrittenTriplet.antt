-- Triplets as they are written:
--     triplet = inner | ' inner ' | " inner ",  inner = component , component , component,
--     component = [sign] term { sign term },  term = letter | number letter | number | number / number
--   Body                  a term without its sign: a letter with its coefficient, where one is written, in upper case where the flag
--                         is true; or a constant
--   slot_of b             which letter b has, or that it is a constant
--   WrittenComponent      the sign of the first term, where there is one, the first term, and the others with their signs
--   IsComponent c         each letter stands at most once in c, whichever its case, and at most one term has no letter
--   WrittenTriplet        the quote, where there is one (true for the double quote), and the three components
--   triplet_tokens t      the tokens of t
--   IsSpelling t text     the text is the tokens of t, with blanks before, between and behind
--   IsTriplet text        the text spells some triplet
use Rattle.std.specs.Prelude.{ℕ, ◌≡◌, ◌≢◌, Bool, List, [], ◌∷◌, ◌++◌, length, Option, None, Some, if◌then◌else◌}
use Rattle.irr_token.specs.Kinds.{AreBlanks}
use Rattle.irr_token.specs.Token.{PlacedNumber, Token}
use Rattle.irr_token.specs.Token.Token.{number, mark}
use Rattle.irr_token.specs.Spelling.{AreSpelled}
use Rattle.irr_token.specs.Quotient.{sign_byte, sign_tokens, over_tokens}
use Rattle.irr_triplet.specs.declared.shape.Slot.{Slot}
use Rattle.irr_triplet.specs.declared.shape.Slot.TheVariants.{X, Y, Z, Constant}
use Rattle.irr_triplet.specs.declared.term.Letter.{Letter}
use Rattle.irr_triplet.specs.declared.term.Letter.TheVariants as letters
use Rattle.irr_triplet.specs.Letters.{letter_byte}

pub data Body : Type 0 where
  lettered : Option PlacedNumber → Bool → Letter → Body
  constant : PlacedNumber → Option PlacedNumber → Body

abbrev pub upper_byte : Letter → ℕ
upper_byte letters.X = 88
upper_byte letters.Y = 89
upper_byte letters.Z = 90

abbrev pub coefficient_tokens : Option PlacedNumber → List Token
coefficient_tokens None = []
coefficient_tokens (Some n) = number n ∷ []

abbrev pub body_tokens : Body → List Token
body_tokens (lettered n upper l) = coefficient_tokens n ++ (mark (if upper then upper_byte l else letter_byte l) ∷ [])
body_tokens (constant n d) = number n ∷ over_tokens d

abbrev pub letter_slot : Letter → Slot
letter_slot letters.X = X
letter_slot letters.Y = Y
letter_slot letters.Z = Z

abbrev pub slot_of : Body → Slot
slot_of (lettered n upper l) = letter_slot l
slot_of (constant n d) = Constant

pub record Term : Type 0 where
  pub negative : Bool
  pub body : Body

pub record WrittenComponent : Type 0 where
  pub sign : Option Bool
  pub front : Body
  pub later : List Term

abbrev pub later_tokens : List Term → List Token
later_tokens [] = []
later_tokens (t ∷ ts) = mark (sign_byte t.negative) ∷ (body_tokens t.body ++ later_tokens ts)

abbrev pub component_tokens : WrittenComponent → List Token
component_tokens c = sign_tokens c.sign ++ (body_tokens c.front ++ later_tokens c.later)

-- the slot s is that of no term of ts
abbrev pub Lacks : Slot → List Term → Type 0
Lacks s [] = Unit {0}
Lacks s (t ∷ ts) = (s ≢ slot_of t.body) × Lacks s ts

abbrev pub AreDistinct : List Term → Type 0
AreDistinct [] = Unit {0}
AreDistinct (t ∷ ts) = Lacks (slot_of t.body) ts × AreDistinct ts

abbrev pub IsComponent : WrittenComponent → Type 0
IsComponent c = Lacks (slot_of c.front) c.later × AreDistinct c.later

pub record WrittenTriplet : Type 0 where
  pub quote : Option Bool
  pub x : WrittenComponent
  pub y : WrittenComponent
  pub z : WrittenComponent

abbrev pub quote_tokens : Option Bool → List Token
quote_tokens None = []
quote_tokens (Some double) = mark (if double then 34 else 39) ∷ []

abbrev pub triplet_tokens : WrittenTriplet → List Token
triplet_tokens t = quote_tokens t.quote ++ (component_tokens t.x ++ (mark 44 ∷ (component_tokens t.y ++ (mark 44 ∷ (component_tokens t.z ++ quote_tokens t.quote)))))

pub record IsSpelling (t : WrittenTriplet) (text : List ℕ) : Type 0 where
  pub x : IsComponent t.x
  pub y : IsComponent t.y
  pub z : IsComponent t.z
  pub blanks : List ℕ
  pub rest : List ℕ
  pub are_blanks : AreBlanks blanks
  pub joins : text ≡ blanks ++ rest
  pub spelled : AreSpelled (length blanks) (triplet_tokens t) rest

pub record IsTriplet (text : List ℕ) : Type 0 where
  pub triplet : WrittenTriplet
  pub spells : IsSpelling triplet text
