-- The terms that are read of a triplet's text.
--   written_term r         the term, as it is written, that the program's value r stands for; its letter is in lower case
--   plain t                the term t in lower case
--   letter_of c            the letter whose byte is c, in either case
--   IsUnsigned ts          the tokens ts do not begin with a sign
--   IsBehindTerm ts        the tokens ts do not go on with a term before them
--   IsBehindComponent ts   nor with a component
--   slot_term r s          the term of the letter, or of none, that s says, among those in r
--   IsZeroAnswer o ns      o is the place of the first number of ns that is 0, or nothing where there is none
--   IsBeyondAnswer o ls    o is the place of the first number of ls that is beyond its limit, or nothing where there is none
--   IsWith r t s           s has the term t more than r
--   IsReadOn r ts s        s has the terms ts more than r
--   IsRead ts s            s has the terms ts
use Rattle.std.specs.Prelude.{ℕ, ◌≡◌, ◌≢◌, false, List, [], ◌∷◌, ◌++◌, Option, None, Some, IfSome, if◌then◌else◌, nat_eq, ◌||◌}
use Rattle.std.specs.Option.{option_map, option_or}
use Rattle.std.specs.Str.Parse.{AllDigits}
use Rattle.irr_token.specs.declared.kind.Kind.TheVariants.{Digit}
use Rattle.irr_token.specs.Kinds.{kind_of}
use Rattle.irr_token.specs.Token.{PlacedNumber, Token}
use Rattle.irr_token.specs.Token.Token.{number, mark}
use Rattle.irr_token.specs.Reading.{placed_number, HasDigits}
use Rattle.irr_token.specs.Fault.{Limited, AreNotZero, IsFirstZero, AreWithin, IsFirstBeyond}
use Rattle.irr_triplet.specs.declared.shape.Slot.{Slot}
use Rattle.irr_triplet.specs.declared.shape.Slot.TheVariants.{X, Y, Z, Constant}
use Rattle.irr_triplet.specs.declared.term.Letter.{Letter}
use Rattle.irr_triplet.specs.declared.term.Letter.TheVariants as letters
use Rattle.irr_triplet.specs.declared.written.Coefficient.{Coefficient}
use Rattle.irr_triplet.specs.declared.written.WrittenTerm.{WrittenTerm}
use Rattle.irr_triplet.specs.declared.written.WrittenTerm.TheVariants as written
use Rattle.irr_token.specs.declared.read.Quotient.{Quotient}
use Rattle.irr_triplet.specs.declared.slots.Slots.{Slots}
use Rattle.irr_triplet.specs.WrittenTriplet.{Body, Term, slot_of}
use Rattle.irr_triplet.specs.WrittenTriplet.Body.{lettered, constant}
use Rattle.irr_triplet.specs.TripletFault.{same_slot, term_at, body_denominators, denominators, body_numbers, numbers}

-- a letter with its coefficient
abbrev pub letter_term : Letter → Coefficient → Term
letter_term l c = record { negative = c.negative; body = lettered (option_map placed_number c.number) false l }

abbrev pub constant_term : Quotient → Term
constant_term q = record { negative = q.negative; body = constant (placed_number q.numerator) (option_map placed_number q.denominator) }

abbrev pub written_term : WrittenTerm → Term
written_term (written.Lettered c l) = letter_term l c
written_term (written.Constant q) = constant_term q

abbrev pub plain_body : Body → Body
plain_body (lettered n upper l) = lettered n false l
plain_body (constant n d) = constant n d

abbrev pub plain : Term → Term
plain t = record { negative = t.negative; body = plain_body t.body }

-- the numbers are written in digits
abbrev pub HasSizeDigits : Coefficient → Type 0
HasSizeDigits c = IfSome (option_map placed_number c.number) (λ n. AllDigits 10 n.digits)

abbrev pub HasTermDigits : WrittenTerm → Type 0
HasTermDigits (written.Lettered c l) = HasSizeDigits c
HasTermDigits (written.Constant q) = HasDigits q

abbrev pub letter_of : ℕ → Option Letter
letter_of c = if nat_eq c 120 || nat_eq c 88 then Some letters.X else (if nat_eq c 121 || nat_eq c 89 then Some letters.Y
    else (if nat_eq c 122 || nat_eq c 90 then Some letters.Z else None))

-- the letter at the front of a text
abbrev pub front_letter : List ℕ → Option Letter
front_letter [] = None
front_letter (c ∷ cs) = letter_of c

abbrev pub BeginsWithDigit : List ℕ → Type 0
BeginsWithDigit [] = ⊥
BeginsWithDigit (c ∷ cs) = kind_of c ≡ Digit

abbrev pub IsUnsigned : List Token → Type 0
IsUnsigned [] = Unit {0}
IsUnsigned (number n ∷ ts) = Unit {0}
IsUnsigned (mark c ∷ ts) = (c ≢ 43) × (c ≢ 45)

-- no number, no letter and no slash
abbrev pub IsBehindTerm : List Token → Type 0
IsBehindTerm [] = Unit {0}
IsBehindTerm (number n ∷ ts) = ⊥
IsBehindTerm (mark c ∷ ts) = (c ≢ 47) × (letter_of c ≡ None)

abbrev pub IsBehindComponent : List Token → Type 0
IsBehindComponent ts = IsBehindTerm ts × IsUnsigned ts

abbrev pub slot_term : Slots → Slot → Option Term
slot_term r X = option_map (letter_term letters.X) r.x
slot_term r Y = option_map (letter_term letters.Y) r.y
slot_term r Z = option_map (letter_term letters.Z) r.z
slot_term r Constant = option_map constant_term r.constant

pub record HaveDigits (r : Slots) : Type 0 where
  pub x : IfSome r.x HasSizeDigits
  pub y : IfSome r.y HasSizeDigits
  pub z : IfSome r.z HasSizeDigits
  pub constant : IfSome r.constant HasDigits

abbrev pub IsZeroAnswer : Option ℕ → List PlacedNumber → Type 0
IsZeroAnswer None ns = AreNotZero ns
IsZeroAnswer (Some p) ns = IsFirstZero ns p

abbrev pub IsBeyondAnswer : Option ℕ → List Limited → Type 0
IsBeyondAnswer None ls = AreWithin ls
IsBeyondAnswer (Some p) ls = IsFirstBeyond ls p

pub record IsWith (r : Slots) (t : Term) (s : Slots) : Type 0 where
  pub slots : (k : Slot) → slot_term s k ≡ (if same_slot k (slot_of t.body) then Some t else slot_term r k)
  pub zero : (ns : List PlacedNumber) → IsZeroAnswer r.zero ns → IsZeroAnswer s.zero (ns ++ body_denominators t.body)
  pub beyond : (ls : List Limited) → IsBeyondAnswer r.beyond ls → IsBeyondAnswer s.beyond (ls ++ body_numbers t.body)

pub record IsReadOn (r : Slots) (ts : List Term) (s : Slots) : Type 0 where
  pub slots : (k : Slot) → slot_term s k ≡ option_or (option_map plain (term_at k ts)) (slot_term r k)
  pub zero : (ns : List PlacedNumber) → IsZeroAnswer r.zero ns → IsZeroAnswer s.zero (ns ++ denominators ts)
  pub beyond : (ls : List Limited) → IsBeyondAnswer r.beyond ls → IsBeyondAnswer s.beyond (ls ++ numbers ts)

pub record IsRead (ts : List Term) (s : Slots) : Type 0 where
  pub slots : (k : Slot) → slot_term s k ≡ option_map plain (term_at k ts)
  pub zero : IsZeroAnswer s.zero (denominators ts)
  pub beyond : IsBeyondAnswer s.beyond (numbers ts)
