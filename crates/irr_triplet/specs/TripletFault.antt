-- What a text says of an operation, or why it says nothing.
--   terms c                the terms of the component c with their signs; no sign is a plus
--   term_at s ts           the term of ts with the letter, or without one, that s says, if there is one
--   coefficient l ts       the coefficient of the letter l: its number, or 1, with its sign; 0 where the letter is missing
--   constant_value ts      the term without a letter, with its sign; 0 where there is none
--   triplet_denominators t, triplet_numbers t     the numbers of t in the order of the text, coefficients with the limit 9
--   IsValue t g            g is the operation that t writes: the components are the rows
--   HasCommonDenominator t     the least common denominator of the constants is at most 100,000
--   IsWritten t g          no denominator of t is 0, no number passes its limit, and g is its value
--   IsRangeFault t n p     a number of t passes its limit, the first of them at p; or only the common denominator does, and p is n
--   IsDeterminantFault t   none of these, but the determinant is neither 1 nor -1
--   IsFault text e         the error e comes with the text, at its place
--   IsTextOf text g        the text writes g, with no fault
use Rattle.std.specs.Prelude.{ℕ, ℤ, pos, ◌≡◌, ◌≢◌, ◌≤◌, ◌⊎◌, Bool, true, false, List, [], ◌∷◌, ◌++◌, length, Option, None, Some, if◌then◌else◌, unsigned_abs}
use Rattle.irr_algebra.specs.Fin.{Fin}
use Rattle.irr_algebra.specs.Fin.Fin.{first, next}
use Rattle.irr_rational.specs.Rational.{Rational, ratio}
use Rattle.irr_rational.specs.Ratio.{AreLowest}
use Rattle.irr_space.specs.Operation.{Operation, component}
use Rattle.irr_seitz.specs.Rotation.{determinant}
use Rattle.irr_grammar.specs.ShapePlace.{IsShapePlace}
use Rattle.irr_token.specs.declared.faults.TheConstants.{DENOMINATOR_LIMIT}
use Rattle.irr_token.specs.Token.{PlacedNumber, value_of}
use Rattle.irr_token.specs.Quotient.{is_negative, with_sign, quotient_value}
use Rattle.irr_token.specs.Fault.{Limited, AreNotZero, IsFirstZero, AreWithin, IsFirstBeyond, present, present_limited}
use Rattle.irr_triplet.specs.declared.shape.Slot.{Slot}
use Rattle.irr_triplet.specs.declared.shape.Slot.TheVariants.{X, Y, Z, Constant}
use Rattle.irr_triplet.specs.declared.term.Letter.{Letter}
use Rattle.irr_triplet.specs.declared.term.Letter.TheVariants as letters
use Rattle.irr_triplet.specs.declared.reading.TheConstants.{COEFFICIENT_LIMIT}
use Rattle.irr_triplet.specs.declared.reading.TripletError.{TripletError}
use Rattle.irr_triplet.specs.declared.reading.TripletError.TheVariants.{Shape, Zero, Range, Determinant}
use Rattle.irr_triplet.specs.WrittenTriplet.{Body, Term, WrittenComponent, WrittenTriplet, letter_slot, slot_of, IsSpelling, IsTriplet}
use Rattle.irr_triplet.specs.WrittenTriplet.Body.{lettered, constant}

abbrev pub terms : WrittenComponent → List Term
terms c = record { negative = is_negative c.sign; body = c.front } ∷ c.later

abbrev pub same_slot : Slot → Slot → Bool
same_slot X X = true
same_slot X s = false
same_slot Y Y = true
same_slot Y s = false
same_slot Z Z = true
same_slot Z s = false
same_slot Constant Constant = true
same_slot Constant s = false

abbrev pub term_at : Slot → List Term → Option Term
term_at s [] = None
term_at s (t ∷ ts) = if same_slot s (slot_of t.body) then Some t else term_at s ts

-- the number before a letter, 1 where none is written
abbrev pub size_value : Option PlacedNumber → ℕ
size_value None = 1
size_value (Some n) = value_of n

abbrev pub body_coefficient : Bool → Body → ℤ
body_coefficient negative (lettered n upper l) = with_sign negative (size_value n)
body_coefficient negative (constant n d) = pos 0

abbrev pub coefficient_of : Option Term → ℤ
coefficient_of None = pos 0
coefficient_of (Some t) = body_coefficient t.negative t.body

abbrev pub coefficient : Letter → List Term → ℤ
coefficient l ts = coefficient_of (term_at (letter_slot l) ts)

abbrev pub body_constant : Bool → Body → Rational
body_constant negative (lettered n upper l) = ratio (pos 0) 1
body_constant negative (constant n d) = quotient_value (record { sign = Some negative; numerator = n; denominator = d })

abbrev pub constant_of : Option Term → Rational
constant_of None = ratio (pos 0) 1
constant_of (Some t) = body_constant t.negative t.body

abbrev pub constant_value : List Term → Rational
constant_value ts = constant_of (term_at Constant ts)

abbrev pub body_denominators : Body → List PlacedNumber
body_denominators (lettered n upper l) = []
body_denominators (constant n d) = present d

abbrev pub denominators : List Term → List PlacedNumber
denominators [] = []
denominators (t ∷ ts) = body_denominators t.body ++ denominators ts

abbrev pub size_limited : Option PlacedNumber → List Limited
size_limited None = []
size_limited (Some n) = record { limit = COEFFICIENT_LIMIT; number = n } ∷ []

abbrev pub body_numbers : Body → List Limited
body_numbers (lettered n upper l) = size_limited n
body_numbers (constant n d) = record { limit = DENOMINATOR_LIMIT; number = n } ∷ present_limited d

abbrev pub numbers : List Term → List Limited
numbers [] = []
numbers (t ∷ ts) = body_numbers t.body ++ numbers ts

abbrev pub triplet_denominators : WrittenTriplet → List PlacedNumber
triplet_denominators t = denominators (terms t.x) ++ (denominators (terms t.y) ++ denominators (terms t.z))

abbrev pub triplet_numbers : WrittenTriplet → List Limited
triplet_numbers t = numbers (terms t.x) ++ (numbers (terms t.y) ++ numbers (terms t.z))

-- the terms ts are row i of g
pub record IsRowOf (ts : List Term) (g : Operation) (i : Fin 3) : Type 0 where
  pub at_x : g.rotation.at i first ≡ coefficient letters.X ts
  pub at_y : g.rotation.at i (next first) ≡ coefficient letters.Y ts
  pub at_z : g.rotation.at i (next (next first)) ≡ coefficient letters.Z ts
  pub shift : component g.vector i ≡ constant_value ts

pub record IsValue (t : WrittenTriplet) (g : Operation) : Type 0 where
  pub x : IsRowOf (terms t.x) g first
  pub y : IsRowOf (terms t.y) g (next first)
  pub z : IsRowOf (terms t.z) g (next (next first))

pub record HasCommonDenominator (t : WrittenTriplet) : Type 0 where
  pub num : Fin 3 → ℤ
  pub den : ℕ
  pub lowest : AreLowest num den
  pub x : ratio (num first) den ≡ constant_value (terms t.x)
  pub y : ratio (num (next first)) den ≡ constant_value (terms t.y)
  pub z : ratio (num (next (next first))) den ≡ constant_value (terms t.z)
  pub within : den ≤ DENOMINATOR_LIMIT

abbrev pub IsWritten : WrittenTriplet → Operation → Type 0
IsWritten t g = AreNotZero (triplet_denominators t) × AreWithin (triplet_numbers t) × IsValue t g

abbrev pub IsRangeFault : WrittenTriplet → ℕ → ℕ → Type 0
IsRangeFault t n p = AreNotZero (triplet_denominators t)
    × (IsFirstBeyond (triplet_numbers t) p ⊎ (AreWithin (triplet_numbers t) × ¬ (HasCommonDenominator t) × (p ≡ n)))

pub record IsDeterminantFault (t : WrittenTriplet) : Type 0 where
  pub value : Operation
  pub written : IsWritten t value
  pub common : HasCommonDenominator t
  pub determinant : unsigned_abs (determinant value.rotation) ≢ 1

-- each way in which the text spells a triplet is meant; there is one at most, as it is answered at the same place
abbrev pub IsFault : List ℕ → TripletError → Type 0
IsFault text (Shape p) = ¬ (IsTriplet text) × IsShapePlace IsTriplet text p
IsFault text (Zero p) = IsTriplet text × ((t : WrittenTriplet) → IsSpelling t text → IsFirstZero (triplet_denominators t) p)
IsFault text (Range p) = IsTriplet text × ((t : WrittenTriplet) → IsSpelling t text → IsRangeFault t (length text) p)
IsFault text Determinant = IsTriplet text × ((t : WrittenTriplet) → IsSpelling t text → IsDeterminantFault t)

-- the text spells a triplet with no fault, and g is its value
pub record IsTextOf (text : List ℕ) (g : Operation) : Type 0 where
  pub triplet : WrittenTriplet
  pub spells : IsSpelling triplet text
  pub written : IsWritten triplet g
  pub common : HasCommonDenominator triplet
  pub unimodular : unsigned_abs (determinant g.rotation) ≡ 1
