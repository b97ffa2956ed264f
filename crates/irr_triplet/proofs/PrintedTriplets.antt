-- Triplets as they print are triplets as they are written.
--   Piece              a term as it prints: a letter with its size, or a fraction; true where it is negative
--   IsPiece p          the numbers of p are within the limits
--   body_at, body_end  the term without its sign, from a place on, and the place behind it
--   signed_text ps     the terms ps with their signs
--   written_at at ps   the component of the terms ps from the place at on
--   AreOf ts ps        the terms ts are written as the terms ps print
--   pieces x y z a b   the terms of a row
--   terms_of x y z a b  their texts with their signs
--   printed_read       the text of an operation that can be read writes it
--   printed_unique     so it is the text of no other operation that can be read
use Rattle.std.proofs.Common.{◌≡◌, ◌≢◌, refl, sym, ◌∙◌, ap, ap₂, subst, ℕ, zero, suc, ◌<◌, ◌≤◌, ◌+◌, ◌^◌, ℤ, pos, negsuc, Bool, true, false, List, [], ◌∷◌, ◌++◌, length, append_assoc, append-nil, Option, None, Some, arith, nat_eq}
use Rattle.std.specs.Prelude.{if◌then◌else◌}
use Rattle.std.specs.Int.RustNames.{unsigned_abs}
use Rattle.std.specs.Fmt.{decimal}
use Rattle.std.specs.Str.Parse.{digits_value}
use Rattle.std.proofs.lemmas.Fmt.{decimal_digit, decimal_is_IsNumeral}
use native.Mathlib.Nat as Nat
use Rattle.irr_algebra.specs.Fin.{Fin}
use Rattle.irr_algebra.specs.Fin.Fin.{first, next}
use Rattle.irr_rational.specs.Rational.{Rational, ratio}
use Rattle.irr_rational.specs.Ratio.{IsLowest}
use Rattle.irr_space.specs.Operation.{Operation}
use Rattle.irr_text.specs.NumberText.{fraction_text, signed_fraction, sum_text}
use Rattle.irr_text.specs.TripletText.{letter_text, component_text, triplet_text}
use Rattle.irr_token.specs.declared.kind.Kind.TheVariants.{Mark}
use Rattle.irr_token.specs.Kinds.{kind_of}
use Rattle.irr_token.specs.Token.{PlacedNumber, Token}
use Rattle.irr_token.specs.Spelling.{AreSpelled}
use Rattle.irr_token.specs.Quotient.{sign_byte, sign_tokens, with_sign}
use Rattle.irr_token.specs.Fault.{AreNotZero, AreWithin}
use Rattle.irr_token.proofs.FirstFaults.{none-zero, none-beyond}
use Rattle.irr_token.proofs.PrintedQuotients.{printed_quotient, printed_end, printed-spelled, printed-zero, printed-within, printed-unsigned, printed-numerator, printed-denominator}
use Rattle.irr_triplet.specs.declared.shape.Slot.{Slot}
use Rattle.irr_triplet.specs.declared.shape.Slot.TheVariants.{X, Y, Z, Constant}
use Rattle.irr_triplet.specs.declared.term.Letter.{Letter}
use Rattle.irr_triplet.specs.declared.term.Letter.TheVariants as letters
use Rattle.irr_triplet.specs.Letters.{letter_byte}
use Rattle.irr_triplet.specs.Readable.{IsReadable}
use Rattle.irr_triplet.specs.Terms.{terms_text}
use Rattle.irr_triplet.specs.WrittenTriplet.{Body, Term, WrittenComponent, WrittenTriplet, letter_slot, slot_of, body_tokens, later_tokens, component_tokens, triplet_tokens, Lacks, AreDistinct, IsComponent}
use Rattle.irr_triplet.specs.WrittenTriplet.Body.{lettered, constant}
use Rattle.irr_triplet.specs.TripletFault.{terms, same_slot, term_at, size_value, body_coefficient, coefficient_of, coefficient, body_constant, constant_of, constant_value, body_denominators, denominators, body_numbers, numbers, IsRowOf, IsTextOf}
use Rattle.irr_triplet.proofs.OneTriplet.{operation_unique}
use Rattle.irr_triplet.proofs.TermTexts.{regroup}
use Rattle.irr_triplet.proofs.TripletRows.{RowForm, row_form, triplet_text-parts}

data Piece : Type 0 where
  letter : Bool → Letter → ℕ → Piece
  fraction : Bool → ℕ → ℕ → Piece

abbrev negative_of : Piece → Bool
negative_of (letter negative l n) = negative
negative_of (fraction negative a b) = negative

abbrev IsPiece : Piece → Type 0
IsPiece (letter negative l n) = (1 ≤ n) × (n ≤ 9)
IsPiece (fraction negative a b) = (a ≤ 100000) × (0 < b) × (b ≤ 100000)

-- the size of a letter, which is not printed where it is 1
abbrev size_at : ℕ → ℕ → Option PlacedNumber
size_at at (suc (suc n)) = Some (record { place = at; digits = decimal (suc (suc n)) })
size_at at n = None

abbrev size_end : ℕ → ℕ → ℕ
size_end at (suc (suc n)) = at + length (decimal (suc (suc n))) + 0
size_end at n = at

abbrev size_digits : ℕ → List ℕ
size_digits (suc (suc n)) = decimal (suc (suc n))
size_digits n = []

abbrev body_at : ℕ → Piece → Body
body_at at (letter negative l n) = lettered (size_at at n) false l
body_at at (fraction negative a b) = constant (printed_quotient at (pos a) b).numerator (printed_quotient at (pos a) b).denominator

abbrev body_end : ℕ → Piece → ℕ
body_end at (letter negative l n) = size_end at n + 1 + 0
body_end at (fraction negative a b) = printed_end at (pos a) b

abbrev body_text : Piece → List ℕ
body_text (letter negative l n) = size_digits n ++ letter_byte l ∷ []
body_text (fraction negative a b) = fraction_text (pos a) b

letter_kind : (l : Letter) → kind_of (letter_byte l) ≡ Mark
letter_kind letters.X = refl
letter_kind letters.Y = refl
letter_kind letters.Z = refl

body-spelled : (at : ℕ) (p : Piece) (ts : List Token) (rest : List ℕ) → IsPiece p → AreSpelled (body_end at p) ts rest → AreSpelled at (body_tokens (body_at at p) ++ ts) (body_text p ++ rest)
body-spelled at (letter negative l zero) ts rest h sp = absurd (omega (arith, h.0))
body-spelled at (letter negative l (suc zero)) ts rest h sp = (letter_kind l, record { blanks = []; rest = rest; are_blanks = tt; joins = refl; is_rest = sp })
body-spelled at (letter negative l (suc (suc n))) ts rest h sp = (
  (decimal_is_IsNumeral (suc (suc n)) (omega (arith, h.1))).0,
  refl,
  record {
    blanks = [];
    rest = letter_byte l ∷ rest;
    are_blanks = tt;
    joins = append_assoc (decimal (suc (suc n))) (letter_byte l ∷ []) rest;
    is_rest = (letter_kind l, record { blanks = []; rest = rest; are_blanks = tt; joins = refl; is_rest = sp });
  },
)
body-spelled at (fraction negative a b) ts rest h sp = subst (λ s. AreSpelled at ((sign_tokens s ++ body_tokens (body_at at (fraction negative a b))) ++ ts) (fraction_text (pos a) b ++ rest))
    (printed-unsigned at a b) (printed-spelled at (pos a) b ts rest (omega (arith, h.0)) h.2 sp)

-- terms with their signs

abbrev ArePieces : List Piece → Type 0
ArePieces [] = Unit {0}
ArePieces (p ∷ ps) = IsPiece p × ArePieces ps

abbrev signed_text : List Piece → List ℕ
signed_text [] = []
signed_text (p ∷ ps) = sign_byte (negative_of p) ∷ (body_text p ++ signed_text ps)

abbrev later_at : ℕ → List Piece → List Term
later_at at [] = []
later_at at (p ∷ ps) = record { negative = negative_of p; body = body_at (at + 1 + 0) p } ∷ later_at (body_end (at + 1 + 0) p) ps

abbrev later_end : ℕ → List Piece → ℕ
later_end at [] = at
later_end at (p ∷ ps) = later_end (body_end (at + 1 + 0) p) ps

sign_kind : (negative : Bool) → kind_of (sign_byte negative) ≡ Mark
sign_kind true = refl
sign_kind false = refl

-- a term and those behind it
joined : (at : ℕ) (us vs ts : List Token) (s t rest : List ℕ) → AreSpelled at (us ++ (vs ++ ts)) (s ++ (t ++ rest)) → AreSpelled at ((us ++ vs) ++ ts) ((s ++ t) ++ rest)
joined at us vs ts s t rest sp = subst (λ ws. AreSpelled at ws ((s ++ t) ++ rest)) (sym (append_assoc us vs ts)) (subst (AreSpelled at (us ++ (vs ++ ts))) (sym (append_assoc s t rest)) sp)

later-spelled : (at : ℕ) (ps : List Piece) (ts : List Token) (rest : List ℕ) → ArePieces ps → AreSpelled (later_end at ps) ts rest → AreSpelled at (later_tokens (later_at at ps) ++ ts) (signed_text ps ++ rest)
later-spelled at [] ts rest h sp = sp
later-spelled at (p ∷ ps) ts rest h sp = (
  sign_kind (negative_of p),
  record {
    blanks = [];
    rest = (body_text p ++ signed_text ps) ++ rest;
    are_blanks = tt;
    joins = refl;
    is_rest = joined (at + 1 + 0) (body_tokens (body_at (at + 1 + 0) p)) (later_tokens (later_at (body_end (at + 1 + 0) p) ps)) ts (body_text p) (signed_text ps) rest
        (body-spelled (at + 1 + 0) p (later_tokens (later_at (body_end (at + 1 + 0) p) ps) ++ ts) (signed_text ps ++ rest) h.0 (later-spelled (body_end (at + 1 + 0) p) ps ts rest h.1 sp));
  },
)

-- a component of terms: no + at the front, and 0 for none

abbrev first_at : ℕ → Bool → Piece → List Piece → WrittenComponent
first_at at true p ps = record { sign = Some true; front = body_at (at + 1 + 0) p; later = later_at (body_end (at + 1 + 0) p) ps }
first_at at false p ps = record { sign = None; front = body_at at p; later = later_at (body_end at p) ps }

abbrev written_at : ℕ → List Piece → WrittenComponent
written_at at [] = record { sign = None; front = constant (record { place = at; digits = decimal 0 }) None; later = [] }
written_at at (p ∷ ps) = first_at at (negative_of p) p ps

abbrev first_end : ℕ → Bool → Piece → List Piece → ℕ
first_end at true p ps = later_end (body_end (at + 1 + 0) p) ps
first_end at false p ps = later_end (body_end at p) ps

abbrev written_end : ℕ → List Piece → ℕ
written_end at [] = at + length (decimal 0) + 0
written_end at (p ∷ ps) = first_end at (negative_of p) p ps

abbrev first_text : Bool → Piece → List Piece → List ℕ
first_text true p ps = 45 ∷ (body_text p ++ signed_text ps)
first_text false p ps = body_text p ++ signed_text ps

abbrev written_text : List Piece → List ℕ
written_text [] = decimal 0
written_text (p ∷ ps) = first_text (negative_of p) p ps

text_of_sum : (ps : List Piece) → sum_text (signed_text ps) ≡ written_text ps
unfolding sum_text
text_of_sum [] = sym (decimal_digit 0 (omega arith))
text_of_sum (p ∷ ps) = by (negative_of p)
  where
    by : (b : Bool) → sum_text (sign_byte b ∷ (body_text p ++ signed_text ps)) ≡ first_text b p ps
    by true = refl
    by false = refl

first-spelled : (at : ℕ) (b : Bool) (p : Piece) (ps : List Piece) (ts : List Token) (rest : List ℕ) → IsPiece p → ArePieces ps → AreSpelled (first_end at b p ps) ts rest
    → AreSpelled at (component_tokens (first_at at b p ps) ++ ts) (first_text b p ps ++ rest)
first-spelled at true p ps ts rest h g sp = (
  refl,
  record {
    blanks = [];
    rest = (body_text p ++ signed_text ps) ++ rest;
    are_blanks = tt;
    joins = refl;
    is_rest = joined (at + 1 + 0) (body_tokens (body_at (at + 1 + 0) p)) (later_tokens (later_at (body_end (at + 1 + 0) p) ps)) ts (body_text p) (signed_text ps) rest
        (body-spelled (at + 1 + 0) p (later_tokens (later_at (body_end (at + 1 + 0) p) ps) ++ ts) (signed_text ps ++ rest) h (later-spelled (body_end (at + 1 + 0) p) ps ts rest g sp));
  },
)
first-spelled at false p ps ts rest h g sp = joined at (body_tokens (body_at at p)) (later_tokens (later_at (body_end at p) ps)) ts (body_text p) (signed_text ps) rest
    (body-spelled at p (later_tokens (later_at (body_end at p) ps) ++ ts) (signed_text ps ++ rest) h (later-spelled (body_end at p) ps ts rest g sp))

written-spelled : (at : ℕ) (ps : List Piece) (ts : List Token) (rest : List ℕ) → ArePieces ps → AreSpelled (written_end at ps) ts rest → AreSpelled at (component_tokens (written_at at ps) ++ ts) (written_text ps ++ rest)
written-spelled at [] ts rest h sp = ((decimal_is_IsNumeral 0 (omega arith)).0, refl, record { blanks = []; rest = rest; are_blanks = tt; joins = refl; is_rest = sp })
written-spelled at (p ∷ ps) ts rest h sp = first-spelled at (negative_of p) p ps ts rest h.0 h.1 sp

-- what the terms say

record IsOf (t : Term) (p : Piece) : Type 0 where
  pub place : ℕ
  pub sign : t.negative ≡ negative_of p
  pub body : t.body ≡ body_at place p

abbrev AreOf : List Term → List Piece → Type 0
AreOf [] [] = Unit {0}
AreOf [] (p ∷ ps) = ⊥
AreOf (t ∷ ts) [] = ⊥
AreOf (t ∷ ts) (p ∷ ps) = IsOf t p × AreOf ts ps

later-of : (at : ℕ) (ps : List Piece) → AreOf (later_at at ps) ps
later-of at [] = tt
later-of at (p ∷ ps) = (record { place = at + 1 + 0; sign = refl; body = refl }, later-of (body_end (at + 1 + 0) p) ps)

first-of : (at : ℕ) (b : Bool) (p : Piece) (ps : List Piece) → b ≡ negative_of p → AreOf (terms (first_at at b p ps)) (p ∷ ps)
first-of at true p ps e = (record { place = at + 1 + 0; sign = e; body = refl }, later-of (body_end (at + 1 + 0) p) ps)
first-of at false p ps e = (record { place = at; sign = e; body = refl }, later-of (body_end at p) ps)

-- numbers

number-value : (n : ℕ) → n < 2 ^ 64 → digits_value 10 (decimal n) ≡ n
number-value n h = (decimal_is_IsNumeral n h).1

body-zero : (at : ℕ) (p : Piece) → IsPiece p → AreNotZero (body_denominators (body_at at p))
body-zero at (letter negative l n) h = tt
body-zero at (fraction negative a b) h = printed-zero at (pos a) b h.1 h.2

body-within : (at : ℕ) (p : Piece) → IsPiece p → AreWithin (body_numbers (body_at at p))
body-within at (letter negative l zero) h = tt
body-within at (letter negative l (suc zero)) h = tt
body-within at (letter negative l (suc (suc n))) h = (subst (λ m. m ≤ 9) (sym (number-value (suc (suc n)) (omega (arith, h.1)))) h.1, tt)
body-within at (fraction negative a b) h = printed-within 100000 at (pos a) b (omega arith) h.0 h.2

of-zero : (ts : List Term) (ps : List Piece) → AreOf ts ps → ArePieces ps → AreNotZero (denominators ts)
of-zero [] [] o h = tt
of-zero [] (p ∷ ps) o h = tt
of-zero (t ∷ ts) [] o h = absurd o
of-zero (t ∷ ts) (p ∷ ps) o h = none-zero (body_denominators t.body) (denominators ts) (subst (λ b. AreNotZero (body_denominators b)) (sym o.0.body) (body-zero o.0.place p h.0)) (of-zero ts ps o.1 h.1)

of-within : (ts : List Term) (ps : List Piece) → AreOf ts ps → ArePieces ps → AreWithin (numbers ts)
of-within [] [] o h = tt
of-within [] (p ∷ ps) o h = tt
of-within (t ∷ ts) [] o h = absurd o
of-within (t ∷ ts) (p ∷ ps) o h = none-beyond (body_numbers t.body) (numbers ts) (subst (λ b. AreWithin (body_numbers b)) (sym o.0.body) (body-within o.0.place p h.0)) (of-within ts ps o.1 h.1)

-- slots

abbrev piece_slot : Piece → Slot
piece_slot (letter negative l n) = letter_slot l
piece_slot (fraction negative a b) = Constant

body-slot : (at : ℕ) (p : Piece) → slot_of (body_at at p) ≡ piece_slot p
body-slot at (letter negative l n) = refl
body-slot at (fraction negative a b) = refl

abbrev piece_at : Slot → List Piece → Option Piece
piece_at s [] = None
piece_at s (p ∷ ps) = if same_slot s (piece_slot p) then Some p else piece_at s ps

abbrev LacksPiece : Slot → List Piece → Type 0
LacksPiece s [] = Unit {0}
LacksPiece s (p ∷ ps) = (s ≢ piece_slot p) × LacksPiece s ps

abbrev AreApart : List Piece → Type 0
AreApart [] = Unit {0}
AreApart (p ∷ ps) = LacksPiece (piece_slot p) ps × AreApart ps

of-slot : (t : Term) (p : Piece) → IsOf t p → slot_of t.body ≡ piece_slot p
of-slot t p o = ap slot_of o.body ∙ body-slot o.place p

of-lacks : (s : Slot) (ts : List Term) (ps : List Piece) → AreOf ts ps → LacksPiece s ps → Lacks s ts
of-lacks s [] [] o h = tt
of-lacks s [] (p ∷ ps) o h = tt
of-lacks s (t ∷ ts) [] o h = absurd o
of-lacks s (t ∷ ts) (p ∷ ps) o h = ((λ e. h.0 (e ∙ of-slot t p o.0)), of-lacks s ts ps o.1 h.1)

of-distinct : (ts : List Term) (ps : List Piece) → AreOf ts ps → AreApart ps → AreDistinct ts
of-distinct [] [] o h = tt
of-distinct [] (p ∷ ps) o h = tt
of-distinct (t ∷ ts) [] o h = absurd o
of-distinct (t ∷ ts) (p ∷ ps) o h = (subst (λ s. Lacks s ts) (sym (of-slot t p o.0)) (of-lacks (piece_slot p) ts ps o.1 h.0), of-distinct ts ps o.1 h.1)

-- values

abbrev piece_coefficient : Option Piece → ℤ
piece_coefficient None = pos 0
piece_coefficient (Some (letter negative l n)) = with_sign negative n
piece_coefficient (Some (fraction negative a b)) = pos 0

abbrev piece_constant : Option Piece → Rational
piece_constant None = ratio (pos 0) 1
piece_constant (Some (letter negative l n)) = ratio (pos 0) 1
piece_constant (Some (fraction negative a b)) = ratio (with_sign negative a) b

size-value : (at n : ℕ) → 1 ≤ n → n ≤ 9 → size_value (size_at at n) ≡ n
size-value at zero h g = absurd (omega arith)
size-value at (suc zero) h g = refl
size-value at (suc (suc n)) h g = number-value (suc (suc n)) (omega arith)

body-coefficient : (at : ℕ) (p : Piece) → IsPiece p → body_coefficient (negative_of p) (body_at at p) ≡ piece_coefficient (Some p)
body-coefficient at (letter negative l n) h = ap (with_sign negative) (size-value at n h.0 h.1)
body-coefficient at (fraction negative a b) h = refl

body-constant : (at : ℕ) (p : Piece) → IsPiece p → body_constant (negative_of p) (body_at at p) ≡ piece_constant (Some p)
body-constant at (letter negative l n) h = refl
body-constant at (fraction negative a b) h = ap₂ (λ (m d : ℕ). ratio (with_sign negative m) d) (printed-numerator at a b h.0) (printed-denominator at a b h.2)

of-coefficient : (s : Slot) (ts : List Term) (ps : List Piece) → AreOf ts ps → ArePieces ps → coefficient_of (term_at s ts) ≡ piece_coefficient (piece_at s ps)
of-coefficient s [] [] o h = refl
of-coefficient s [] (p ∷ ps) o h = absurd o
of-coefficient s (t ∷ ts) [] o h = absurd o
of-coefficient s (t ∷ ts) (p ∷ ps) o h = ap (λ (k : Slot). coefficient_of (if same_slot s k then Some t else term_at s ts)) (of-slot t p o.0)
    ∙ by (same_slot s (piece_slot p)) (of-coefficient s ts ps o.1 h.1)
  where
    by : (b : Bool) → coefficient_of (term_at s ts) ≡ piece_coefficient (piece_at s ps)
        → coefficient_of (if b then Some t else term_at s ts) ≡ piece_coefficient (if b then Some p else piece_at s ps)
    by true e = ap₂ body_coefficient o.0.sign o.0.body ∙ body-coefficient o.0.place p h.0
    by false e = e

of-constant : (s : Slot) (ts : List Term) (ps : List Piece) → AreOf ts ps → ArePieces ps → constant_of (term_at s ts) ≡ piece_constant (piece_at s ps)
of-constant s [] [] o h = refl
of-constant s [] (p ∷ ps) o h = absurd o
of-constant s (t ∷ ts) [] o h = absurd o
of-constant s (t ∷ ts) (p ∷ ps) o h = ap (λ (k : Slot). constant_of (if same_slot s k then Some t else term_at s ts)) (of-slot t p o.0)
    ∙ by (same_slot s (piece_slot p)) (of-constant s ts ps o.1 h.1)
  where
    by : (b : Bool) → constant_of (term_at s ts) ≡ piece_constant (piece_at s ps)
        → constant_of (if b then Some t else term_at s ts) ≡ piece_constant (if b then Some p else piece_at s ps)
    by true e = ap₂ body_constant o.0.sign o.0.body ∙ body-constant o.0.place p h.0
    by false e = e

-- the terms of a row

abbrev letter_pieces : ℤ → Letter → List Piece → List Piece
letter_pieces (pos zero) l ps = ps
letter_pieces (pos (suc n)) l ps = letter false l (suc n) ∷ ps
letter_pieces (negsuc n) l ps = letter true l (suc n) ∷ ps

abbrev fraction_pieces : ℤ → ℕ → List Piece
fraction_pieces (pos zero) b = []
fraction_pieces (pos (suc n)) b = fraction false (suc n) b ∷ []
fraction_pieces (negsuc n) b = fraction true (suc n) b ∷ []

abbrev pieces : (x y z a : ℤ) → ℕ → List Piece
pieces x y z a b = letter_pieces x letters.X (letter_pieces y letters.Y (letter_pieces z letters.Z (fraction_pieces a b)))

letter-text : (c : ℤ) (l : Letter) (ps : List Piece) → letter_text c (letter_byte l) ++ signed_text ps ≡ signed_text (letter_pieces c l ps)
unfolding letter_text
letter-text (pos zero) l ps = refl
letter-text (pos (suc zero)) l ps = refl
letter-text (pos (suc (suc n))) l ps = refl
letter-text (negsuc zero) l ps = refl
letter-text (negsuc (suc n)) l ps = refl

minus_front : (t : Bool) (xs ys : List ℕ) → (if t then 45 ∷ xs else (45 ∷ ys)) ≡ 45 ∷ (if t then xs else ys)
minus_front true xs ys = refl
minus_front false xs ys = refl

fraction-text : (a : ℤ) (b : ℕ) → signed_fraction a b ≡ signed_text (fraction_pieces a b)
unfolding signed_fraction
fraction-text (pos zero) b = refl
fraction-text (pos (suc n)) b = ap (λ cs. 43 ∷ cs) (sym (append-nil (fraction_text (pos (suc n)) b)))
fraction-text (negsuc n) b = minus_front (nat_eq b 1) (decimal (suc n)) (decimal (suc n) ++ 47 ∷ decimal b) ∙ ap (λ cs. 45 ∷ cs) (sym (append-nil (fraction_text (pos (suc n)) b)))

abbrev terms_of : (x y z a : ℤ) → ℕ → List ℕ
terms_of x y z a b = letter_text x 120 ++ (letter_text y 121 ++ (letter_text z 122 ++ signed_fraction a b))

terms_text-terms_of : (x y z a : ℤ) (b : ℕ) → sum_text (terms_of x y z a b) ≡ terms_text x y z a b
unfolding terms_text
terms_text-terms_of x y z a b = ap sum_text (regroup (letter_text x 120) (letter_text y 121) (letter_text z 122) (signed_fraction a b))

pieces-text : (x y z a : ℤ) (b : ℕ) → terms_of x y z a b ≡ signed_text (pieces x y z a b)
pieces-text x y z a b = ap (λ t. letter_text x 120 ++ (letter_text y 121 ++ (letter_text z 122 ++ t))) (fraction-text a b)
    ∙ ap (λ t. letter_text x 120 ++ (letter_text y 121 ++ t)) (letter-text z letters.Z (fraction_pieces a b))
    ∙ ap (λ t. letter_text x 120 ++ t) (letter-text y letters.Y (letter_pieces z letters.Z (fraction_pieces a b)))
    ∙ letter-text x letters.X (letter_pieces y letters.Y (letter_pieces z letters.Z (fraction_pieces a b)))

letter-pieces : (c : ℤ) (l : Letter) (ps : List Piece) → unsigned_abs c ≤ 9 → ArePieces ps → ArePieces (letter_pieces c l ps)
letter-pieces (pos zero) l ps h g = g
letter-pieces (pos (suc n)) l ps h g = ((omega arith, h), g)
letter-pieces (negsuc n) l ps h g = ((omega arith, h), g)

fraction-pieces : (a : ℤ) (b : ℕ) → unsigned_abs a ≤ 100000 → 0 < b → b ≤ 100000 → ArePieces (fraction_pieces a b)
fraction-pieces (pos zero) b h p g = tt
fraction-pieces (pos (suc n)) b h p g = ((h, p, g), tt)
fraction-pieces (negsuc n) b h p g = ((h, p, g), tt)

lacks_letter : (s : Slot) (c : ℤ) (l : Letter) (ps : List Piece) → s ≢ letter_slot l → LacksPiece s ps → LacksPiece s (letter_pieces c l ps)
lacks_letter s (pos zero) l ps h g = g
lacks_letter s (pos (suc n)) l ps h g = (h, g)
lacks_letter s (negsuc n) l ps h g = (h, g)

lacks_fraction : (s : Slot) (a : ℤ) (b : ℕ) → s ≢ Constant → LacksPiece s (fraction_pieces a b)
lacks_fraction s (pos zero) b h = tt
lacks_fraction s (pos (suc n)) b h = (h, tt)
lacks_fraction s (negsuc n) b h = (h, tt)

apart_letter : (c : ℤ) (l : Letter) (ps : List Piece) → LacksPiece (letter_slot l) ps → AreApart ps → AreApart (letter_pieces c l ps)
apart_letter (pos zero) l ps h g = g
apart_letter (pos (suc n)) l ps h g = (h, g)
apart_letter (negsuc n) l ps h g = (h, g)

apart_fraction : (a : ℤ) (b : ℕ) → AreApart (fraction_pieces a b)
apart_fraction (pos zero) b = tt
apart_fraction (pos (suc n)) b = (tt, tt)
apart_fraction (negsuc n) b = (tt, tt)

skip_letter : (s : Slot) (c : ℤ) (l : Letter) (ps : List Piece) → same_slot s (letter_slot l) ≡ false → piece_at s (letter_pieces c l ps) ≡ piece_at s ps
skip_letter s (pos zero) l ps e = refl
skip_letter s (pos (suc n)) l ps e = ap (λ b. if b then Some (letter false l (suc n)) else piece_at s ps) e
skip_letter s (negsuc n) l ps e = ap (λ b. if b then Some (letter true l (suc n)) else piece_at s ps) e

skip_fraction : (s : Slot) (a : ℤ) (b : ℕ) → same_slot s Constant ≡ false → piece_at s (fraction_pieces a b) ≡ None
skip_fraction s (pos zero) b e = refl
skip_fraction s (pos (suc n)) b e = ap (λ t. if t then Some (fraction false (suc n) b) else None) e
skip_fraction s (negsuc n) b e = ap (λ t. if t then Some (fraction true (suc n) b) else None) e

own_slot : (l : Letter) → same_slot (letter_slot l) (letter_slot l) ≡ true
own_slot letters.X = refl
own_slot letters.Y = refl
own_slot letters.Z = refl

at_letter : (c : ℤ) (l : Letter) (ps : List Piece) → piece_at (letter_slot l) ps ≡ None → piece_coefficient (piece_at (letter_slot l) (letter_pieces c l ps)) ≡ c
at_letter (pos zero) l ps e = ap piece_coefficient e
at_letter (pos (suc n)) l ps e = ap (λ b. piece_coefficient (if b then Some (letter false l (suc n)) else piece_at (letter_slot l) ps)) (own_slot l)
at_letter (negsuc n) l ps e = ap (λ b. piece_coefficient (if b then Some (letter true l (suc n)) else piece_at (letter_slot l) ps)) (own_slot l)

at_fraction : (a : ℤ) (b : ℕ) → IsLowest a b → piece_constant (piece_at Constant (fraction_pieces a b)) ≡ ratio a b
at_fraction (pos zero) b low = ap (ratio (pos zero)) (sym (low.lowest b (Nat.dvd_refl b) (Nat.dvd-zero b)))
at_fraction (pos (suc n)) b low = refl
at_fraction (negsuc n) b low = refl

module _ (x y z a : ℤ) (b : ℕ) where
  row-x : piece_coefficient (piece_at X (pieces x y z a b)) ≡ x
  row-x = at_letter x letters.X (letter_pieces y letters.Y (letter_pieces z letters.Z (fraction_pieces a b)))
      (skip_letter X y letters.Y (letter_pieces z letters.Z (fraction_pieces a b)) refl ∙ skip_letter X z letters.Z (fraction_pieces a b) refl ∙ skip_fraction X a b refl)

  row-y : piece_coefficient (piece_at Y (pieces x y z a b)) ≡ y
  row-y = ap piece_coefficient (skip_letter Y x letters.X (letter_pieces y letters.Y (letter_pieces z letters.Z (fraction_pieces a b))) refl)
      ∙ at_letter y letters.Y (letter_pieces z letters.Z (fraction_pieces a b)) (skip_letter Y z letters.Z (fraction_pieces a b) refl ∙ skip_fraction Y a b refl)

  row-z : piece_coefficient (piece_at Z (pieces x y z a b)) ≡ z
  row-z = ap piece_coefficient (skip_letter Z x letters.X (letter_pieces y letters.Y (letter_pieces z letters.Z (fraction_pieces a b))) refl
      ∙ skip_letter Z y letters.Y (letter_pieces z letters.Z (fraction_pieces a b)) refl) ∙ at_letter z letters.Z (fraction_pieces a b) (skip_fraction Z a b refl)

  row-constant : IsLowest a b → piece_constant (piece_at Constant (pieces x y z a b)) ≡ ratio a b
  row-constant low = ap piece_constant (skip_letter Constant x letters.X (letter_pieces y letters.Y (letter_pieces z letters.Z (fraction_pieces a b))) refl
      ∙ skip_letter Constant y letters.Y (letter_pieces z letters.Z (fraction_pieces a b)) refl ∙ skip_letter Constant z letters.Z (fraction_pieces a b) refl) ∙ at_fraction a b low

  row-pieces : unsigned_abs x ≤ 9 → unsigned_abs y ≤ 9 → unsigned_abs z ≤ 9 → unsigned_abs a ≤ 100000 → 0 < b → b ≤ 100000 → ArePieces (pieces x y z a b)
  row-pieces hx hy hz ha p hb = letter-pieces x letters.X (letter_pieces y letters.Y (letter_pieces z letters.Z (fraction_pieces a b))) hx
      (letter-pieces y letters.Y (letter_pieces z letters.Z (fraction_pieces a b)) hy (letter-pieces z letters.Z (fraction_pieces a b) hz (fraction-pieces a b ha p hb)))

  row-apart : AreApart (pieces x y z a b)
  row-apart = apart_letter x letters.X (letter_pieces y letters.Y (letter_pieces z letters.Z (fraction_pieces a b)))
      (lacks_letter X y letters.Y (letter_pieces z letters.Z (fraction_pieces a b)) (λ e. cc) (lacks_letter X z letters.Z (fraction_pieces a b) (λ e. cc) (lacks_fraction X a b (λ e. cc))))
      (apart_letter y letters.Y (letter_pieces z letters.Z (fraction_pieces a b)) (lacks_letter Y z letters.Z (fraction_pieces a b) (λ e. cc) (lacks_fraction Y a b (λ e. cc)))
      (apart_letter z letters.Z (fraction_pieces a b) (lacks_fraction Z a b (λ e. cc)) (apart_fraction a b)))

-- what a printed component says

record Facts (at : ℕ) (ps : List Piece) : Type 0 where
  pub component : IsComponent (written_at at ps)
  pub not_zero : AreNotZero (denominators (terms (written_at at ps)))
  pub within : AreWithin (numbers (terms (written_at at ps)))
  pub at_letter : (l : Letter) → coefficient l (terms (written_at at ps)) ≡ piece_coefficient (piece_at (letter_slot l) ps)
  pub at_constant : constant_value (terms (written_at at ps)) ≡ piece_constant (piece_at Constant ps)

no_letters : (at : ℕ) (l : Letter) → coefficient l (terms (written_at at [])) ≡ pos 0
no_letters at letters.X = refl
no_letters at letters.Y = refl
no_letters at letters.Z = refl

facts : (at : ℕ) (ps : List Piece) → ArePieces ps → AreApart ps → Facts at ps
facts at [] h d = record {
  component = (tt, tt);
  not_zero = tt;
  within = (subst (λ m. m ≤ 100000) (sym (number-value 0 (omega arith))) (omega arith), tt);
  at_letter = no_letters at;
  at_constant = ap (λ (m : ℕ). ratio (pos m) 1) (number-value 0 (omega arith));
}
facts at (p ∷ ps) h d =
    let o = first-of at (negative_of p) p ps refl in
    let ts = terms (first_at at (negative_of p) p ps) in
    record {
      component = of-distinct ts (p ∷ ps) o d;
      not_zero = of-zero ts (p ∷ ps) o h;
      within = of-within ts (p ∷ ps) o h;
      at_letter = λ l. of-coefficient (letter_slot l) ts (p ∷ ps) o h;
      at_constant = of-constant Constant ts (p ∷ ps) o h;
    }

record PrintedRow (g : Operation) (i : Fin 3) (ps : List Piece) : Type 0 where
  pub text : component_text g i ≡ written_text ps
  pub are : ArePieces ps
  pub facts_at : (at : ℕ) → Facts at ps
  pub row_at : (at : ℕ) → IsRowOf (terms (written_at at ps)) g i

abbrev form_pieces : (g : Operation) (i : Fin 3) → RowForm g i → List Piece
form_pieces g i f = pieces f.x f.y f.z f.num f.den

printed_row : (g : Operation) (i : Fin 3) (f : RowForm g i) → PrintedRow g i (form_pieces g i f)
printed_row g i f = record {
  text = f.text ∙ sym (terms_text-terms_of f.x f.y f.z f.num f.den) ∙ ap sum_text (pieces-text f.x f.y f.z f.num f.den) ∙ text_of_sum (form_pieces g i f);
  are = are;
  facts_at = all;
  row_at = λ at. record {
    at_x = f.is.at_x ∙ sym ((all at).at_letter letters.X ∙ row-x f.x f.y f.z f.num f.den);
    at_y = f.is.at_y ∙ sym ((all at).at_letter letters.Y ∙ row-y f.x f.y f.z f.num f.den);
    at_z = f.is.at_z ∙ sym ((all at).at_letter letters.Z ∙ row-z f.x f.y f.z f.num f.den);
    shift = f.is.shift ∙ sym ((all at).at_constant ∙ row-constant f.x f.y f.z f.num f.den f.lowest);
  };
}
  where
    are : ArePieces (form_pieces g i f)
    are = row-pieces f.x f.y f.z f.num f.den f.x_within f.y_within f.z_within f.num_within f.lowest.positive f.den_within

    all : (at : ℕ) → Facts at (form_pieces g i f)
    all at = facts at (form_pieces g i f) are (row-apart f.x f.y f.z f.num f.den)

-- three rows with commas between

abbrev second_at : List Piece → ℕ
second_at ps = written_end 0 ps + 1 + 0

abbrev third_at : List Piece → List Piece → ℕ
third_at ps qs = written_end (second_at ps) qs + 1 + 0

abbrev three_written : (ps qs rs : List Piece) → WrittenTriplet
three_written ps qs rs = record { quote = None; x = written_at 0 ps; y = written_at (second_at ps) qs; z = written_at (third_at ps qs) rs }

abbrev three_text : (ps qs rs : List Piece) → List ℕ
three_text ps qs rs = written_text ps ++ 44 ∷ (written_text qs ++ 44 ∷ written_text rs)

three-spelled : (ps qs rs : List Piece) → ArePieces ps → ArePieces qs → ArePieces rs → AreSpelled 0 (triplet_tokens (three_written ps qs rs)) (three_text ps qs rs)
three-spelled ps qs rs hp hq hr = written-spelled 0 ps _ _ hp (
  refl,
  record {
    blanks = [];
    rest = written_text qs ++ 44 ∷ written_text rs;
    are_blanks = tt;
    joins = refl;
    is_rest = written-spelled (second_at ps) qs _ _ hq (refl, record { blanks = []; rest = written_text rs; are_blanks = tt; joins = refl; is_rest = last });
  },
)
  where
    last : AreSpelled (third_at ps qs) (component_tokens (written_at (third_at ps qs) rs) ++ []) (written_text rs)
    last = subst (AreSpelled (third_at ps qs) (component_tokens (written_at (third_at ps qs) rs) ++ [])) (append-nil (written_text rs)) (written-spelled (third_at ps qs) rs [] [] hr refl)

three_read : (g : Operation) (ps qs rs : List Piece) → PrintedRow g first ps → PrintedRow g (next first) qs → PrintedRow g (next (next first)) rs → IsReadable g → IsTextOf (triplet_text g) g
three_read g ps qs rs p q r h = record {
  triplet = three_written ps qs rs;
  spells = record {
    x = fx.component;
    y = fy.component;
    z = fz.component;
    blanks = [];
    rest = triplet_text g;
    are_blanks = tt;
    joins = refl;
    spelled = subst (AreSpelled 0 (triplet_tokens (three_written ps qs rs))) (sym whole) (three-spelled ps qs rs p.are q.are r.are);
  };
  written = (
    none-zero (denominators (terms (written_at 0 ps))) (denominators (terms (written_at (second_at ps) qs)) ++ denominators (terms (written_at (third_at ps qs) rs))) fx.not_zero
        (none-zero (denominators (terms (written_at (second_at ps) qs))) (denominators (terms (written_at (third_at ps qs) rs))) fy.not_zero fz.not_zero),
    none-beyond (numbers (terms (written_at 0 ps))) (numbers (terms (written_at (second_at ps) qs)) ++ numbers (terms (written_at (third_at ps qs) rs))) fx.within
        (none-beyond (numbers (terms (written_at (second_at ps) qs))) (numbers (terms (written_at (third_at ps qs) rs))) fy.within fz.within),
    record { x = p.row_at 0; y = q.row_at (second_at ps); z = r.row_at (third_at ps qs) },
  );
  common = record {
    num = h.num;
    den = h.den;
    lowest = h.lowest;
    x = sym (h.are first) ∙ (p.row_at 0).shift;
    y = sym (h.are (next first)) ∙ (q.row_at (second_at ps)).shift;
    z = sym (h.are (next (next first))) ∙ (r.row_at (third_at ps qs)).shift;
    within = h.denominator;
  };
  unimodular = h.unimodular;
}
  where
    fx : Facts 0 ps
    fx = p.facts_at 0

    fy : Facts (second_at ps) qs
    fy = q.facts_at (second_at ps)

    fz : Facts (third_at ps qs) rs
    fz = r.facts_at (third_at ps qs)

    whole : triplet_text g ≡ three_text ps qs rs
    whole = triplet_text-parts g ∙ ap₂ (λ s t. s ++ 44 ∷ t) p.text (ap₂ (λ s t. s ++ 44 ∷ t) q.text r.text)

pub printed_read : (g : Operation) → IsReadable g → IsTextOf (triplet_text g) g
printed_read g h = three_read g (form_pieces g first (row_form g h first)) (form_pieces g (next first) (row_form g h (next first))) (form_pieces g (next (next first)) (row_form g h (next (next first))))
    (printed_row g first (row_form g h first)) (printed_row g (next first) (row_form g h (next first))) (printed_row g (next (next first)) (row_form g h (next (next first)))) h

pub printed_unique : (g h : Operation) → IsReadable g → IsReadable h → triplet_text g ≡ triplet_text h → g ≡ h
printed_unique g h r s e = operation_unique (triplet_text g) g h (printed_read g r) (subst (λ text. IsTextOf text h) (sym e) (printed_read h s))
