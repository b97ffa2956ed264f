-- The values that a triplet's text writes.
--   sound_of           the terms of a component are sound where its numbers are
--   row_is             a component is the row that is read of it
--   value_of           three components are the operation of their rows
--   no_common          no common denominator within the limit where there is none of the rows
--   common_of          and one where the operation's is
--   same_value         a triplet writes one operation
--   text_readable      an operation that a text writes can be read
--   zero_absent, beyond_absent, no_fault     a text that writes an operation has no fault
--   no_zero, no_beyond     where nothing is found, there is no fault
use Rattle.std.proofs.Common.{◌≡◌, refl, sym, ◌∙◌, ap, ap₂, subst, ℕ, zero, suc, ◌<◌, ◌≤◌, ◌*◌, ℤ, pos, Bool, true, false, List, [], ◌∷◌, ◌++◌, length, Option, None, Some, IfSome, arith, inl, inr, unsigned_abs, ◌⊎◌}
use Rattle.std.specs.Prelude.{if◌then◌else◌}
use Rattle.std.specs.Option.{option_map}
use Rattle.std.proofs.lemmas.Int.{unsigned_abs-mul}
use Rattle.std.proofs.Math.Nat.{mul-le-mul_left}
use native.Mathlib.Nat as Nat
use Rattle.irr_algebra.specs.Fin.{Fin}
use Rattle.irr_algebra.specs.Fin.Fin.{first, next}
use Rattle.irr_algebra.proofs.Matrices.{matrix-ext}
use Rattle.irr_rational.specs.Rational.{ratio}
use Rattle.irr_rational.specs.Ratio.{AreLowest, entry}
use Rattle.irr_rational.proofs.Ratios.{cross_of_ratio}
use Rattle.irr_canonical.specs.Coefficient.{denominator}
use Rattle.irr_space.specs.Operation.{Operation, component}
use Rattle.irr_text.specs.NumberText.{numerator}
use Rattle.irr_text.proofs.RationalForm.{numerator_is_lowest}
use Rattle.irr_rat.proofs.CommonDenominators.{denominator_divides}
use Rattle.irr_rat.proofs.Vectors.{vector-ext, component-vector_of}
use Rattle.irr_seitz.specs.Rotation.{determinant}
use Rattle.irr_seitz.specs.OperationMeaning.{operation}
use Rattle.irr_seitz.specs.declared.op.Op.{Op}
use Rattle.irr_token.specs.declared.faults.TheConstants.{DENOMINATOR_LIMIT}
use Rattle.irr_token.specs.declared.read.Quotient.{Quotient}
use Rattle.irr_token.specs.Token.{PlacedNumber, value_of}
use Rattle.irr_token.specs.Quotient.{with_sign, denominator_value}
use Rattle.irr_token.specs.Fault.{Limited, AreNotZero, IsFirstZero, AreWithin, IsFirstBeyond, present}
use Rattle.irr_token.proofs.FirstFaults.{zero-parts, beyond-parts}
use Rattle.irr_triplet.specs.declared.reading.Parts.{Parts}
use Rattle.irr_triplet.specs.declared.reading.TripletError.{TripletError}
use Rattle.irr_triplet.specs.declared.reading.TripletError.TheVariants.{Shape, Zero, Range, Determinant}
use Rattle.irr_triplet.specs.declared.shape.Slot.{Slot}
use Rattle.irr_triplet.specs.declared.shape.Slot.TheVariants.{X, Y, Z, Constant}
use Rattle.irr_triplet.specs.declared.slots.Slots.{Slots}
use Rattle.irr_triplet.specs.declared.term.Letter.{Letter}
use Rattle.irr_triplet.specs.declared.term.Letter.TheVariants as letters
use Rattle.irr_triplet.specs.declared.written.Coefficient.{Coefficient}
use Rattle.irr_triplet.specs.Readable.{IsReadable}
use Rattle.irr_triplet.specs.Rows.{IsRow}
use Rattle.irr_triplet.specs.WrittenTriplet.{Body, Term, WrittenTriplet, slot_of}
use Rattle.irr_triplet.specs.WrittenTriplet.Body.{lettered, constant}
use Rattle.irr_triplet.specs.TripletFault.{terms, same_slot, term_at, body_coefficient, coefficient_of, body_constant, constant_of, constant_value, body_denominators, denominators, body_numbers, numbers, triplet_denominators, triplet_numbers, IsRowOf, IsValue, HasCommonDenominator, IsFault, IsTextOf}
use Rattle.irr_triplet.specs.WrittenTerms.{letter_term, constant_term, plain, plain_body, slot_term, IsZeroAnswer, IsBeyondAnswer, IsRead}
use Rattle.irr_triplet.specs.TripletParts.{AreParts, IsSized, IsSoundConstant, IsSound}

-- the numbers of a term are among those of its component

abbrev IsSoundBody : Body → Type 0
IsSoundBody b = AreNotZero (body_denominators b) × AreWithin (body_numbers b)

sound_or : (b : Bool) (t : Term) (o : Option Term) → IsSoundBody t.body → IfSome o (λ t. IsSoundBody t.body) → IfSome (if b then Some t else o) (λ t. IsSoundBody t.body)
sound_or true t o h g = h
sound_or false t o h g = g

term_sound : (k : Slot) (ts : List Term) → AreNotZero (denominators ts) → AreWithin (numbers ts) → IfSome (term_at k ts) (λ t. IsSoundBody t.body)
term_sound k [] z w = tt
term_sound k (t ∷ ts) z w =
    let zeros = zero-parts (body_denominators t.body) (denominators ts) z in
    let withins = beyond-parts (body_numbers t.body) (numbers ts) w in
    sound_or (same_slot k (slot_of t.body)) t (term_at k ts) (zeros.0, withins.0) (term_sound k ts zeros.1 withins.1)

plain_sound : (b : Body) → IsSoundBody b → IsSoundBody (plain_body b)
plain_sound (lettered n upper l) h = h
plain_sound (constant n d) h = h

some_plain : (o : Option Term) → IfSome o (λ t. IsSoundBody t.body) → IfSome (option_map plain o) (λ t. IsSoundBody t.body)
some_plain None h = tt
some_plain (Some t) h = plain_sound t.body h

sized : (l : Letter) (o : Option Coefficient) → IfSome (option_map (letter_term l) o) (λ t. IsSoundBody t.body) → IfSome o IsSized
sized l None h = tt
sized l (Some c) h = h.1

sound_constant : (o : Option Quotient) → IfSome (option_map constant_term o) (λ t. IsSoundBody t.body) → IfSome o IsSoundConstant
sound_constant None h = tt
sound_constant (Some q) h = h

pub sound_of : (ts : List Term) (s : Slots) → IsRead ts s → AreNotZero (denominators ts) → AreWithin (numbers ts) → IsSound s
sound_of ts s h z w = record { x = sized letters.X s.x (at X); y = sized letters.Y s.y (at Y); z = sized letters.Z s.z (at Z); constant = sound_constant s.constant (at Constant) }
  where
    at : (k : Slot) → IfSome (slot_term s k) (λ t. IsSoundBody t.body)
    at k = subst (λ o. IfSome o (λ t. IsSoundBody t.body)) (sym (h.slots k)) (some_plain (term_at k ts) (term_sound k ts z w))

-- values

plain_coefficient : (negative : Bool) (b : Body) → body_coefficient negative (plain_body b) ≡ body_coefficient negative b
plain_coefficient negative (lettered n upper l) = refl
plain_coefficient negative (constant n d) = refl

plain_constant : (negative : Bool) (b : Body) → body_constant negative (plain_body b) ≡ body_constant negative b
plain_constant negative (lettered n upper l) = refl
plain_constant negative (constant n d) = refl

coefficient_plain : (o : Option Term) → coefficient_of (option_map plain o) ≡ coefficient_of o
coefficient_plain None = refl
coefficient_plain (Some t) = plain_coefficient t.negative t.body

constant_plain : (o : Option Term) → constant_of (option_map plain o) ≡ constant_of o
constant_plain None = refl
constant_plain (Some t) = plain_constant t.negative t.body

-- the numbers x, y, z and a over b are the terms of s
pub record AreValues (s : Slots) (x y z a : ℤ) (b : ℕ) : Type 0 where
  pub at_x : x ≡ coefficient_of (slot_term s X)
  pub at_y : y ≡ coefficient_of (slot_term s Y)
  pub at_z : z ≡ coefficient_of (slot_term s Z)
  pub shift : ratio a b ≡ constant_of (slot_term s Constant)

read_constant : (ts : List Term) (s : Slots) → IsRead ts s → constant_of (slot_term s Constant) ≡ constant_value ts
read_constant ts s h = ap constant_of (h.slots Constant) ∙ constant_plain (term_at Constant ts)

pub row_is : (g : Operation) (i : Fin 3) (ts : List Term) (s : Slots) (x y z a : ℤ) (b : ℕ) → IsRead ts s → AreValues s x y z a b → IsRow g i x y z a b → IsRowOf ts g i
row_is g i ts s x y z a b h v r = record {
  at_x = r.at_x ∙ v.at_x ∙ ap coefficient_of (h.slots X) ∙ coefficient_plain (term_at X ts);
  at_y = r.at_y ∙ v.at_y ∙ ap coefficient_of (h.slots Y) ∙ coefficient_plain (term_at Y ts);
  at_z = r.at_z ∙ v.at_z ∙ ap coefficient_of (h.slots Z) ∙ coefficient_plain (term_at Z ts);
  shift = r.shift ∙ v.shift ∙ read_constant ts s h;
}

pub common_of : (t : WrittenTriplet) (op : Op) → IsValue t (operation op) → op.den ≤ DENOMINATOR_LIMIT → HasCommonDenominator t
common_of t op v le = record {
  num = entry op.num;
  den = op.den;
  lowest = op.lowest;
  x = sym (component-vector_of op.num op.den first) ∙ v.x.shift;
  y = sym (component-vector_of op.num op.den (next first)) ∙ v.y.shift;
  z = sym (component-vector_of op.num op.den (next (next first))) ∙ v.z.shift;
  within = le;
}

pub no_common : (p : Parts) (t : WrittenTriplet) (x y z : ℤ) (a b c : ℕ) → AreParts p t → ratio x a ≡ constant_of (slot_term p.x Constant) → ratio y b ≡ constant_of (slot_term p.y Constant)
    → ratio z c ≡ constant_of (slot_term p.z Constant)
    → ((num : Fin 3 → ℤ) (den : ℕ) → AreLowest num den → ratio (num first) den ≡ ratio x a → ratio (num (next first)) den ≡ ratio y b → ratio (num (next (next first))) den ≡ ratio z c → DENOMINATOR_LIMIT < den)
    → ¬ (HasCommonDenominator t)
no_common p t x y z a b c h ex ey ez all g =
    let beyond : DENOMINATOR_LIMIT < g.den = all g.num g.den g.lowest (g.x ∙ sym (ex ∙ read_constant (terms t.x) p.x h.x)) (g.y ∙ sym (ey ∙ read_constant (terms t.y) p.y h.y)) (g.z ∙ sym (ez ∙ read_constant (terms t.z) p.z h.z)) in
    omega (arith, g.within)

pub same_value : (t : WrittenTriplet) (g h : Operation) → IsValue t g → IsValue t h → g ≡ h
same_value t g h p q = ap₂ (λ m v. record { rotation = m; vector = v }) (matrix-ext entries) (vector-ext g.vector h.vector shifts)
  where
    row : (i j : Fin 3) (ts : List Term) → IsRowOf ts g i → IsRowOf ts h i → g.rotation.at i j ≡ h.rotation.at i j
    row i first ts k l = k.at_x ∙ sym l.at_x
    row i (next first) ts k l = k.at_y ∙ sym l.at_y
    row i (next (next first)) ts k l = k.at_z ∙ sym l.at_z
    row i (next (next (next j))) ts k l = elim j [ ]

    entries : (i j : Fin 3) → g.rotation.at i j ≡ h.rotation.at i j
    entries first j = row first j (terms t.x) p.x q.x
    entries (next first) j = row (next first) j (terms t.y) p.y q.y
    entries (next (next first)) j = row (next (next first)) j (terms t.z) p.z q.z
    entries (next (next (next i))) j = elim i [ ]

    shifts : (i : Fin 3) → component g.vector i ≡ component h.vector i
    shifts first = p.x.shift ∙ sym q.x.shift
    shifts (next first) = p.y.shift ∙ sym q.y.shift
    shifts (next (next first)) = p.z.shift ∙ sym q.z.shift
    shifts (next (next (next i))) = elim i [ ]

-- the sizes of the values

size_signed : (negative : Bool) (n : ℕ) → unsigned_abs (with_sign negative n) ≡ n
size_signed true zero = refl
size_signed true (suc n) = refl
size_signed false n = refl

small_coefficient : (o : Option Term) → IfSome o (λ t. IsSoundBody t.body) → unsigned_abs (coefficient_of o) ≤ 9
small_coefficient None h = omega arith
small_coefficient (Some t) h = by t.body h
  where
    by : (b : Body) → IsSoundBody b → unsigned_abs (body_coefficient t.negative b) ≤ 9
    by (lettered None upper l) h = rw (size_signed t.negative 1) (omega arith)
    by (lettered (Some n) upper l) h = rw (size_signed t.negative (value_of n)) h.1.0
    by (constant n d) h = omega arith

numerator_at_most : (a : ℤ) (b : ℕ) → 0 < b → unsigned_abs (numerator (ratio a b)) ≤ unsigned_abs a
numerator_at_most a b hb =
    let low = numerator_is_lowest (ratio a b) in
    let p = numerator (ratio a b) in
    let q = denominator 1 (ratio a b) in
    let le : q ≤ b = Nat.le_of_dvd hb (denominator_divides p a q b low.0 hb (sym low.1)) in
    let cross : unsigned_abs p * b ≡ unsigned_abs a * q = sym (unsigned_abs-mul p (pos b)) ∙ ap unsigned_abs (cross_of_ratio p a q b low.0.positive hb low.1) ∙ unsigned_abs-mul a (pos q) in
    let more : unsigned_abs p * q ≤ unsigned_abs p * b = mul-le-mul_left (unsigned_abs p) le in
    Nat.le_of_mul-le-mul_right (subst (λ n. unsigned_abs p * q ≤ n) cross more) low.0.positive

small_constant : (o : Option Term) → IfSome o (λ t. IsSoundBody t.body) → unsigned_abs (numerator (constant_of o)) ≤ 100000
small_constant None h = Nat.le_trans (numerator_at_most (pos 0) 1 (omega arith)) (omega arith)
small_constant (Some t) h = by t.body h
  where
    positive : (d : Option PlacedNumber) → AreNotZero (present d) → 0 < denominator_value d
    positive None z = omega arith
    positive (Some d) z = z.0

    by : (b : Body) → IsSoundBody b → unsigned_abs (numerator (body_constant t.negative b)) ≤ 100000
    by (lettered n upper l) h = Nat.le_trans (numerator_at_most (pos 0) 1 (omega arith)) (omega arith)
    by (constant n d) h = Nat.le_trans (numerator_at_most (with_sign t.negative (value_of n)) (denominator_value d) (positive d h.0)) (rw (size_signed t.negative (value_of n)) h.1.0)

record IsSoundComponent (ts : List Term) : Type 0 where
  pub not_zero : AreNotZero (denominators ts)
  pub within : AreWithin (numbers ts)

small_row : (ts : List Term) (g : Operation) (i : Fin 3) → IsSoundComponent ts → IsRowOf ts g i → (j : Fin 3) → unsigned_abs (g.rotation.at i j) ≤ 9
small_row ts g i h r first = subst (λ n. unsigned_abs n ≤ 9) (sym r.at_x) (small_coefficient (term_at X ts) (term_sound X ts h.not_zero h.within))
small_row ts g i h r (next first) = subst (λ n. unsigned_abs n ≤ 9) (sym r.at_y) (small_coefficient (term_at Y ts) (term_sound Y ts h.not_zero h.within))
small_row ts g i h r (next (next first)) = subst (λ n. unsigned_abs n ≤ 9) (sym r.at_z) (small_coefficient (term_at Z ts) (term_sound Z ts h.not_zero h.within))
small_row ts g i h r (next (next (next j))) = elim j [ ]

small_shift : (ts : List Term) (g : Operation) (i : Fin 3) → IsSoundComponent ts → IsRowOf ts g i → unsigned_abs (numerator (component g.vector i)) ≤ 100000
small_shift ts g i h r = subst (λ x. unsigned_abs (numerator x) ≤ 100000) (sym r.shift) (small_constant (term_at Constant ts) (term_sound Constant ts h.not_zero h.within))

record AreSoundComponents (t : WrittenTriplet) : Type 0 where
  pub x : IsSoundComponent (terms t.x)
  pub y : IsSoundComponent (terms t.y)
  pub z : IsSoundComponent (terms t.z)

sound_components : (t : WrittenTriplet) → AreNotZero (triplet_denominators t) → AreWithin (triplet_numbers t) → AreSoundComponents t
sound_components t z w =
    let zx = zero-parts (denominators (terms t.x)) (denominators (terms t.y) ++ denominators (terms t.z)) z in
    let zy = zero-parts (denominators (terms t.y)) (denominators (terms t.z)) zx.1 in
    let wx = beyond-parts (numbers (terms t.x)) (numbers (terms t.y) ++ numbers (terms t.z)) w in
    let wy = beyond-parts (numbers (terms t.y)) (numbers (terms t.z)) wx.1 in
    record { x = record { not_zero = zx.0; within = wx.0 }; y = record { not_zero = zy.0; within = wy.0 }; z = record { not_zero = zy.1; within = wy.1 } }

pub sound_parts : (p : Parts) (t : WrittenTriplet) → AreParts p t → AreNotZero (triplet_denominators t) → AreWithin (triplet_numbers t) → IsSound p.x × IsSound p.y × IsSound p.z
sound_parts p t h z w =
    let s = sound_components t z w in
    (sound_of (terms t.x) p.x h.x s.x.not_zero s.x.within, sound_of (terms t.y) p.y h.y s.y.not_zero s.y.within, sound_of (terms t.z) p.z h.z s.z.not_zero s.z.within)

-- an operation that a text writes
pub text_readable : (text : List ℕ) (g : Operation) → IsTextOf text g → IsReadable g
text_readable text g h = record {
  coefficients = elim [
    | first ↦ small_row (terms t.x) g first s.x v.x
    | next first ↦ small_row (terms t.y) g (next first) s.y v.y
    | next (next first) ↦ small_row (terms t.z) g (next (next first)) s.z v.z
    | next (next (next i)) ↦ elim i [ ]
  ];
  unimodular = h.unimodular;
  numerators = elim [
    | first ↦ small_shift (terms t.x) g first s.x v.x
    | next first ↦ small_shift (terms t.y) g (next first) s.y v.y
    | next (next first) ↦ small_shift (terms t.z) g (next (next first)) s.z v.z
    | next (next (next i)) ↦ elim i [ ]
  ];
  num = h.common.num;
  den = h.common.den;
  lowest = h.common.lowest;
  are = elim [
    | first ↦ v.x.shift ∙ sym h.common.x
    | next first ↦ v.y.shift ∙ sym h.common.y
    | next (next first) ↦ v.z.shift ∙ sym h.common.z
    | next (next (next i)) ↦ elim i [ ]
  ];
  denominator = h.common.within;
}
  where
    t : WrittenTriplet
    t = h.triplet

    v : IsValue h.triplet g
    v = h.written.2

    s : AreSoundComponents h.triplet
    s = sound_components h.triplet h.written.0 h.written.1

-- faults

pub zero_absent : (ns : List PlacedNumber) (p : ℕ) → AreNotZero ns → IsFirstZero ns p → ⊥
zero_absent [] p z f = f
zero_absent (n ∷ ns) p z (inl f) = omega (arith, z.0, f.0)
zero_absent (n ∷ ns) p z (inr f) = zero_absent ns p z.1 f.1

pub beyond_absent : (ls : List Limited) (p : ℕ) → AreWithin ls → IsFirstBeyond ls p → ⊥
beyond_absent [] p w f = f
beyond_absent (l ∷ ls) p w (inl f) = omega (arith, w.0, f.0)
beyond_absent (l ∷ ls) p w (inr f) = beyond_absent ls p w.1 f.1

pub no_fault : (text : List ℕ) (g : Operation) → IsTextOf text g → (e : TripletError) → IsFault text e → ⊥
no_fault text g h (Shape p) f = f.0 (record { triplet = h.triplet; spells = h.spells })
no_fault text g h (Zero p) f = zero_absent (triplet_denominators h.triplet) p h.written.0 (f.1 h.triplet h.spells)
no_fault text g h (Range p) f = by (f.1 h.triplet h.spells).1
  where
    by : IsFirstBeyond (triplet_numbers h.triplet) p ⊎ (AreWithin (triplet_numbers h.triplet) × ¬ (HasCommonDenominator h.triplet) × (p ≡ length text)) → ⊥
    by (inl b) = beyond_absent (triplet_numbers h.triplet) p h.written.1 b
    by (inr b) = b.1 h.common
no_fault text g h Determinant f =
    let d = f.1 h.triplet h.spells in
    d.determinant (ap (λ k. unsigned_abs (determinant k.rotation)) (same_value h.triplet d.value g d.written.2 h.written.2) ∙ h.unimodular)

pub no_zero : (o : Option ℕ) (ns : List PlacedNumber) → ((p : ℕ) → o ≡ Some p → ⊥) → IsZeroAnswer o ns → AreNotZero ns
no_zero None ns none h = h
no_zero (Some p) ns none h = absurd (none p refl)

pub no_beyond : (o : Option ℕ) (ls : List Limited) → ((p : ℕ) → o ≡ Some p → ⊥) → IsBeyondAnswer o ls → AreWithin ls
no_beyond None ls none h = h
no_beyond (Some p) ls none h = absurd (none p refl)
