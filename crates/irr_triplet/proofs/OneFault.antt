-- A text has one fault at most, and none where it writes an operation.
--   fault_unique     faults of one text are one
--   fault_none       a text with a fault writes no operation
use Rattle.std.proofs.Common.{◌≡◌, refl, sym, ◌∙◌, ap, ℕ, List, length, inl, inr}
use Rattle.irr_space.specs.Operation.{Operation}
use Rattle.irr_seitz.specs.Rotation.{determinant}
use Rattle.std.specs.Prelude.{unsigned_abs}
use Rattle.irr_grammar.proofs.ShapePlaces.{place_unique}
use Rattle.irr_token.proofs.OneFault.{beyond-none, beyond-unique, zero-none, zero-unique}
use Rattle.irr_triplet.specs.declared.reading.TripletError.{TripletError}
use Rattle.irr_triplet.specs.declared.reading.TripletError.TheVariants.{Shape, Zero, Range, Determinant}
use Rattle.irr_triplet.specs.WrittenTriplet.{WrittenTriplet, IsTriplet}
use Rattle.irr_triplet.specs.TripletFault.{triplet_denominators, triplet_numbers, IsFault, IsRangeFault, IsTextOf, IsWritten, HasCommonDenominator}
use Rattle.irr_triplet.proofs.OneTriplet.{value_unique}

module _ (t : WrittenTriplet) (n : ℕ) where
  range-unique : (p q : ℕ) → IsRangeFault t n p → IsRangeFault t n q → p ≡ q
  range-unique p q (z, inl a) (y, inl b) = beyond-unique (triplet_numbers t) p q a b
  range-unique p q (z, inl a) (y, inr b) = absurd (beyond-none (triplet_numbers t) p a b.0)
  range-unique p q (z, inr a) (y, inl b) = absurd (beyond-none (triplet_numbers t) q b a.0)
  range-unique p q (z, inr a) (y, inr b) = a.2 ∙ sym b.2

  range-none : (p : ℕ) (g : Operation) → IsRangeFault t n p → IsWritten t g → HasCommonDenominator t → ⊥
  range-none p g (z, inl a) w c = beyond-none (triplet_numbers t) p a w.1
  range-none p g (z, inr a) w c = a.1 c

pub fault_unique : (text : List ℕ) (e f : TripletError) → IsFault text e → IsFault text f → e ≡ f
fault_unique text (Shape p) (Shape q) a b = ap Shape (place_unique IsTriplet text p q a.1 b.1)
fault_unique text (Shape p) (Zero q) a b = absurd (a.0 b.0)
fault_unique text (Shape p) (Range q) a b = absurd (a.0 b.0)
fault_unique text (Shape p) Determinant a b = absurd (a.0 b.0)
fault_unique text (Zero p) (Shape q) a b = absurd (b.0 a.0)
fault_unique text (Zero p) (Zero q) a b = let t = a.0.triplet in
    ap Zero (zero-unique (triplet_denominators t) p q (a.1 t a.0.spells) (b.1 t a.0.spells))
fault_unique text (Zero p) (Range q) a b = let t = a.0.triplet in
    absurd (zero-none (triplet_denominators t) p (a.1 t a.0.spells) (b.1 t a.0.spells).0)
fault_unique text (Zero p) Determinant a b = let t = a.0.triplet in
    absurd (zero-none (triplet_denominators t) p (a.1 t a.0.spells) (b.1 t a.0.spells).written.0)
fault_unique text (Range p) (Shape q) a b = absurd (b.0 a.0)
fault_unique text (Range p) (Zero q) a b = let t = a.0.triplet in
    absurd (zero-none (triplet_denominators t) q (b.1 t a.0.spells) (a.1 t a.0.spells).0)
fault_unique text (Range p) (Range q) a b = let t = a.0.triplet in
    ap Range (range-unique t (length text) p q (a.1 t a.0.spells) (b.1 t a.0.spells))
fault_unique text (Range p) Determinant a b = let t = a.0.triplet in let d = b.1 t a.0.spells in
    absurd (range-none t (length text) p d.value (a.1 t a.0.spells) d.written d.common)
fault_unique text Determinant (Shape q) a b = absurd (b.0 a.0)
fault_unique text Determinant (Zero q) a b = let t = a.0.triplet in
    absurd (zero-none (triplet_denominators t) q (b.1 t a.0.spells) (a.1 t a.0.spells).written.0)
fault_unique text Determinant (Range q) a b = let t = a.0.triplet in let d = a.1 t a.0.spells in
    absurd (range-none t (length text) q d.value (b.1 t a.0.spells) d.written d.common)
fault_unique text Determinant Determinant a b = refl

pub fault_none : (text : List ℕ) (g : Operation) (e : TripletError) → IsTextOf text g → IsFault text e → ⊥
fault_none text g (Shape p) a b = b.0 (record { triplet = a.triplet; spells = a.spells })
fault_none text g (Zero p) a b = zero-none (triplet_denominators a.triplet) p (b.1 a.triplet a.spells) a.written.0
fault_none text g (Range p) a b = range-none a.triplet (length text) p g (b.1 a.triplet a.spells) a.written a.common
fault_none text g Determinant a b =
    let d = b.1 a.triplet a.spells in
    let e : d.value ≡ g = value_unique a.triplet a.triplet d.value g refl refl refl d.written.2 a.written.2 in
    d.determinant (ap (λ (o : Operation). unsigned_abs (determinant o.rotation)) e ∙ a.unimodular)
