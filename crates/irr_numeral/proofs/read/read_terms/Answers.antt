-- The faults are those of the terms that were read.
use Rattle.std.proofs.Common.{◌≡◌, refl, subst, ℕ, List, map, inl, inr, All}
use Rattle.irr_numeral.specs.declared.terms.Written.{Written}
use Rattle.irr_numeral.specs.NumberFault.{IsShapeFault, IsZeroFault, IsRangeFault}
use Rattle.irr_numeral.specs.NumberLimit.{IsBeyondAt}
use Rattle.irr_numeral.specs.TermPlaces.{IsUnorderedAt, HasZero, IsZeroAt, written_term}
use Rattle.irr_numeral.specs.WrittenNumber.{AreTerms, AreIncreasing, spelled}
use Rattle.irr_numeral.proofs.read.read_terms.Goals as goal

shape_fault : (text : List ℕ) (ws slice : List Written) (p : ℕ) → AreTerms (map written_term ws) → spelled (map written_term ws) ≡ text → slice ≡ ws → IsUnorderedAt (map written_term slice) p → IsShapeFault text p
shape_fault text ws slice p are spells e h = inr (record { terms = map written_term ws; are_terms = are; spells = spells }, subst (λ (l : List Written). IsUnorderedAt (map written_term l) p) e h)

zero_fault : (text : List ℕ) (ws slice again : List Written) (p : ℕ) → AreTerms (map written_term ws) → spelled (map written_term ws) ≡ text → slice ≡ ws → again ≡ ws → AreIncreasing (map written_term slice) → IsZeroAt (map written_term again) p → IsZeroFault text p
zero_fault text ws slice again p are spells e f o h = (record { terms = map written_term ws; are_terms = are; spells = spells }, subst (λ (l : List Written). AreIncreasing (map written_term l)) e o, subst (λ (l : List Written). IsZeroAt (map written_term l) p) f h)

range_fault : (n : ℕ) (text : List ℕ) (ws slice again third : List Written) (p : ℕ) → AreTerms (map written_term ws) → spelled (map written_term ws) ≡ text → slice ≡ ws → again ≡ ws → third ≡ ws → AreIncreasing (map written_term slice)
    → All (λ t. ¬ (HasZero t)) (map written_term again) → IsBeyondAt n (map written_term third) p → IsRangeFault n text p
range_fault n text ws slice again third p are spells e f g o z h = (
  record { terms = map written_term ws; are_terms = are; spells = spells },
  subst (λ (l : List Written). AreIncreasing (map written_term l)) e o,
  subst (λ (l : List Written). All (λ t. ¬ (HasZero t)) (map written_term l)) f z,
  subst (λ (l : List Written). IsBeyondAt n (map written_term l) p) g h,
)

pub returns-in-Some-first_beyond-clause-fault : goal.returns-in-Some-first_beyond-clause-fault
returns-in-Some-first_beyond-clause-fault c = inl (range_fault c.args.n c.args.text.now c.in-Ok.terms.items c.as_slice.result.now c.as_slice-2.result.now c.as_slice-3.result.now c.in-Some-first_beyond.place c.in-Ok.ensures.are_terms c.in-Ok.ensures.spells
    c.as_slice.ensures.value c.as_slice-2.ensures.value c.as_slice-3.ensures.value (c.in_default-first_unordered.ensures.none refl) (c.in_default-first_zero.ensures.none refl) c.in-Some-first_beyond.ensures.some)

pub returns-in-Some-clause-fault : goal.returns-in-Some-clause-fault
returns-in-Some-clause-fault c = shape_fault c.args.text.now c.in-Ok.terms.items c.as_slice.result.now c.in-Some.place c.in-Ok.ensures.are_terms c.in-Ok.ensures.spells c.as_slice.ensures.value c.in-Some.ensures.some

pub returns-in-Some-first_zero-clause-fault : goal.returns-in-Some-first_zero-clause-fault
returns-in-Some-first_zero-clause-fault c = zero_fault c.args.text.now c.in-Ok.terms.items c.as_slice.result.now c.as_slice-2.result.now c.in-Some-first_zero.place c.in-Ok.ensures.are_terms c.in-Ok.ensures.spells
    c.as_slice.ensures.value c.as_slice-2.ensures.value (c.in_default-first_unordered.ensures.none refl) c.in-Some-first_zero.ensures.some
