-- What is read of a wave vector's text.
--   quotient_behind        a comma, or nothing, stands behind a component
--   parts_of               the components of a text
--   same-denominators, same-numbers, same-values     what is read is what is written
--   same_component         a vector's components are those of the wave vector with the same numbers
use Rattle.std.proofs.Common.{◌≡◌, ◌≢◌, refl, sym, ◌∙◌, ap, ap₂, subst, ℕ, ℤ, List, [], ◌∷◌, ◌++◌, append_assoc, append-nil, Option, None, Some, IfSome, IsNone, length, arith, inl, inr}
use Rattle.irr_algebra.specs.Fin.{Fin}
use Rattle.irr_algebra.specs.Fin.Fin.{first, next}
use Rattle.irr_rational.specs.Rational.{Rational, ratio}
use Rattle.irr_rational.specs.Ratio.{AreLowest}
use Rattle.irr_space.specs.Operation.{WaveVector, component, wave_component}
use Rattle.irr_rat.specs.VectorMeaning.{vector_of}
use Rattle.irr_token.specs.declared.read.Quotient.{Quotient}
use Rattle.irr_token.specs.Token.{PlacedNumber, Token}
use Rattle.irr_token.specs.Token.Token.{number, mark}
use Rattle.irr_token.specs.Spelling.{AreSpelled}
use Rattle.irr_token.specs.Quotient.{WrittenQuotient, quotient_tokens, quotient_value}
use Rattle.irr_token.specs.Reading.{written_quotient, IsReadAs, IsBehindQuotient}
use Rattle.irr_token.specs.Fault.{Limited, AreNotZero, IsFirstZero, AreWithin, IsFirstBeyond, denominators, limited}
use Rattle.irr_token.proofs.FirstFaults.{same-denominators, same-limited, same-value}
use Rattle.irr_kvec.specs.declared.read.Parts.{Parts}
use Rattle.irr_kvec.specs.WaveMeaning.{wave_of}
use Rattle.irr_kvec.specs.WrittenWave.{WrittenWave, wave_tokens, IsSpelling}
use Rattle.irr_kvec.specs.WaveParts.{written_wave, AreParts}
use Rattle.irr_kvec.specs.WaveFault.{wave_denominators, wave_numbers, IsValue, HasCommonDenominator, IsWritten, IsRangeFault}

-- what a reading of a component at the front of a text says
abbrev pub Reads : ℕ → List ℕ → Quotient → ℕ → List ℕ → Type 0
Reads at text r to left = (q : WrittenQuotient) (ts : List Token) → IsBehindQuotient ts → AreSpelled at (quotient_tokens q ++ ts) text → IsReadAs r q × AreSpelled to ts left

abbrev pub Skips : ℕ → List ℕ → ℕ → List ℕ → Type 0
Skips at text to left = (ts : List Token) → AreSpelled at (mark 44 ∷ ts) text → AreSpelled to ts left

comma : (ts : List Token) → IsBehindQuotient (mark 44 ∷ ts)
comma ts e = omega (arith, e)

pub parts_of : (text s t u v l : List ℕ) (a b c d e : ℕ) (r : Parts) → Reads 0 text r.x a s → Skips a s b t → Reads b t r.y c u → Skips c u d v → Reads d v r.z e l
    → (w : WrittenWave) → IsSpelling w text → AreParts r w
parts_of text s t u v l a b c d e r fx f fy g fz w h =
    let x = fx w.x (mark 44 ∷ (quotient_tokens w.y ++ (mark 44 ∷ quotient_tokens w.z))) (comma (quotient_tokens w.y ++ (mark 44 ∷ quotient_tokens w.z))) h.spelled in
    let y = fy w.y (mark 44 ∷ quotient_tokens w.z) (comma (quotient_tokens w.z)) (f (quotient_tokens w.y ++ (mark 44 ∷ quotient_tokens w.z)) x.1) in
    let z = fz w.z [] tt (subst (λ ts. AreSpelled d ts v) (sym (append-nil (quotient_tokens w.z))) (g (quotient_tokens w.z) y.1)) in
    record { x = x.0; y = y.0; z = z.0 }

pub wave-denominators : (r : Parts) (w : WrittenWave) → AreParts r w → wave_denominators (written_wave r) ≡ wave_denominators w
wave-denominators r w h = ap₂ (λ (a b : List PlacedNumber). a ++ b) (same-denominators r.x w.x h.x) (ap₂ (λ (a b : List PlacedNumber). a ++ b) (same-denominators r.y w.y h.y) (same-denominators r.z w.z h.z))

pub wave-numbers : (m : ℕ) (r : Parts) (w : WrittenWave) → AreParts r w → wave_numbers m (written_wave r) ≡ wave_numbers m w
wave-numbers m r w h = ap₂ (λ (a b : List Limited). a ++ b) (same-limited m r.x w.x h.x) (ap₂ (λ (a b : List Limited). a ++ b) (same-limited m r.y w.y h.y) (same-limited m r.z w.z h.z))

pub wave-value : (r : Parts) (w : WrittenWave) (k : WaveVector) → AreParts r w → IsValue (written_wave r) k → IsValue w k
wave-value r w k h v = record { x = v.x ∙ same-value r.x w.x h.x; y = v.y ∙ same-value r.y w.y h.y; z = v.z ∙ same-value r.z w.z h.z }

pub wave-common : (r : Parts) (w : WrittenWave) → AreParts r w → HasCommonDenominator w → HasCommonDenominator (written_wave r)
wave-common r w h g = record {
  num = g.num;
  den = g.den;
  lowest = g.lowest;
  x = g.x ∙ sym (same-value r.x w.x h.x);
  y = g.y ∙ sym (same-value r.y w.y h.y);
  z = g.z ∙ sym (same-value r.z w.z h.z);
  within = g.within;
}

-- what is answered for what is read is answered for what is written

pub zero-written : (r : Parts) (w : WrittenWave) (p : ℕ) → AreParts r w → IsFirstZero (wave_denominators (written_wave r)) p → IsFirstZero (wave_denominators w) p
zero-written r w p h z = subst (λ ns. IsFirstZero ns p) (wave-denominators r w h) z

pub range-written : (m n : ℕ) (r : Parts) (w : WrittenWave) (p : ℕ) → AreParts r w → IsRangeFault m (written_wave r) n p → IsRangeFault m w n p
range-written m n r w p h (z, inl b) = (subst AreNotZero (wave-denominators r w h) z, inl (subst (λ ns. IsFirstBeyond ns p) (wave-numbers m r w h) b))
range-written m n r w p h (z, inr b) = (subst AreNotZero (wave-denominators r w h) z, inr (subst AreWithin (wave-numbers m r w h) b.0, (λ g. b.1 (wave-common r w h g)), b.2))

pub value-written : (m : ℕ) (r : Parts) (w : WrittenWave) (k : WaveVector) → AreParts r w → IsWritten m (written_wave r) k → IsWritten m w k
value-written m r w k h v = (subst AreNotZero (wave-denominators r w h) v.0, subst AreWithin (wave-numbers m r w h) v.1, wave-value r w k h v.2)

pub same_component : (num : List ℤ) (den : ℕ) (i : Fin 3) → wave_component (wave_of num den) i ≡ component (vector_of num den) i
unfolding wave_component wave_of component vector_of
same_component num den i = refl
