-- Texts of wave vectors.
--   component-is           the components of what is read
--   text-of_read           what is read with no fault is what the text writes
--   no_fault-text          a text that has a fault writes none
--   zero_wave, zero-text   0,0,0 writes one
use Rattle.std.proofs.Common.{◌≡◌, refl, sym, ◌∙◌, ℕ, ◌≤◌, pos, List, [], ◌∷◌, None, inl, inr, lit≤, ◌+◌, arith}
use Rattle.std.specs.Prelude.{codes}
use native.Mathlib.Nat as Nat
use Rattle.irr_algebra.specs.Fin.{Fin, to_nat}
use Rattle.irr_algebra.specs.Fin.Fin.{first, next}
use Rattle.irr_rational.specs.Rational.{ratio}
use Rattle.irr_rational.specs.Ratio.{entry, ratios}
use Rattle.irr_space.specs.Operation.{WaveVector, wave_component}
use Rattle.irr_token.specs.Token.{Token}
use Rattle.irr_token.specs.Token.Token.{number, mark}
use Rattle.irr_token.specs.Quotient.{WrittenQuotient}
use Rattle.irr_token.specs.Spelling.{AreSpelled}
use Rattle.irr_kvec.specs.declared.wave.Wave.{Wave}
use Rattle.irr_kvec.specs.declared.read.WaveError.{WaveError}
use Rattle.irr_kvec.specs.declared.read.WaveError.TheVariants.{Shape, Zero, Range}
use Rattle.irr_kvec.specs.WaveMeaning.{wave_of, wave_vector}
use Rattle.irr_kvec.specs.WrittenWave.{WrittenWave, wave_tokens, IsSpelling, IsWave}
use Rattle.irr_kvec.specs.WaveFault.{wave_denominators, wave_numbers, IsWritten, IsFault, IsTextOf}
use Rattle.irr_token.proofs.OneFault.{beyond-none, zero-none}

-- faults

pub no_fault-text : (text : List ℕ) (e : WaveError) (k : WaveVector) → IsFault 100000 text e → IsTextOf text k → ⊥
no_fault-text text (Shape p) k f h = f.0 (record { wave = h.wave; spells = h.spells })
no_fault-text text (Zero p) k f h = zero-none (wave_denominators h.wave) p (f.1 h.wave h.spells) h.written.0
no_fault-text text (Range p) k f h = elim (f.1 h.wave h.spells).1 [ inl b ↦ beyond-none (wave_numbers 100000 h.wave) p b h.written.1 | inr b ↦ b.1 h.common ]

-- readings

pub component-is : (k : Wave) (i : Fin 3) → wave_component (wave_vector k) i ≡ ratio (entry k.num i) k.den
unfolding wave_component wave_of ratios
component-is k i = refl

abbrev pub text-of_read : (text : List ℕ) (k : Wave) → IsWave text → ((w : WrittenWave) → IsSpelling w text → IsWritten 100000 w (wave_vector k)) → k.den ≤ 100000 → IsTextOf text (wave_vector k)
text-of_read text k h read within = let written = read h.wave h.spells in record {
  wave = h.wave;
  spells = h.spells;
  written = written;
  common = record {
    num = entry k.num;
    den = k.den;
    lowest = k.lowest;
    x = sym (component-is k first) ∙ written.2.x;
    y = sym (component-is k (next first)) ∙ written.2.y;
    z = sym (component-is k (next (next first))) ∙ written.2.z;
    within = within;
  };
}

-- 0,0,0

abbrev pub zero_at : ℕ → WrittenQuotient
zero_at p = record { sign = None; numerator = record { place = p; digits = 48 ∷ [] }; denominator = None }

abbrev pub zeros : WrittenWave
zeros = record { x = zero_at 0; y = zero_at 2; z = zero_at 4 }

unfoldable pub zero_wave : Wave
zero_wave = record { num = pos 0 ∷ pos 0 ∷ pos 0 ∷ []; den = 1; lowest = record { positive = omega arith; lowest = λ d v w. Nat.eq-one_of_dvd-one v } }

pub zero-component : (i : Fin 3) → wave_component (wave_vector zero_wave) i ≡ ratio (pos 0) 1
unfolding zero_wave wave_component wave_of ratios to_nat
zero-component first = refl
zero-component (next first) = refl
zero-component (next (next first)) = refl
zero-component (next (next (next i))) = elim i [ ]

behind_digit : (p : ℕ) (text : List ℕ) (ts : List Token) → AreSpelled (p + 1 + 0) ts text → AreSpelled p (number (record { place = p; digits = 48 ∷ [] }) ∷ ts) (48 ∷ text)
behind_digit p text ts h = ((omega arith, (omega arith, tt)), refl, record { blanks = []; rest = text; are_blanks = tt; joins = refl; is_rest = h })

behind_comma : (p : ℕ) (text : List ℕ) (ts : List Token) → AreSpelled (p + 1 + 0) ts text → AreSpelled p (mark 44 ∷ ts) (44 ∷ text)
behind_comma p text ts h = (refl, record { blanks = []; rest = text; are_blanks = tt; joins = refl; is_rest = h })

pub zero_spelled : AreSpelled 0 (wave_tokens zeros) (codes "0,0,0")
zero_spelled = behind_digit 0 (codes ",0,0") (mark 44 ∷ number (zero_at 2).numerator ∷ mark 44 ∷ number (zero_at 4).numerator ∷ [])
    (behind_comma 1 (codes "0,0") (number (zero_at 2).numerator ∷ mark 44 ∷ number (zero_at 4).numerator ∷ [])
    (behind_digit 2 (codes ",0") (mark 44 ∷ number (zero_at 4).numerator ∷ []) (behind_comma 3 (codes "0") (number (zero_at 4).numerator ∷ []) (behind_digit 4 [] [] refl))))

abbrev pub zero-text : IsTextOf (codes "0,0,0") (wave_vector zero_wave)
zero-text = record {
  wave = zeros;
  spells = record { spelled = zero_spelled; no_blank = λ e. cc };
  written = (tt, (lit≤ tt, (lit≤ tt, (lit≤ tt, tt))), record { x = zero-component first; y = zero-component (next first); z = zero-component (next (next first)) });
  common = record {
    num = λ i. pos 0;
    den = 1;
    lowest = record { positive = omega arith; lowest = λ d v w. Nat.eq-one_of_dvd-one v };
    x = refl;
    y = refl;
    z = refl;
    within = lit≤ tt;
  };
}
