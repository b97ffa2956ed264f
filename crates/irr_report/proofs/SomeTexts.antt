-- A text of a wave vector and one of an operation, and texts of wave vectors as they are read.
--   zero-wave              0,0,0
--   unit-triplet           x,y,z
--   wave-of_read, no-wave  what is read of the text of a wave vector, and what is not
use Rattle.std.proofs.Common.{◌≡◌, refl, sym, ◌∙◌, ap, subst, ℕ, ◌+◌, ◌≤◌, pos, List, [], ◌∷◌, None, inl, inr, lit≤, arith}
use Rattle.std.specs.Prelude.{codes, unsigned_abs}
use native.Mathlib.Nat as Nat
use Rattle.irr_algebra.specs.Fin.{Fin, to_nat}
use Rattle.irr_algebra.specs.Fin.Fin.{first, next}
use Rattle.irr_rational.specs.Rational.{ratio}
use Rattle.irr_rational.specs.Ratio.{entry, ratios, IsLowest}
use Rattle.irr_space.specs.Operation.{Operation, WaveVector, component, wave_component}
use Rattle.irr_text.specs.NumberText.{numerator}
use Rattle.irr_text.specs.TripletText.{triplet_text}
use Rattle.irr_text.proofs.RationalForm.{numerator-lowest}
use Rattle.irr_token.specs.Token.{Token}
use Rattle.irr_token.specs.Token.Token.{number, mark}
use Rattle.irr_token.specs.Quotient.{WrittenQuotient}
use Rattle.irr_token.specs.Spelling.{AreSpelled}
use Rattle.irr_token.proofs.OneFault.{beyond-none, zero-none}
use Rattle.irr_seitz.specs.Rotation.{rotation_of, IsWithin, determinant}
use Rattle.irr_triplet.specs.Readable.{IsReadable}
use Rattle.irr_triplet.proofs.PrintedTriplets.{printed_read}
use Rattle.irr_kvec.specs.declared.wave.Wave.{Wave}
use Rattle.irr_kvec.specs.declared.read.WaveError.{WaveError}
use Rattle.irr_kvec.specs.declared.read.WaveError.TheVariants.{Shape, Zero, Range}
use Rattle.irr_kvec.specs.WaveMeaning.{wave_of, wave_vector}
use Rattle.irr_kvec.specs.WrittenWave as spelled
use Rattle.irr_kvec.specs.WrittenWave.{WrittenWave, wave_tokens, IsSpelling}
use Rattle.irr_kvec.specs.WaveFault.{wave_denominators, wave_numbers, IsWritten, IsFault}
use Rattle.irr_report.specs.ReportFault.{IsWaveText, IsWave, IsTriplet}

-- 0,0,0

abbrev zero_at : ℕ → WrittenQuotient
zero_at p = record { sign = None; numerator = record { place = p; digits = 48 ∷ [] }; denominator = None }

abbrev zeros : WrittenWave
zeros = record { x = zero_at 0; y = zero_at 2; z = zero_at 4 }

zero_vector : WaveVector
zero_vector = record { at = λ i j. ratio (pos 0) 1 }

zero-component : (i : Fin 3) → wave_component zero_vector i ≡ ratio (pos 0) 1
unfolding zero_vector wave_component
zero-component i = refl

behind_digit : (p : ℕ) (text : List ℕ) (ts : List Token) → AreSpelled (p + 1 + 0) ts text → AreSpelled p (number (record { place = p; digits = 48 ∷ [] }) ∷ ts) (48 ∷ text)
behind_digit p text ts h = ((omega arith, (omega arith, tt)), refl, record { blanks = []; rest = text; are_blanks = tt; joins = refl; is_rest = h })

behind_comma : (p : ℕ) (text : List ℕ) (ts : List Token) → AreSpelled (p + 1 + 0) ts text → AreSpelled p (mark 44 ∷ ts) (44 ∷ text)
behind_comma p text ts h = (refl, record { blanks = []; rest = text; are_blanks = tt; joins = refl; is_rest = h })

zero_spelled : AreSpelled 0 (wave_tokens zeros) (codes "0,0,0")
zero_spelled = behind_digit 0 (codes ",0,0") (mark 44 ∷ number (zero_at 2).numerator ∷ mark 44 ∷ number (zero_at 4).numerator ∷ [])
    (behind_comma 1 (codes "0,0") (number (zero_at 2).numerator ∷ mark 44 ∷ number (zero_at 4).numerator ∷ [])
    (behind_digit 2 (codes ",0") (mark 44 ∷ number (zero_at 4).numerator ∷ []) (behind_comma 3 (codes "0") (number (zero_at 4).numerator ∷ []) (behind_digit 4 [] [] refl))))

pub zero-wave : IsWave (codes "0,0,0")
zero-wave = (
  zero_vector,
  record {
    wave = zeros;
    spells = record { spelled = zero_spelled; no_blank = λ e. cc };
    written = (tt, (lit≤ tt, (lit≤ tt, (lit≤ tt, tt))), record { x = zero-component first; y = zero-component (next first); z = zero-component (next (next first)) });
    common = record {
      num = λ i. pos 0;
      den = 1;
      lowest = record { positive = omega arith; lowest = λ d v w. Nat.eq-one_of_dvd-one v };
      x = refl;
      y = refl;
      z = refl;
      within = lit≤ tt;
    };
  },
)

-- x,y,z

pub unit_operation : Operation
unit_operation = record {
  rotation = rotation_of ((pos 1 ∷ pos 0 ∷ pos 0 ∷ []) ∷ (pos 0 ∷ pos 1 ∷ pos 0 ∷ []) ∷ (pos 0 ∷ pos 0 ∷ pos 1 ∷ []) ∷ []);
  vector = record { at = λ i j. ratio (pos 0) 1 };
}

unit_within : IsWithin 9 unit_operation.rotation
unfolding unit_operation rotation_of to_nat
unit_within first first = lit≤ tt
unit_within first (next first) = lit≤ tt
unit_within first (next (next first)) = lit≤ tt
unit_within first (next (next (next j))) = elim j [ ]
unit_within (next first) first = lit≤ tt
unit_within (next first) (next first) = lit≤ tt
unit_within (next first) (next (next first)) = lit≤ tt
unit_within (next first) (next (next (next j))) = elim j [ ]
unit_within (next (next first)) first = lit≤ tt
unit_within (next (next first)) (next first) = lit≤ tt
unit_within (next (next first)) (next (next first)) = lit≤ tt
unit_within (next (next first)) (next (next (next j))) = elim j [ ]
unit_within (next (next (next i))) j = elim i [ ]

unit_determinant : unsigned_abs (determinant unit_operation.rotation) ≡ 1
unfolding unit_operation rotation_of to_nat determinant
unit_determinant = refl

zero_lowest : IsLowest (pos 0) 1
zero_lowest = record { positive = omega arith; lowest = λ d v w. Nat.eq-one_of_dvd-one v }

unit_component : (i : Fin 3) → component unit_operation.vector i ≡ ratio (pos 0) 1
unfolding unit_operation component
unit_component i = refl

unit_readable : IsReadable unit_operation
unit_readable = record {
  coefficients = unit_within;
  unimodular = unit_determinant;
  numerators = λ i. subst (λ q. unsigned_abs q ≤ 100000) (sym (ap numerator (unit_component i) ∙ numerator-lowest (pos 0) 1 zero_lowest)) (lit≤ tt);
  num = λ i. pos 0;
  den = 1;
  lowest = record { positive = omega arith; lowest = λ d v w. Nat.eq-one_of_dvd-one v };
  are = unit_component;
  denominator = lit≤ tt;
}

pub unit-triplet : IsTriplet (triplet_text unit_operation)
unit-triplet = (unit_operation, printed_read unit_operation unit_readable)

-- what is read

component-is : (k : Wave) (i : Fin 3) → wave_component (wave_vector k) i ≡ ratio (entry k.num i) k.den
unfolding wave_component wave_of ratios
component-is k i = refl

pub wave-of_read : (text : List ℕ) (k : Wave) → spelled.IsWave text → ((w : WrittenWave) → IsSpelling w text → IsWritten 400000 w (wave_vector k)) → k.den ≤ 100000
    → IsWaveText text (wave_vector k)
wave-of_read text k h read within = let written = read h.wave h.spells in record {
  wave = h.wave;
  spells = h.spells;
  written = written;
  common = record {
    num = entry k.num;
    den = k.den;
    lowest = k.lowest;
    x = sym (component-is k first) ∙ written.2.x;
    y = sym (component-is k (next first)) ∙ written.2.y;
    z = sym (component-is k (next (next first))) ∙ written.2.z;
    within = within;
  };
}

no_wave : (text : List ℕ) (e : WaveError) (k : WaveVector) → IsFault 400000 text e → IsWaveText text k → ⊥
no_wave text (Shape p) k f h = f.0 (record { wave = h.wave; spells = h.spells })
no_wave text (Zero p) k f h = zero-none (wave_denominators h.wave) p (f.1 h.wave h.spells) h.written.0
no_wave text (Range p) k f h = elim (f.1 h.wave h.spells).1 [ inl b ↦ beyond-none (wave_numbers 400000 h.wave) p b h.written.1 | inr b ↦ b.1 h.common ]

pub no-wave : (text : List ℕ) (e : WaveError) → IsFault 400000 text e → ¬ (IsWave text)
no-wave text e f h = no_wave text e h.0 f h.1
