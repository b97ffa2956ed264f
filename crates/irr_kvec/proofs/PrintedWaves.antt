-- Wave vectors as they print are wave vectors as they are written.
--   printed_wave k         the printed form of k, with the places of its numbers
--   printed-spelling       its text spells it
--   printed-written        and its value is k
use Rattle.std.proofs.Common.{◌≡◌, refl, sym, ◌∙◌, subst, ℕ, ◌<◌, ◌≤◌, ◌+◌, ◌^◌, List, [], ◌∷◌, ◌++◌, append-nil, append_assoc, arith}
use Rattle.std.specs.Int.{◌∣◌}
use Rattle.std.specs.Int.RustNames.{unsigned_abs}
use native.Mathlib.Nat as Nat
use Rattle.irr_algebra.specs.Fin.{Fin}
use Rattle.irr_algebra.specs.Fin.Fin.{first, next}
use Rattle.irr_rational.specs.Rational.{Rational, ratio}
use Rattle.irr_rational.specs.Ratio.{IsLowest}
use Rattle.irr_canonical.specs.Coefficient.{denominator}
use Rattle.irr_space.specs.Operation.{WaveVector, wave_component}
use Rattle.irr_text.specs.NumberText.{numerator, fraction_text, rational_text}
use Rattle.irr_text.specs.WaveText.{wave_text}
use Rattle.irr_text.proofs.RationalForm.{numerator_is_lowest}
use Rattle.irr_rat.proofs.CommonDenominators.{denominator_divides}
use Rattle.irr_token.specs.Token.{Token}
use Rattle.irr_token.specs.Spelling.{AreSpelled}
use Rattle.irr_token.specs.Quotient.{WrittenQuotient, quotient_tokens, quotient_value}
use Rattle.irr_token.specs.Fault.{AreNotZero, AreWithin, denominators, limited}
use Rattle.irr_token.proofs.FirstFaults.{none-zero, none-beyond}
use Rattle.irr_token.proofs.PrintedQuotients.{printed_quotient, printed_end, printed-spelled, printed-value, printed-zero, printed-within, NoBlanks, no_blanks-append, mark-no_blanks, fraction-no_blanks, ends-no_blanks}
use Rattle.irr_kvec.specs.WrittenWave.{WrittenWave, wave_tokens, IsSpelling}
use Rattle.irr_kvec.specs.Readable.{IsReadable}
use Rattle.irr_kvec.specs.WaveFault.{HasCommonDenominator, IsWritten}

-- a component of a wave vector that can be read
record IsPart (m : ℕ) (x : Rational) : Type 0 where
  pub lowest : IsLowest (numerator x) (denominator 1 x)
  pub is : ratio (numerator x) (denominator 1 x) ≡ x
  pub top : m < 2 ^ 64
  pub num_within : unsigned_abs (numerator x) ≤ m
  pub den_within : denominator 1 x ≤ 100000

is_part : (m : ℕ) (k : WaveVector) → m < 2 ^ 64 → IsReadable m k → (i : Fin 3) → IsPart m (wave_component k i)
is_part m k top h i = record { lowest = low.0; is = low.1; top = top; num_within = h.numerators i; den_within = Nat.le_trans (Nat.le_of_dvd h.lowest.positive divides) h.denominator }
  where
    low : IsLowest (numerator (wave_component k i)) (denominator 1 (wave_component k i)) × (ratio (numerator (wave_component k i)) (denominator 1 (wave_component k i)) ≡ wave_component k i)
    low = numerator_is_lowest (wave_component k i)

    divides : denominator 1 (wave_component k i) ∣ h.den
    divides = denominator_divides (numerator (wave_component k i)) (h.num i) (denominator 1 (wave_component k i)) h.den low.0 h.lowest.positive (sym (h.are i) ∙ sym low.1)

part_at : ℕ → Rational → WrittenQuotient
part_at at x = printed_quotient at (numerator x) (denominator 1 x)

part_end : ℕ → Rational → ℕ
part_end at x = printed_end at (numerator x) (denominator 1 x)

part_text : Rational → List ℕ
part_text x = fraction_text (numerator x) (denominator 1 x)

part-spelled : (m at : ℕ) (x : Rational) (ts : List Token) (rest : List ℕ) → IsPart m x → AreSpelled (part_end at x) ts rest → AreSpelled at (quotient_tokens (part_at at x) ++ ts) (part_text x ++ rest)
unfolding part_at part_end part_text
part-spelled m at x ts rest h sp = printed-spelled at (numerator x) (denominator 1 x) ts rest (let n = h.num_within in let top = h.top in omega arith) h.den_within sp

part-no_blanks : (m : ℕ) (x : Rational) → IsPart m x → NoBlanks (part_text x)
unfolding part_text
part-no_blanks m x h = fraction-no_blanks (numerator x) (denominator 1 x) (let n = h.num_within in let top = h.top in omega arith) h.den_within

part-value : (m at : ℕ) (x : Rational) → IsPart m x → quotient_value (part_at at x) ≡ x
unfolding part_at
part-value m at x h = printed-value at (numerator x) (denominator 1 x) (let n = h.num_within in let top = h.top in omega arith) h.den_within ∙ h.is

part-zero : (m at : ℕ) (x : Rational) → IsPart m x → AreNotZero (denominators (part_at at x))
unfolding part_at
part-zero m at x h = printed-zero at (numerator x) (denominator 1 x) h.lowest.positive h.den_within

part-within : (m at : ℕ) (x : Rational) → IsPart m x → AreWithin (limited m (part_at at x))
unfolding part_at
part-within m at x h = printed-within m at (numerator x) (denominator 1 x) h.top h.num_within h.den_within

-- three components with commas between
three_text : (x y z : Rational) → List ℕ
three_text x y z = part_text x ++ 44 ∷ (part_text y ++ 44 ∷ part_text z)

second_place : Rational → ℕ
second_place x = part_end 0 x + 1 + 0

third_place : (x y : Rational) → ℕ
third_place x y = part_end (second_place x) y + 1 + 0

three_wave : (x y z : Rational) → WrittenWave
three_wave x y z = record { x = part_at 0 x; y = part_at (second_place x) y; z = part_at (third_place x y) z }

three-spelled : (m : ℕ) (x y z : Rational) → IsPart m x → IsPart m y → IsPart m z → AreSpelled 0 (wave_tokens (three_wave x y z)) (three_text x y z)
unfolding three_text second_place third_place three_wave
three-spelled m x y z hx hy hz = part-spelled m 0 x _ _ hx (
  refl,
  record {
    blanks = [];
    rest = part_text y ++ 44 ∷ part_text z;
    are_blanks = tt;
    joins = refl;
    is_rest = part-spelled m (second_place x) y _ _ hy (refl, record { blanks = []; rest = part_text z; are_blanks = tt; joins = refl; is_rest = last });
  },
)
  where
    last : AreSpelled (third_place x y) (quotient_tokens (part_at (third_place x y) z)) (part_text z)
    last = subst (λ ts. AreSpelled (third_place x y) ts (part_text z)) (append-nil (quotient_tokens (part_at (third_place x y) z)))
        (subst (AreSpelled (third_place x y) (quotient_tokens (part_at (third_place x y) z) ++ [])) (append-nil (part_text z)) (part-spelled m (third_place x y) z [] [] hz refl))

three-no_blanks : (m : ℕ) (x y z : Rational) → IsPart m x → IsPart m y → IsPart m z → NoBlanks (three_text x y z)
unfolding three_text
three-no_blanks m x y z hx hy hz = no_blanks-append (part_text x) (44 ∷ (part_text y ++ 44 ∷ part_text z)) (part-no_blanks m x hx)
    (mark-no_blanks 44 (part_text y ++ 44 ∷ part_text z) refl (no_blanks-append (part_text y) (44 ∷ part_text z) (part-no_blanks m y hy) (mark-no_blanks 44 (part_text z) refl (part-no_blanks m z hz))))

text-parts : (k : WaveVector) → wave_text k ≡ three_text (wave_component k first) (wave_component k (next first)) (wave_component k (next (next first)))
unfolding wave_text rational_text three_text part_text
text-parts k = append_assoc (part_text (wave_component k first)) (44 ∷ part_text (wave_component k (next first))) (44 ∷ part_text (wave_component k (next (next first))))

pub printed_wave : WaveVector → WrittenWave
printed_wave k = three_wave (wave_component k first) (wave_component k (next first)) (wave_component k (next (next first)))

pub printed-spelling : (m : ℕ) (k : WaveVector) → m < 2 ^ 64 → IsReadable m k → IsSpelling (printed_wave k) (wave_text k)
unfolding printed_wave
printed-spelling m k top h = subst (IsSpelling (printed_wave k)) (sym (text-parts k)) (record {
  spelled = three-spelled m (wave_component k first) (wave_component k (next first)) (wave_component k (next (next first))) (is_part m k top h first) (is_part m k top h (next first)) (is_part m k top h (next (next first)));
  no_blank = ends-no_blanks _ (three-no_blanks m (wave_component k first) (wave_component k (next first)) (wave_component k (next (next first))) (is_part m k top h first) (is_part m k top h (next first))
      (is_part m k top h (next (next first))));
})

pub printed-written : (m : ℕ) (k : WaveVector) → m < 2 ^ 64 → IsReadable m k → IsWritten m (printed_wave k) k × HasCommonDenominator (printed_wave k)
unfolding printed_wave three_wave
printed-written m k top h = (
  (
    none-zero (denominators (part_at 0 x)) (denominators (part_at (second_place x) y) ++ denominators (part_at (third_place x y) z)) (part-zero m 0 x (is_part m k top h first))
        (none-zero (denominators (part_at (second_place x) y)) (denominators (part_at (third_place x y) z)) (part-zero m (second_place x) y (is_part m k top h (next first)))
        (part-zero m (third_place x y) z (is_part m k top h (next (next first))))),
    none-beyond (limited m (part_at 0 x)) (limited m (part_at (second_place x) y) ++ limited m (part_at (third_place x y) z)) (part-within m 0 x (is_part m k top h first))
        (none-beyond (limited m (part_at (second_place x) y)) (limited m (part_at (third_place x y) z)) (part-within m (second_place x) y (is_part m k top h (next first)))
        (part-within m (third_place x y) z (is_part m k top h (next (next first))))),
    record { x = sym at_x; y = sym at_y; z = sym at_z },
  ),
  record { num = h.num; den = h.den; lowest = h.lowest; x = sym (h.are first) ∙ sym at_x; y = sym (h.are (next first)) ∙ sym at_y; z = sym (h.are (next (next first))) ∙ sym at_z; within = h.denominator },
)
  where
    x : Rational
    x = wave_component k first

    y : Rational
    y = wave_component k (next first)

    z : Rational
    z = wave_component k (next (next first))

    at_x : quotient_value (part_at 0 x) ≡ x
    at_x = part-value m 0 x (is_part m k top h first)

    at_y : quotient_value (part_at (second_place x) y) ≡ y
    at_y = part-value m (second_place x) y (is_part m k top h (next first))

    at_z : quotient_value (part_at (third_place x y) z) ≡ z
    at_z = part-value m (third_place x y) z (is_part m k top h (next (next first)))
