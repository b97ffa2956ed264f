-- The text of a wave vector from its three fractions in lowest terms.
--   wave_text-fractions
use Rattle.std.proofs.Common.{◌≡◌, sym, ◌∙◌, ap, ap₂, ℕ, ℤ, pos, List, ◌∷◌, ◌++◌, append_assoc, get_or}
use Rattle.irr_algebra.specs.Fin.{to_nat}
use Rattle.irr_rational.specs.Rational.{ratio}
use Rattle.irr_rational.specs.Ratio.{IsLowest, ratios}
use Rattle.irr_space.specs.Operation.{wave_component}
use Rattle.irr_text.specs.NumberText.{fraction_text, rational_text}
use Rattle.irr_text.specs.WaveText.{wave_text}
use Rattle.irr_text.proofs.RationalForm.{rational_text-lowest}
use Rattle.irr_kvec.specs.WaveMeaning.{wave_of}

-- a fraction of the same value in lowest terms has the text of the rational number
text : (a b : ℤ) (c d : ℕ) → IsLowest a c → ratio a c ≡ ratio b d → fraction_text a c ≡ rational_text (ratio b d)
text a b c d low e = sym (rational_text-lowest a c low) ∙ ap rational_text e

regroup : (x y z : List ℕ) → x ++ (44 ∷ (y ++ (44 ∷ z))) ≡ x ++ 44 ∷ y ++ 44 ∷ z
regroup x y z = sym (append_assoc x (44 ∷ y) (44 ∷ z))

pub wave_text-fractions : (num : List ℤ) (den : ℕ) (a b c : ℤ) (d e f : ℕ) → IsLowest a d → IsLowest b e → IsLowest c f
    → ratio a d ≡ ratio (get_or num 0 (pos 0)) den → ratio b e ≡ ratio (get_or num 1 (pos 0)) den → ratio c f ≡ ratio (get_or num 2 (pos 0)) den
    → fraction_text a d ++ (44 ∷ (fraction_text b e ++ (44 ∷ fraction_text c f))) ≡ wave_text (wave_of num den)
unfolding wave_text wave_of wave_component ratios to_nat
wave_text-fractions num den a b c d e f l m n p q r = regroup (fraction_text a d) (fraction_text b e) (fraction_text c f)
    ∙ ap₂ (λ x y. x ++ 44 ∷ y) (ap₂ (λ x y. x ++ 44 ∷ y) (text a (get_or num 0 (pos 0)) d den l p) (text b (get_or num 1 (pos 0)) e den m q)) (text c (get_or num 2 (pos 0)) f den n r)
