-- The printed form of an operation: a coordinate triplet (International Tables A, section 1.5; the order of the terms is this project's own).
--   triplet_text g    three components; in each the letters x, y, z, then the constant, with the coefficients that are not zero
use Rattle.std.specs.Prelude.{ℕ, ℤ, zero, suc, pos, negsuc, List, [], ◌∷◌, ◌++◌}
use Rattle.std.specs.Fmt.{decimal}
use Rattle.irr_algebra.specs.Fin.{Fin}
use Rattle.irr_algebra.specs.Fin.Fin.{first, next}
use Rattle.irr_canonical.specs.Coefficient.{denominator}
use Rattle.irr_space.specs.Operation.{Operation, component}
use Rattle.irr_text.specs.NumberText.{numerator, signed_fraction, sum_text}

-- a letter with its coefficient: the sign, + too, and the number where it is not 1
unfoldable pub letter_text : ℤ → ℕ → List ℕ
letter_text (pos zero) letter = []
letter_text (pos (suc zero)) letter = 43 ∷ letter ∷ []
letter_text (pos (suc (suc n))) letter = 43 ∷ decimal (suc (suc n)) ++ letter ∷ []
letter_text (negsuc zero) letter = 45 ∷ letter ∷ []
letter_text (negsuc (suc n)) letter = 45 ∷ decimal (suc (suc n)) ++ letter ∷ []

-- one row of the rotation, and the component of the vector
unfoldable pub component_text : Operation → Fin 3 → List ℕ
component_text g i = sum_text (letter_text (g.rotation.at i first) 120 ++ letter_text (g.rotation.at i (next first)) 121
    ++ letter_text (g.rotation.at i (next (next first))) 122 ++ signed_fraction (numerator (component g.vector i)) (denominator 1 (component g.vector i)))

unfoldable pub triplet_text : Operation → List ℕ
triplet_text g = component_text g first ++ 44 ∷ component_text g (next first) ++ 44 ∷ component_text g (next (next first))
