-- The terms of a component.
--   terms_text x y z a b     the letters with the coefficients x, y and z, and a over b
use Rattle.std.specs.Prelude.{ℕ, ℤ, List, ◌++◌}
use Rattle.irr_text.specs.NumberText.{signed_fraction, sum_text}
use Rattle.irr_text.specs.TripletText.{letter_text}

unfoldable pub terms_text : (x y z a : ℤ) → ℕ → List ℕ
terms_text x y z a b = sum_text (letter_text x 120 ++ letter_text y 121 ++ letter_text z 122 ++ signed_fraction a b)
