-- The parts of a term that is printed.
--   plus_text a         + before a number that is not below 0, which has no sign of its own
--   printed_power j     *z^j, and nothing where j is 0
use Rattle.std.specs.Prelude.{ℕ, ℤ, pos, negsuc, List, [], ◌∷◌, ◌++◌, nat_eq, if◌then◌else◌, codes}
use Rattle.std.specs.Fmt.{decimal}

abbrev pub plus_text : ℤ → List ℕ
plus_text (pos n) = 43 ∷ []
plus_text (negsuc n) = []

abbrev pub printed_power : ℕ → List ℕ
printed_power j = if nat_eq j 0 then [] else (codes "*z^" ++ decimal j)
