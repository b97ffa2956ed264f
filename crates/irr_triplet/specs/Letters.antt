-- The letters of coordinates.
--   letter_byte l     the byte of the letter l
use Rattle.std.specs.Prelude.{ℕ}
use Rattle.irr_triplet.specs.declared.term.Letter.{Letter}
use Rattle.irr_triplet.specs.declared.term.Letter.TheVariants.{X, Y, Z}

abbrev pub letter_byte : Letter → ℕ
letter_byte X = 120
letter_byte Y = 121
letter_byte Z = 122
