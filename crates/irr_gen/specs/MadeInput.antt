-- Made inputs: the generators of a group, and products of earlier lines that are drawn.
--   next_number s, drawn c s       the number after s, and what is drawn below c from s on
--   item lines i                   the line with the number i, from 0, and the identity where there is none
--   drawn_line s lines             the line that a draw from s on names
--   IsDrawnProduct s lines f       f is the product of two lines that two draws from s on name, in the unit cell
--   AreMadeLinesTo gs s k lines t  the lines are gs and k such products, drawn from s on, and t is the number then
--   AreMadeLines gs s k lines      the same, for whatever number is then
--   lines_text lines               the printed triplets, one a line
--   made_wave n                    the wave vector of the number n
--   IsMadeInput n text w           its text and its wave vector
use Rattle.std.specs.Prelude.{ℕ, zero, suc, List, [], ◌∷◌, ◌++◌, ◌≡◌, ◌+◌, ◌*◌, ◌/◌, ◌%◌, ◌^◌, length, get_or}
use Rattle.std.specs.List.{flat_map}
use Rattle.irr_space.specs.Operation.{Operation, WaveVector, identity}
use Rattle.irr_text.specs.TripletText.{triplet_text}
use Rattle.irr_text.specs.ReportText.{line}
use Rattle.irr_gen.specs.Symmetry.{IsReducedProduct}
use Rattle.irr_gen.specs.Groups.{group_of, generators, wave_at}

abbrev pub next_number : ℕ → ℕ
next_number s = (1103515245 * s + 12345) % 2 ^ 31

abbrev pub drawn : ℕ → ℕ → ℕ
drawn c s = (next_number s / 65536) % c

abbrev pub item : List Operation → ℕ → Operation
item lines i = get_or lines i identity

abbrev pub drawn_line : ℕ → List Operation → Operation
drawn_line s lines = item lines (drawn (length lines) s)

abbrev pub IsDrawnProduct : ℕ → List Operation → Operation → Type 0
IsDrawnProduct s lines f = IsReducedProduct (drawn_line s lines) (drawn_line (next_number s) lines) f

unfoldable pub AreMadeLinesTo : List Operation → ℕ → ℕ → List Operation → ℕ → Type 0
AreMadeLinesTo gs s zero lines t = (lines ≡ gs) × (t ≡ s)
AreMadeLinesTo gs s (suc k) lines t = (earlier : List Operation) × (r : ℕ) × (f : Operation)
    × AreMadeLinesTo gs s k earlier r × IsDrawnProduct r earlier f × (lines ≡ earlier ++ f ∷ []) × (t ≡ next_number (next_number r))

abbrev pub AreMadeLines : List Operation → ℕ → ℕ → List Operation → Type 0
AreMadeLines gs s k lines = (t : ℕ) × AreMadeLinesTo gs s k lines t

abbrev pub lines_text : List Operation → List ℕ
lines_text lines = flat_map (λ g. line (triplet_text g)) lines

abbrev pub made_wave : ℕ → WaveVector
made_wave n = wave_at (group_of (n % 4)) ((n / 4) % 3)

pub record IsMadeInput (n : ℕ) (text : List ℕ) (w : WaveVector) : Type 0 where
  pub lines : List Operation
  pub are_lines : AreMadeLines (generators (group_of (n % 4))) (n % 2 ^ 31) 2000 lines
  pub is_text : text ≡ lines_text lines
  pub is_wave : w ≡ made_wave n
