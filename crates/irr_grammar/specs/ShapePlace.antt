-- Where a text leaves a grammar. A grammar is given by which texts it has, G : List A → Type 0.
--   BeginsIn G xs          some text of G begins with xs
--   IsShapePlace G xs n    n is the length of the longest front of xs that begins a text of G
use Rattle.std.specs.Prelude.{ℕ, ◌≤◌, List, ◌++◌, length, take}

abbrev pub BeginsIn : {A : Type 0} (G : List A → Type 0) → List A → Type 0
BeginsIn {A} G xs = (rest : List A) × G (xs ++ rest)

pub record IsShapePlace {A : Type 0} (G : List A → Type 0) (xs : List A) (n : ℕ) : Type 0 where
  pub within : n ≤ length xs
  pub begins : BeginsIn G (take n xs)
  pub longest : (m : ℕ) → m ≤ length xs → BeginsIn G (take m xs) → m ≤ n
