-- The lines of a text. A line ends with a line feed; a carriage return right before the line feed belongs to the end; the last line may lack its end.
--   IsContent before line          line is what stands before a line feed, without a carriage return at its end
--   IsFirstLine text line rest     line is the first line of the text, without its end, and rest is what follows its end
--   AreLines text lines            these are the lines of the text
use Rattle.std.specs.Prelude.{ℕ, ◌≡◌, ◌≢◌, List, [], ◌∷◌, ◌++◌}
use Rattle.std.specs.List.{All}

pub data IsContent (before line : List ℕ) : Type 0 where
  returned : before ≡ line ++ 13 ∷ [] → IsContent before line
  plain : before ≡ line → ((front : List ℕ) → before ≢ front ++ 13 ∷ []) → IsContent before line

pub data IsFirstLine (text line rest : List ℕ) : Type 0 where
  ended : (before : List ℕ) → text ≡ before ++ 10 ∷ rest → All (λ b. b ≢ 10) before → IsContent before line → IsFirstLine text line rest
  unended : text ≢ [] → All (λ b. b ≢ 10) text → line ≡ text → rest ≡ [] → IsFirstLine text line rest

pub data AreLines : List ℕ → List (List ℕ) → Type 0 where
  none : AreLines [] []
  more : {text line rest : List ℕ} {lines : List (List ℕ)} → IsFirstLine text line rest → AreLines rest lines → AreLines text (line ∷ lines)
