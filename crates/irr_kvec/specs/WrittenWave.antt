-- Wave vectors as they are written: wave = quotient , quotient , quotient with blanks between tokens only.
--   WrittenWave         the three components
--   wave_tokens w       the tokens of w
--   IsSpelling w text   the text is the tokens of w, with blanks between and none before and behind
--   IsWave text         the text spells some wave vector
use Rattle.std.specs.Prelude.{ℕ, List, ◌∷◌, ◌++◌}
use Rattle.irr_token.specs.Token.{Token}
use Rattle.irr_token.specs.Token.Token.{mark}
use Rattle.irr_token.specs.Quotient.{WrittenQuotient, quotient_tokens}
use Rattle.irr_token.specs.Spelling.{AreSpelled, EndsInNoBlank}

pub record WrittenWave : Type 0 where
  pub x : WrittenQuotient
  pub y : WrittenQuotient
  pub z : WrittenQuotient

abbrev pub wave_tokens : WrittenWave → List Token
wave_tokens w = quotient_tokens w.x ++ (mark 44 ∷ (quotient_tokens w.y ++ (mark 44 ∷ quotient_tokens w.z)))

pub record IsSpelling (w : WrittenWave) (text : List ℕ) : Type 0 where
  pub spelled : AreSpelled 0 (wave_tokens w) text
  pub no_blank : EndsInNoBlank text

pub record IsWave (text : List ℕ) : Type 0 where
  pub wave : WrittenWave
  pub spells : IsSpelling wave text
