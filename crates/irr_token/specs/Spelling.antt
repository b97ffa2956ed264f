-- How a text spells tokens.
--   IsBehind front at P text   the text is front, blanks, and a rest which begins at its place as P says, where front begins at the place at
--   AreSpelled at ts text      from the place at on, the text is the tokens ts, each with blanks behind it or none
--   NumbersApart ts            no number of the tokens ts stands right behind another
--   EndsInNoBlank text         the last byte of the text, if it has one, is no blank
use Rattle.std.specs.Prelude.{ℕ, ◌≡◌, ◌≢◌, ◌+◌, List, [], ◌∷◌, ◌++◌, length}
use Rattle.std.specs.Str.Parse.{IsNumeral}
use Rattle.irr_token.specs.declared.kind.Kind.TheVariants.{Blank, Mark}
use Rattle.irr_token.specs.Kinds.{kind_of, AreBlanks}
use Rattle.irr_token.specs.Token.{Token}
use Rattle.irr_token.specs.Token.Token.{number, mark}

pub record IsBehind (front : List ℕ) (at : ℕ) (P : ℕ → List ℕ → Type 0) (text : List ℕ) : Type 0 where
  pub blanks : List ℕ
  pub rest : List ℕ
  pub are_blanks : AreBlanks blanks
  pub joins : text ≡ front ++ (blanks ++ rest)
  pub is_rest : P (at + length front + length blanks) rest

abbrev pub AreSpelled : ℕ → List Token → List ℕ → Type 0
AreSpelled at [] text = text ≡ []
AreSpelled at (number n ∷ ts) text = IsNumeral 10 n.digits × (n.place ≡ at) × IsBehind n.digits at (λ p rest. AreSpelled p ts rest) text
AreSpelled at (mark c ∷ ts) text = (kind_of c ≡ Mark) × IsBehind (c ∷ []) at (λ p rest. AreSpelled p ts rest) text

abbrev pub EndsInNoBlank : List ℕ → Type 0
EndsInNoBlank [] = Unit {0}
EndsInNoBlank (c ∷ []) = kind_of c ≢ Blank
EndsInNoBlank (c ∷ d ∷ cs) = EndsInNoBlank (d ∷ cs)

abbrev pub NumbersApart : List Token → Type 0
NumbersApart [] = Unit {0}
NumbersApart (number n ∷ []) = Unit {0}
NumbersApart (number n ∷ number m ∷ ts) = ⊥
NumbersApart (number n ∷ mark c ∷ ts) = NumbersApart ts
NumbersApart (mark c ∷ ts) = NumbersApart ts
