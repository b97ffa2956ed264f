-- Lines of a word and some fractions, as they are written: blanks, the word, the fractions with blanks before each, and blanks.
--   HasNoBlank text         no byte of the text is a blank
--   IsNext at q P text      from the place at on, the text is blanks, at least one, the fraction q with no blank inside, and a rest as P says of its place
--   AreWritten at qs text   from the place at on, the text is the fractions qs, each behind blanks, and blanks or nothing
--   IsSpelling word n qs line   the line is the word and the n fractions qs; blanks may stand before the word
--   IsLine word n line      the line is the word and n fractions
use Rattle.std.specs.Prelude.{ℕ, ◌≡◌, ◌≢◌, ◌<◌, ◌+◌, List, [], ◌∷◌, ◌++◌, length}
use Rattle.irr_token.specs.declared.kind.Kind.TheVariants.{Blank}
use Rattle.irr_token.specs.Kinds.{kind_of, AreBlanks}
use Rattle.irr_token.specs.Spelling.{AreSpelled}
use Rattle.irr_token.specs.Quotient.{WrittenQuotient, quotient_tokens}

abbrev pub HasNoBlank : List ℕ → Type 0
HasNoBlank [] = Unit {0}
HasNoBlank (c ∷ cs) = (kind_of c ≢ Blank) × HasNoBlank cs

pub record IsNext (at : ℕ) (q : WrittenQuotient) (P : ℕ → List ℕ → Type 0) (text : List ℕ) : Type 0 where
  pub blanks : List ℕ
  pub run : List ℕ
  pub rest : List ℕ
  pub are_blanks : AreBlanks blanks
  pub some : 0 < length blanks
  pub joins : text ≡ blanks ++ (run ++ rest)
  pub spelled : AreSpelled (at + length blanks) (quotient_tokens q) run
  pub no_blank : HasNoBlank run
  pub is_rest : P (at + length blanks + length run) rest

abbrev pub AreWritten : ℕ → List WrittenQuotient → List ℕ → Type 0
AreWritten at [] text = AreBlanks text
AreWritten at (q ∷ qs) text = IsNext at q (λ p rest. AreWritten p qs rest) text

pub record IsSpelling (word : List ℕ) (n : ℕ) (qs : List WrittenQuotient) (line : List ℕ) : Type 0 where
  pub count : length qs ≡ n
  pub blanks : List ℕ
  pub behind : List ℕ
  pub are_blanks : AreBlanks blanks
  pub joins : line ≡ blanks ++ (word ++ behind)
  pub are : AreWritten (length blanks + length word) qs behind

pub record IsLine (word : List ℕ) (n : ℕ) (line : List ℕ) : Type 0 where
  pub quotients : List WrittenQuotient
  pub spells : IsSpelling word n quotients line
