-- The words of a command: the command word, and words behind it that each write a wave vector, a point, a form of tensors, or
-- a number.
--   texts words            the bytes of words as the program holds them
--   form_word f            the word of a form of tensors
--   Argument               a wave vector, a point, a form of tensors, or a number
--   IsWordOf a word        the word writes a: a wave vector or a point with no fault, a form by its word, or in digits a number
--                          of at most 4,294,967,295
--   AreWordsOf args words    the words write these arguments, one by one
--   verb_of c, arguments_of c     what c does, and at which arguments
--   verb_word v            its word
--   AreWords words c       the words are those of the command c
--   IsCommand words        the words are those of some command
--   AreLimited c           the wave vectors of c, and its point, are within the limits of all calls on them
--   AreOneCommand c d      c and d do the same at the same arguments
--   IsFaulty G words n     the words are none of the grammar G, and the n-th, counted from 1, is the first that G has not there, or that is missing
use Rattle.std.specs.Global.{Global}
use Rattle.std.specs.Prelude.{ℕ, ◌≡◌, ◌<◌, ◌^◌, suc, List, [], ◌∷◌, Vec, map, codes, None, Some, IfSome}
use Rattle.std.specs.Str.Parse.{IsNumeral, digits_value}
use Rattle.irr_grammar.specs.ShapePlace.{IsShapePlace}
use Rattle.irr_space.specs.Operation.{Vector, WaveVector}
use Rattle.irr_rat.specs.VectorMeaning.{vector}
use Rattle.irr_kvec.specs.Centrings.{IsWithinLimits}
use Rattle.irr_kvec.specs.WaveMeaning.{wave_vector}
use Rattle.irr_kvec.specs.WaveFault.{IsTextOf}
use Rattle.irr_input.specs.PointText.{IsPointOf, IsSmallPoint}
use Rattle.irr_input.specs.declared.form.Form.{Form}
use Rattle.irr_input.specs.declared.form.Form.TheVariants.{Rank1, Rank2, Rank3, Rank4, Sym2, Anti2}
use Rattle.irr_input.specs.declared.words.Command.{Command}
use Rattle.irr_input.specs.declared.words.Command.TheVariants as commands
use Rattle.irr_input.specs.declared.verb.Verb.{Verb}
use Rattle.irr_input.specs.declared.verb.Verb.TheVariants.{Star, Small, Full, Real, Product, Subduce, Compat, Square, Tensor, Site, Check, Gen}

abbrev pub texts : List (Vec ℕ Global) → List (List ℕ)
texts words = map (λ (word : Vec ℕ Global). word.items) words

abbrev pub form_word : Form → List ℕ
form_word Rank1 = codes "1"
form_word Rank2 = codes "2"
form_word Rank3 = codes "3"
form_word Rank4 = codes "4"
form_word Sym2 = codes "sym2"
form_word Anti2 = codes "anti2"

pub data Argument : Type 0 where
  wave : WaveVector → Argument
  point : Vector → Argument
  form : Form → Argument
  number : ℕ → Argument

abbrev pub IsWordOf : Argument → List ℕ → Type 0
IsWordOf (wave k) word = IsTextOf word k
IsWordOf (point x) word = IsPointOf word x
IsWordOf (form f) word = word ≡ form_word f
IsWordOf (number n) word = IsNumeral 10 word × (digits_value 10 word ≡ n) × (n < 2 ^ 32)

abbrev pub AreWordsOf : List Argument → List (List ℕ) → Type 0
AreWordsOf [] [] = Unit {0}
AreWordsOf [] (w ∷ ws) = ⊥
AreWordsOf (a ∷ rest) [] = ⊥
AreWordsOf (a ∷ rest) (w ∷ ws) = IsWordOf a w × AreWordsOf rest ws

abbrev pub verb_of : Command → Verb
verb_of (commands.Star k) = Star
verb_of (commands.Small k) = Small
verb_of (commands.Full k) = Full
verb_of (commands.Real k) = Real
verb_of (commands.Product k l) = Product
verb_of (commands.Subduce k) = Subduce
verb_of (commands.Compat k l m) = Compat
verb_of (commands.Square k) = Square
verb_of (commands.Tensor f) = Tensor
verb_of (commands.Site x k) = Site
verb_of commands.Check = Check
verb_of (commands.Gen n) = Gen

abbrev pub arguments_of : Command → List Argument
arguments_of (commands.Star k) = wave (wave_vector k) ∷ []
arguments_of (commands.Small k) = wave (wave_vector k) ∷ []
arguments_of (commands.Full k) = wave (wave_vector k) ∷ []
arguments_of (commands.Real k) = wave (wave_vector k) ∷ []
arguments_of (commands.Product k l) = wave (wave_vector k) ∷ wave (wave_vector l) ∷ []
arguments_of (commands.Subduce k) = wave (wave_vector k) ∷ []
arguments_of (commands.Compat k l None) = wave (wave_vector k) ∷ wave (wave_vector l) ∷ []
arguments_of (commands.Compat k l (Some m)) = wave (wave_vector k) ∷ wave (wave_vector l) ∷ wave (wave_vector m) ∷ []
arguments_of (commands.Square k) = wave (wave_vector k) ∷ []
arguments_of (commands.Tensor f) = form f ∷ []
arguments_of (commands.Site x k) = point (vector x) ∷ wave (wave_vector k) ∷ []
arguments_of commands.Check = []
arguments_of (commands.Gen n) = number n ∷ []

abbrev pub verb_word : Verb → List ℕ
verb_word Star = codes "star"
verb_word Small = codes "small"
verb_word Full = codes "full"
verb_word Real = codes "real"
verb_word Product = codes "product"
verb_word Subduce = codes "subduce"
verb_word Compat = codes "compat"
verb_word Square = codes "square"
verb_word Tensor = codes "tensor"
verb_word Site = codes "site"
verb_word Check = codes "check"
verb_word Gen = codes "gen"

pub record AreWords (words : List (List ℕ)) (c : Command) : Type 0 where
  pub behind : List (List ℕ)
  pub spelled : words ≡ verb_word (verb_of c) ∷ behind
  pub are_arguments : AreWordsOf (arguments_of c) behind

abbrev pub AreLimited : Command → Type 0
AreLimited (commands.Star k) = IsWithinLimits k
AreLimited (commands.Small k) = IsWithinLimits k
AreLimited (commands.Full k) = IsWithinLimits k
AreLimited (commands.Real k) = IsWithinLimits k
AreLimited (commands.Product k l) = IsWithinLimits k × IsWithinLimits l
AreLimited (commands.Subduce k) = IsWithinLimits k
AreLimited (commands.Compat k l m) = IsWithinLimits k × IsWithinLimits l × IfSome m IsWithinLimits
AreLimited (commands.Square k) = IsWithinLimits k
AreLimited (commands.Tensor f) = Unit {0}
AreLimited (commands.Site x k) = IsSmallPoint x × IsWithinLimits k
AreLimited commands.Check = Unit {0}
AreLimited (commands.Gen n) = Unit {0}

abbrev pub IsCommand : List (List ℕ) → Type 0
IsCommand words = (c : Command) × AreWords words c

pub record AreOneCommand (c d : Command) : Type 0 where
  pub verb : verb_of c ≡ verb_of d
  pub arguments : arguments_of c ≡ arguments_of d

pub record IsFaulty (G : List (List ℕ) → Type 0) (words : List (List ℕ)) (n : ℕ) : Type 0 where
  pub no_command : ¬ (G words)
  pub right : ℕ
  pub is_place : IsShapePlace G words right
  pub is_next : n ≡ suc right
