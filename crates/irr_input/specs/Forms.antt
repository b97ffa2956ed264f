-- The words behind a command word, by their sorts.
--   Sort                  a wave vector, a point, a form of tensors, or a number
--   IsOfSort s word       the word writes some value of the sort s
--   Form                  which words follow: none more; one more of a sort and then others; or the same, where words may end before it too
--   IsOfForm f words      the words are of the form f
--   form_of v             the form of the words behind the word of v
--   waves_of k l m        two wave vectors and perhaps a third, as arguments
--   BeginsWith s words    the first word, if there is one, is of the sort s
--   IsFirst a words rest  the first word writes a, and the others are the rest
--   IsRefused f words n   the words are not of the form f, and n of them are right before the first that is not, or that is missing
--   IsRefusedFrom m f words n    the same where the first word is the m-th: the n-th is the faulty one
use Rattle.std.specs.Prelude.{ℕ, ◌≡◌, ◌⊎◌, ◌+◌, suc, List, [], ◌∷◌, Option, None, Some}
use Rattle.irr_rat.specs.declared.vec3.Vec3.{Vec3}
use Rattle.irr_rat.specs.VectorMeaning.{vector}
use Rattle.irr_kvec.specs.declared.wave.Wave.{Wave}
use Rattle.irr_kvec.specs.WaveMeaning.{wave_vector}
use Rattle.irr_input.specs.declared.form.Form.{Form as TensorForm}
use Rattle.irr_input.specs.Command.{Argument, IsWordOf}
use Rattle.irr_input.specs.Command.Argument.{wave, point, form, number}
use Rattle.irr_input.specs.declared.verb.Verb.{Verb}
use Rattle.irr_input.specs.declared.verb.Verb.TheVariants.{Star, Small, Full, Real, Product, Subduce, Compat, Square, Tensor, Site, Check, Gen}

pub data Sort : Type 0 where
  of_waves : Sort
  of_points : Sort
  of_forms : Sort
  of_numbers : Sort

abbrev pub IsOfSort : Sort → List ℕ → Type 0
IsOfSort of_waves word = (k : Wave) × IsWordOf (wave (wave_vector k)) word
IsOfSort of_points word = (x : Vec3) × IsWordOf (point (vector x)) word
IsOfSort of_forms word = (f : TensorForm) × IsWordOf (form f) word
IsOfSort of_numbers word = (n : ℕ) × IsWordOf (number n) word

pub data Form : Type 0 where
  no_more : Form
  one_more : Sort → Form → Form
  perhaps : Sort → Form → Form

abbrev pub IsOfForm : Form → List (List ℕ) → Type 0
IsOfForm no_more [] = Unit {0}
IsOfForm no_more (w ∷ ws) = ⊥
IsOfForm (one_more s f) [] = ⊥
IsOfForm (one_more s f) (w ∷ ws) = IsOfSort s w × IsOfForm f ws
IsOfForm (perhaps s f) [] = Unit {0}
IsOfForm (perhaps s f) (w ∷ ws) = IsOfSort s w × IsOfForm f ws

abbrev pub one_wave : Form
one_wave = one_more of_waves no_more

abbrev pub two_waves : Form
two_waves = one_more of_waves one_wave

abbrev pub two_or_three_waves : Form
two_or_three_waves = one_more of_waves (one_more of_waves (perhaps of_waves no_more))

abbrev pub point_and_wave : Form
point_and_wave = one_more of_points one_wave

abbrev pub one_form : Form
one_form = one_more of_forms no_more

abbrev pub one_number : Form
one_number = one_more of_numbers no_more

abbrev pub form_of : Verb → Form
form_of Star = one_wave
form_of Small = one_wave
form_of Full = one_wave
form_of Real = one_wave
form_of Product = two_waves
form_of Subduce = one_wave
form_of Compat = two_or_three_waves
form_of Square = one_wave
form_of Tensor = one_form
form_of Site = point_and_wave
form_of Check = no_more
form_of Gen = one_number

-- the arguments of two wave vectors and perhaps a third
abbrev pub waves_of : Wave → Wave → Option Wave → List Argument
waves_of k l None = wave (wave_vector k) ∷ wave (wave_vector l) ∷ []
waves_of k l (Some m) = wave (wave_vector k) ∷ wave (wave_vector l) ∷ wave (wave_vector m) ∷ []

abbrev pub BeginsWith : Sort → List (List ℕ) → Type 0
BeginsWith s [] = ⊥
BeginsWith s (w ∷ ws) = IsOfSort s w

abbrev pub IsFirst : Argument → List (List ℕ) → List (List ℕ) → Type 0
IsFirst a [] rest = ⊥
IsFirst a (w ∷ ws) rest = IsWordOf a w × (ws ≡ rest)

abbrev pub IsRefused : Form → List (List ℕ) → ℕ → Type 0
IsRefused no_more [] n = ⊥
IsRefused no_more (w ∷ ws) n = n ≡ 0
IsRefused (one_more s f) [] n = n ≡ 0
IsRefused (one_more s f) (w ∷ ws) n = (¬ (IsOfSort s w) × (n ≡ 0)) ⊎ (IsOfSort s w × (m : ℕ) × IsRefused f ws m × (n ≡ suc m))
IsRefused (perhaps s f) [] n = ⊥
IsRefused (perhaps s f) (w ∷ ws) n = (¬ (IsOfSort s w) × (n ≡ 0)) ⊎ (IsOfSort s w × (m : ℕ) × IsRefused f ws m × (n ≡ suc m))

abbrev pub IsRefusedFrom : ℕ → Form → List (List ℕ) → ℕ → Type 0
IsRefusedFrom m f words n = (right : ℕ) × IsRefused f words right × (n ≡ right + m)
