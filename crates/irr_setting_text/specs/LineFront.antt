-- Where a front of a line of a word and fractions ends, and what may follow.
--   IsWord word           the word has a first byte, which is no blank
--   sort_of c             the sort of the byte c
--   State                 where the front ends, what is left of the word, and how many fractions are still to come
--   after_sort s x w k    the state after a byte of the sort x, outside the word; none where the front then begins no line
--   after_letter is s w rest x k   that where a letter of the word is due: whether the byte is this letter, and what is left behind it
--   next_state s w k c    that after the byte c
--   ends_line s           whether the front is a whole line
use Rattle.std.specs.Prelude.{ℕ, zero, suc, ◌≢◌, Bool, true, false, List, [], ◌∷◌, Option, None, Some, if◌then◌else◌, nat_eq, ◌||◌, ◌&&◌}
use Rattle.irr_token.specs.declared.kind.Kind.{Kind}
use Rattle.irr_token.specs.declared.kind.Kind.TheVariants.{Blank, Digit, Mark}
use Rattle.irr_token.specs.Kinds.{kind_of}
use Rattle.irr_setting_text.specs.declared.shape.Sort.{Sort}
use Rattle.irr_setting_text.specs.declared.shape.Sort.TheVariants.{Space, Figure, Sign, Slash, Other}
use Rattle.irr_setting_text.specs.declared.shape.Stage.{Stage}
use Rattle.irr_setting_text.specs.declared.shape.Stage.TheVariants.{Start, Word, Gap, Signed, Numerator, Over, Denominator}
use Rattle.irr_setting_text.specs.declared.shape.Front.{Front}

abbrev pub IsWord : List ℕ → Type 0
IsWord [] = ⊥
IsWord (c ∷ cs) = kind_of c ≢ Blank

abbrev pub mark_sort : ℕ → Sort
mark_sort c = if nat_eq c 43 || nat_eq c 45 then Sign else (if nat_eq c 47 then Slash else Other)

abbrev pub kind_sort : Kind → ℕ → Sort
kind_sort Blank c = Space
kind_sort Digit c = Figure
kind_sort Mark c = mark_sort c

abbrev pub sort_of : ℕ → Sort
sort_of c = kind_sort (kind_of c) c

pub record State : Type 0 where
  pub stage : Stage
  pub word : List ℕ
  pub left : ℕ

abbrev pub state_of : Front → State
state_of f = record { stage = f.stage; word = f.word.now; left = f.left }

abbrev pub at_stage : Stage → List ℕ → ℕ → Option State
at_stage s w k = Some (record { stage = s; word = w; left = k })

-- a fraction begins, if one is still to come
abbrev pub begun : Stage → List ℕ → ℕ → Option State
begun s w zero = None
begun s w (suc k) = at_stage s w k

abbrev pub after_sort : Stage → Sort → List ℕ → ℕ → Option State
after_sort Gap Sign w k = begun Signed w k
after_sort Gap Figure w k = begun Numerator w k
after_sort Signed Figure w k = at_stage Numerator w k
after_sort Numerator Figure w k = at_stage Numerator w k
after_sort Numerator Slash w k = at_stage Over w k
after_sort Over Figure w k = at_stage Denominator w k
after_sort Denominator Figure w k = at_stage Denominator w k
after_sort Start Space w k = at_stage Gap w k
after_sort Word Space w k = at_stage Gap w k
after_sort Gap Space w k = at_stage Gap w k
after_sort Numerator Space w k = at_stage Gap w k
after_sort Denominator Space w k = at_stage Gap w k
after_sort Start x w k = None
after_sort Word x w k = None
after_sort Gap x w k = None
after_sort Signed x w k = None
after_sort Numerator x w k = None
after_sort Over x w k = None
after_sort Denominator x w k = None

abbrev pub after_letter : Bool → Stage → List ℕ → List ℕ → Sort → ℕ → Option State
after_letter true s w rest x k = at_stage Word rest k
after_letter false Start w rest Space k = at_stage Start w k
after_letter false Start w rest x k = None
after_letter false s w rest x k = None

abbrev pub next_state : Stage → List ℕ → ℕ → ℕ → Option State
next_state Start [] k c = after_sort Start (sort_of c) [] k
next_state Start (x ∷ xs) k c = after_letter (nat_eq x c) Start (x ∷ xs) xs (sort_of c) k
next_state Word [] k c = after_sort Word (sort_of c) [] k
next_state Word (x ∷ xs) k c = after_letter (nat_eq x c) Word (x ∷ xs) xs (sort_of c) k
next_state s w k c = after_sort s (sort_of c) w k

abbrev pub is_whole : Stage → List ℕ → Bool
is_whole Start [] = true
is_whole Start (x ∷ xs) = false
is_whole Word [] = true
is_whole Word (x ∷ xs) = false
is_whole Gap w = true
is_whole Numerator w = true
is_whole Denominator w = true
is_whole Signed w = false
is_whole Over w = false

abbrev pub ends_line : State → Bool
ends_line s = nat_eq s.left 0 && is_whole s.stage s.word
