-- How the lines of a report are read from the first to the last.
--   Heading, Body         what stands before the lines of operations, and before those of representations
--   State                 what the lines so far say
--   Step W P s line t     the line may follow s, and leads to t
--   Passes s line         the line passes a limit
--   report_machine W P    reports, line by line
use Rattle.std.specs.Prelude.{ℕ, suc, ◌≡◌, ◌<◌, ◌≤◌, ◌*◌, ◌⊎◌, List, [], ◌∷◌, ◌++◌, length, codes, All}
use Rattle.std.specs.List.{flat_map}
use Rattle.std.specs.Str.Parse.{digits_value}
use Rattle.irr_text.specs.ReportText.{next_word}
use Rattle.irr_cyc.specs.declared.orders.TheConstants.{ORDER_LIMIT}
use Rattle.irr_numeral.specs.WrittenNumber.{IsWhole}
use Rattle.irr_report.specs.Machine.{Machine}
use Rattle.irr_report.specs.ReportLines.{WrittenRepresentation, WrittenReport, triplet_line, dimension_line, character_line, entries_line}
use Rattle.irr_report.specs.ReportGrammar.{IsWholeNumber, IsValueText}
use Rattle.irr_report.specs.ReportLimits.{count_limit, PassesIn}

pub record Heading : Type 0 where
  pub wave : List ℕ
  pub order : List ℕ
  pub places : List ℕ

pub record Body : Type 0 where
  pub heading : Heading
  pub triplets : List (List ℕ)
  pub count : List ℕ

pub data State : Type 0 where
  untitled : State
  titled : State
  waved : List ℕ → State
  ordered : List ℕ → List ℕ → State
  listing : Heading → List (List ℕ) → State
  counted : Body → List WrittenRepresentation → State
  sized : Body → List WrittenRepresentation → List ℕ → State
  filling : Body → List WrittenRepresentation → WrittenRepresentation → State
  closed : WrittenReport → State

-- the lines of the words of the head
abbrev pub wave_line : List ℕ → List ℕ
wave_line text = codes "wave" ++ next_word text

abbrev pub order_line : List ℕ → List ℕ
order_line digits = codes "order" ++ next_word digits

abbrev pub places_line : List ℕ → List ℕ
places_line digits = codes "ops" ++ next_word digits

abbrev pub count_line : List ℕ → List ℕ
count_line digits = codes "reps" ++ next_word digits

-- one more matrix
abbrev pub with_matrix : WrittenRepresentation → List (List ℕ) → WrittenRepresentation
with_matrix t texts = record { dimension = t.dimension; characters = t.characters; matrices = t.matrices ++ texts ∷ [] }

abbrev pub without_matrices : List ℕ → List (List ℕ) → WrittenRepresentation
without_matrices d texts = record { dimension = d; characters = texts; matrices = [] }

abbrev pub report_of : Body → List WrittenRepresentation → WrittenReport
report_of b rs = record {
  wave = b.heading.wave;
  order = b.heading.order;
  places = b.heading.places;
  triplets = b.triplets;
  count = b.count;
  representations = rs;
}

-- a matrix after which others come, and the last one
abbrev pub IsFilled : Body → List WrittenRepresentation → WrittenRepresentation → State → Type 0
IsFilled b rs t u = ((length t.matrices < length b.triplets) × (u ≡ filling b rs t))
    ⊎ ((length b.triplets ≤ length t.matrices) × (u ≡ counted b (rs ++ t ∷ [])))

abbrev pub IsTripletStep : (P : List ℕ → Type 0) → Heading → List (List ℕ) → List ℕ → State → Type 0
IsTripletStep P h ts line t = (length ts < digits_value 10 h.places) × (text : List ℕ) × P text × (line ≡ triplet_line (suc (length ts)) text)
    × (t ≡ listing h (ts ++ text ∷ []))

abbrev pub IsCountStep : Heading → List (List ℕ) → List ℕ → State → Type 0
IsCountStep h ts line t = (digits_value 10 h.places ≤ length ts) × (digits : List ℕ) × IsWholeNumber digits × (line ≡ count_line digits)
    × (t ≡ counted (record { heading = h; triplets = ts; count = digits }) [])

abbrev pub IsDimensionStep : Body → List WrittenRepresentation → List ℕ → State → Type 0
IsDimensionStep b rs line t = (length rs < digits_value 10 b.count) × (digits : List ℕ) × IsWhole digits
    × (line ≡ dimension_line (suc (length rs)) digits) × (t ≡ sized b rs digits)

abbrev pub IsEndStep : Body → List WrittenRepresentation → List ℕ → State → Type 0
IsEndStep b rs line t = (digits_value 10 b.count ≤ length rs) × (line ≡ codes "end") × (t ≡ closed (report_of b rs))

abbrev pub Step : (W P : List ℕ → Type 0) → State → List ℕ → State → Type 0
Step W P untitled line t = (line ≡ codes "report 1") × (t ≡ titled)
Step W P titled line t = (text : List ℕ) × W text × (line ≡ wave_line text) × (t ≡ waved text)
Step W P (waved k) line t = (digits : List ℕ) × IsWhole digits × (line ≡ order_line digits) × (t ≡ ordered k digits)
Step W P (ordered k n) line t = (digits : List ℕ) × IsWhole digits × (line ≡ places_line digits)
    × (t ≡ listing (record { wave = k; order = n; places = digits }) [])
Step W P (listing h ts) line t = IsTripletStep P h ts line t ⊎ IsCountStep h ts line t
Step W P (counted b rs) line t = IsDimensionStep b rs line t ⊎ IsEndStep b rs line t
Step W P (sized b rs d) line t = (texts : List (List ℕ)) × All IsValueText texts × (length texts ≡ length b.triplets)
    × (line ≡ character_line texts) × (t ≡ filling b rs (without_matrices d texts))
Step W P (filling b rs r) line t = (texts : List (List ℕ)) × All IsValueText texts
    × (length texts ≡ digits_value 10 r.dimension * digits_value 10 r.dimension)
    × (line ≡ entries_line (suc (length r.matrices)) texts) × IsFilled b rs (with_matrix r texts) t
Step W P (closed w) line t = (line ≡ []) × (t ≡ closed w)

-- the limit that the line of a state may pass
abbrev pub Passes : State → List ℕ → Type 0
Passes untitled line = ⊥
Passes titled line = ⊥
Passes (waved k) line = (digits : List ℕ) × (line ≡ order_line digits) × (ORDER_LIMIT < digits_value 10 digits)
Passes (ordered k n) line = (digits : List ℕ) × (line ≡ places_line digits) × (count_limit < digits_value 10 digits)
Passes (listing h ts) line = (digits_value 10 h.places ≤ length ts) × (digits : List ℕ) × (line ≡ count_line digits) × (count_limit < digits_value 10 digits)
Passes (counted b rs) line = (length rs < digits_value 10 b.count) × (digits : List ℕ) × (line ≡ dimension_line (suc (length rs)) digits)
    × (count_limit < digits_value 10 digits)
Passes (sized b rs d) line = (texts : List (List ℕ)) × All IsValueText texts × (line ≡ character_line texts) × PassesIn (digits_value 10 b.heading.order) [] texts
Passes (filling b rs r) line = (texts : List (List ℕ)) × All IsValueText texts × (line ≡ entries_line (suc (length r.matrices)) texts)
    × PassesIn (digits_value 10 b.heading.order) (r.characters ++ flat_map (λ m. m) r.matrices) texts
Passes (closed w) line = ⊥

abbrev pub IsClosed : State → Type 0
IsClosed (closed w) = Unit {0}
IsClosed untitled = ⊥
IsClosed titled = ⊥
IsClosed (waved k) = ⊥
IsClosed (ordered k n) = ⊥
IsClosed (listing h ts) = ⊥
IsClosed (counted b rs) = ⊥
IsClosed (sized b rs d) = ⊥
IsClosed (filling b rs r) = ⊥

abbrev pub report_machine : (W P : List ℕ → Type 0) → Machine (List ℕ)
report_machine W P = record { State = State; Step = Step W P; Passes = Passes; IsEnd = IsClosed }
