-- Where a report passes a limit, and the faults of a report. Lines count from 0 here, and from 1 in the errors.
--   PassesTogether texts          the numbers that the texts write, over their least common denominator as they are written, pass a limit
--   PassesIn n earlier texts      a text of a line passes a limit at the order n, or the line's texts and the earlier ones do together
--   PassesAt w k                  line k of the report w passes a limit
--   PassesLimit W P lines k       the lines begin a report up to line k, which passes a limit
--   IsLineFault W P lines n       line n is the first that is outside the grammar; a missing line counts as the one after the last
--   IsRangeFault W P lines n      line n is the first that passes a limit
use Rattle.std.specs.Prelude.{ℕ, suc, ◌≡◌, ◌<◌, ◌+◌, ◌*◌, ◌⊎◌, List, [], ◌++◌, length, map, take, slice_index_or, All}
use Rattle.std.specs.List.{flat_map}
use Rattle.std.specs.Str.Parse.{digits_value}
use Rattle.irr_grammar.specs.ShapePlace.{IsShapePlace}
use Rattle.irr_cyc.specs.declared.orders.TheConstants.{ORDER_LIMIT}
use Rattle.irr_numeral.specs.declared.limits.TheConstants.{COEFFICIENT_LIMIT, DENOMINATOR_LIMIT}
use Rattle.irr_numeral.specs.WrittenNumber.{WrittenTerm, AreTerms, spelled}
use Rattle.irr_numeral.specs.WrittenValue.{IsCommonDenominator, written_size}
use Rattle.irr_numeral.specs.NumberFault.{IsRangeFault as IsNumberBeyond, IsTotalFault}
use Rattle.irr_report.specs.ReportLines.{WrittenReport, WrittenRepresentation, report_lines}
use Rattle.irr_report.specs.ReportGrammar.{IsForm, IsReport}

-- most operations, representations and rows
abbrev pub count_limit : ℕ
count_limit = 48

pub record PassesTogether (texts : List (List ℕ)) : Type 0 where
  pub terms : List (List WrittenTerm)
  pub are_terms : All AreTerms terms
  pub spells : map spelled terms ≡ texts
  pub denominator : ℕ
  pub common : IsCommonDenominator (flat_map (λ ts. ts) terms) denominator
  pub passes : (DENOMINATOR_LIMIT < denominator)
      ⊎ ((i : ℕ) × (i < length terms) × (COEFFICIENT_LIMIT < written_size denominator (slice_index_or terms i [])))

-- the text's number passes a limit by itself
abbrev pub IsBeyond : ℕ → List ℕ → Type 0
IsBeyond n text = (p : ℕ) × (IsNumberBeyond n text p ⊎ IsTotalFault n text p)

abbrev pub PassesIn : ℕ → List (List ℕ) → List (List ℕ) → Type 0
PassesIn n earlier texts = ((i : ℕ) × (i < length texts) × IsBeyond n (slice_index_or texts i [])) ⊎ PassesTogether (earlier ++ texts)

-- the line on which representation j begins: each has two lines and one for each operation
abbrev pub representation_place : WrittenReport → ℕ → ℕ
representation_place w j = 5 + length w.triplets + j * (length w.triplets + 2)

pub data PassesAt (w : WrittenReport) : ℕ → Type 0 where
  order : ORDER_LIMIT < digits_value 10 w.order → PassesAt w 2
  places : count_limit < length w.triplets → PassesAt w 3
  count : count_limit < length w.representations → PassesAt w (4 + length w.triplets)
  dimension : (j : ℕ) (t : WrittenRepresentation) → j < length w.representations → t ≡ slice_index_or w.representations j t
      → count_limit < digits_value 10 t.dimension → PassesAt w (representation_place w j)
  characters : (j : ℕ) (t : WrittenRepresentation) → j < length w.representations → t ≡ slice_index_or w.representations j t
      → PassesIn (digits_value 10 w.order) [] t.characters → PassesAt w (representation_place w j + 1)
  entries : (j i : ℕ) (t : WrittenRepresentation) → j < length w.representations → t ≡ slice_index_or w.representations j t → i < length t.matrices
      → PassesIn (digits_value 10 w.order) (t.characters ++ flat_map (λ m. m) (take i t.matrices)) (slice_index_or t.matrices i [])
      → PassesAt w (representation_place w j + 2 + i)

pub record PassesLimit (W P : List ℕ → Type 0) (lines : List (List ℕ)) (k : ℕ) : Type 0 where
  pub written : WrittenReport
  pub form : IsForm W P written
  pub within : k < length (report_lines written)
  pub begins : take (suc k) lines ≡ take (suc k) (report_lines written)
  pub passes : PassesAt written k

pub record IsLineFault (W P : List ℕ → Type 0) (lines : List (List ℕ)) (n : ℕ) : Type 0 where
  pub outside : ¬ (IsReport W P lines)
  pub place : ℕ
  pub number : n ≡ suc place
  pub first : IsShapePlace (IsReport W P) lines place
  pub none_passes : (k : ℕ) → k < place → ¬ (PassesLimit W P lines k)

pub record IsRangeFault (W P : List ℕ → Type 0) (lines : List (List ℕ)) (n : ℕ) : Type 0 where
  pub place : ℕ
  pub number : n ≡ suc place
  pub passes : PassesLimit W P lines place
  pub first : (k : ℕ) → k < place → ¬ (PassesLimit W P lines k)
