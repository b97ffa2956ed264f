-- What a text's report says.
--   IsReadReport W P lines r     the lines are those of a report in the grammar that passes no limit, and r is what it says; W and P say
--                                which wave vector and which operation a text writes
--   HasSmallNumbers r            the order, the sizes and the number of operations are above 0, all counts below 2 ^ 64, and the numbers
--                                of r within the limits on numbers
use Rattle.std.specs.Prelude.{ℕ, ◌≡◌, ◌<◌, ◌≤◌, ◌+◌, ◌*◌, ◌^◌, List, [], length, replicate, slice_index_or, map, ◌++◌}
use Rattle.std.specs.Str.Parse.{digits_value}
use Rattle.irr_algebra.specs.Fin.{Fin, to_nat}
use Rattle.irr_space.specs.Operation.{Operation, WaveVector}
use Rattle.irr_text.specs.ReportText.{ReportContent}
use Rattle.irr_number.specs.Number.{Number}
use Rattle.irr_canonical.specs.Coefficient.{denominator, size}
use Rattle.irr_numeral.specs.declared.limits.TheConstants.{COEFFICIENT_LIMIT, DENOMINATOR_LIMIT}
use Rattle.irr_numeral.specs.WrittenValue.{IsReadAs}
use Rattle.irr_report.specs.ReportLines.{WrittenReport, report_lines}
use Rattle.irr_report.specs.ReportGrammar.{IsForm}
use Rattle.irr_report.specs.ReportLimits.{PassesAt}

pub record IsReadReport (W : List ℕ → WaveVector → Type 0) (P : List ℕ → Operation → Type 0)
    (lines : List (List ℕ)) (r : ReportContent) : Type 0 where
  pub written : WrittenReport
  pub form : IsForm (λ text. (k : WaveVector) × W text k) (λ text. (g : Operation) × P text g) written
  pub empty : ℕ
  pub are : lines ≡ report_lines written ++ replicate empty []
  pub within : (k : ℕ) → ¬ (PassesAt written k)
  pub wave : W written.wave r.wave
  pub order : r.order ≡ digits_value 10 written.order
  pub places : r.places ≡ length written.triplets
  pub operation : (i : Fin r.places) → P (slice_index_or written.triplets (to_nat i) []) (r.operation i)
  pub count : r.count ≡ length written.representations
  pub size : (m : Fin r.count) → r.size m ≡ digits_value 10 (slice_index_or (map (λ t. t.dimension) written.representations) (to_nat m) [])
  pub character : (m : Fin r.count) (i : Fin r.places)
      → IsReadAs r.order (slice_index_or (slice_index_or (map (λ t. t.characters) written.representations) (to_nat m) [])
      (to_nat i) []) (r.character m i)
  pub matrix : (m : Fin r.count) (i : Fin r.places) (a b : Fin (r.size m))
      → IsReadAs r.order (slice_index_or (slice_index_or (slice_index_or (map (λ t. t.matrices) written.representations) (to_nat m) [])
      (to_nat i) []) (to_nat a * r.size m + to_nat b) []) ((r.matrix m i).at a b)

-- a number within the limits
pub record IsSmallNumber (n : ℕ) (x : Number n) : Type 0 where
  pub denominator : denominator n x ≤ DENOMINATOR_LIMIT
  pub size : size n x ≤ COEFFICIENT_LIMIT

pub record HasSmallNumbers (r : ReportContent) : Type 0 where
  pub order : 0 < r.order
  pub order_limited : r.order < 2 ^ 64
  pub places : 0 < r.places
  pub places_limited : r.places < 2 ^ 64
  pub count_limited : r.count < 2 ^ 64
  pub sizes : (m : Fin r.count) → 0 < r.size m
  pub sizes_limited : (m : Fin r.count) → r.size m < 2 ^ 64
  pub characters : (m : Fin r.count) (i : Fin r.places) → IsSmallNumber r.order (r.character m i)
  pub entries : (m : Fin r.count) (i : Fin r.places) (a b : Fin (r.size m)) → IsSmallNumber r.order ((r.matrix m i).at a b)
