-- The values of a report's line, and what those of a representation come to.
--   IsBehindValue text              the text is empty, or begins with a blank
--   AreValueTexts count text texts  the text is those of count values, with a blank before each
--   AreReadAs order value n texts xs    the numbers xs are those of the order n that the texts write
--   IsScaleOf scale texts           the scale has the least common denominator of the numbers of the texts, as they are written, and the
--                                   greatest size over it
--   IsJoined d s e t scale          the scale of what has the denominators d and e and the greatest sizes s and t over these
--   CannotJoin d s e t              the least common multiple of d and e passes the limit, or one of the sizes over it does
--   AreReadSoFar .. texts xs scale  the numbers xs are those of the texts, and the scale that of the earlier texts and of these; there is no
--                                   scale where a text passes a limit
--   AreRead .. text xs scale        the numbers xs are those of a line, which passes no limit, and the scale is that with them
--   IsValueFault text e             the error e comes with the text of a value; limits aside
--   AreValuesFault .. text e        the error e comes with the text of count values, behind the earlier ones
--   IsFaultOf n count scale text e  so behind all texts that have the scale
use Rattle.std.specs.Prelude.{ℕ, ◌≡◌, ◌<◌, ◌≤◌, ◌*◌, ◌/◌, ◌⊎◌, List, [], ◌∷◌, ◌++◌, Option, None, Some, length, map, slice_index_or, All}
use Rattle.std.specs.List.{flat_map}
use Rattle.irr_text.specs.ReportText.{next_word}
use Rattle.irr_number.specs.Number.{Number}
use Rattle.irr_rat.specs.Lcm.{IsLcm}
use Rattle.irr_numeral.specs.declared.limits.TheConstants.{COEFFICIENT_LIMIT, DENOMINATOR_LIMIT}
use Rattle.irr_numeral.specs.WrittenNumber.{WrittenTerm, AreTerms, spelled}
use Rattle.irr_numeral.specs.WrittenValue.{IsCommonDenominator, IsReadAs, written_size}
use Rattle.irr_report.specs.ReportGrammar.{IsValueText}
use Rattle.irr_report.specs.ReportLimits.{PassesIn}
use Rattle.irr_report.specs.declared.scale.Scale.{Scale}
use Rattle.irr_report.specs.declared.values.ValuesError.{ValuesError}
use Rattle.irr_report.specs.declared.values.ValuesError.TheVariants.{Line, Range, Memory}

abbrev pub IsBehindValue : List ℕ → Type 0
IsBehindValue [] = Unit {0}
IsBehindValue (c ∷ cs) = c ≡ 32

pub record AreValueTexts (count : ℕ) (text : List ℕ) (texts : List (List ℕ)) : Type 0 where
  pub values : All IsValueText texts
  pub count_is : length texts ≡ count
  pub spells : text ≡ flat_map next_word texts

pub record AreReadAs {S : Type 0} (order : S → ℕ) (value : (n : ℕ) → S → Number n) (n : ℕ) (texts : List (List ℕ)) (xs : List S) : Type 0 where
  pub count : length xs ≡ length texts
  pub orders : All (λ x. order x ≡ n) xs
  pub numbers : (i : ℕ) (x : S) → i < length xs → IsReadAs n (slice_index_or texts i []) (value n (slice_index_or xs i x))

pub record IsScaleOf (scale : Scale) (texts : List (List ℕ)) : Type 0 where
  pub terms : List (List WrittenTerm)
  pub are_terms : All AreTerms terms
  pub spells : map spelled terms ≡ texts
  pub common : IsCommonDenominator (flat_map (λ ts. ts) terms) scale.denominator
  pub sizes : All (λ ts. written_size scale.denominator ts ≤ scale.size) terms
  pub reached : (scale.size ≡ 0) ⊎ ((i : ℕ) × (i < length terms) × (written_size scale.denominator (slice_index_or terms i []) ≡ scale.size))

pub record IsJoined (d s e t : ℕ) (scale : Scale) : Type 0 where
  pub common : IsLcm d e scale.denominator
  pub earlier : s * (scale.denominator / d) ≤ scale.size
  pub later : t * (scale.denominator / e) ≤ scale.size
  pub reached : (scale.size ≡ s * (scale.denominator / d)) ⊎ (scale.size ≡ t * (scale.denominator / e))

abbrev pub CannotJoin : (d s e t : ℕ) → Type 0
CannotJoin d s e t = (m : ℕ) × IsLcm d e m
    × ((DENOMINATOR_LIMIT < m) ⊎ ((COEFFICIENT_LIMIT < s * (m / d)) ⊎ (COEFFICIENT_LIMIT < t * (m / e))))

abbrev pub AreReadSoFar : {S : Type 0} (order : S → ℕ) (value : (n : ℕ) → S → Number n) (n : ℕ) (earlier texts : List (List ℕ)) → List S → Option Scale → Type 0
AreReadSoFar order value n earlier texts xs None = PassesIn n earlier texts
AreReadSoFar order value n earlier texts xs (Some scale) = AreReadAs order value n texts xs × IsScaleOf scale (earlier ++ texts)

pub record AreRead {S : Type 0} (order : S → ℕ) (value : (n : ℕ) → S → Number n) (n : ℕ) (earlier : List (List ℕ)) (count : ℕ) (text : List ℕ)
    (xs : List S) (scale : Scale) : Type 0 where
  pub texts : List (List ℕ)
  pub are : AreValueTexts count text texts
  pub within : ¬ (PassesIn n earlier texts)
  pub read : AreReadAs order value n texts xs
  pub scale_is : IsScaleOf scale (earlier ++ texts)

abbrev pub IsValueFault : List ℕ → ValuesError → Type 0
IsValueFault text Line = ¬ (IsValueText text)
IsValueFault text Range = ⊥
IsValueFault text Memory = Unit {0}

abbrev pub AreValuesFault : ℕ → List (List ℕ) → ℕ → List ℕ → ValuesError → Type 0
AreValuesFault n earlier count text Line = (texts : List (List ℕ)) → ¬ (AreValueTexts count text texts)
AreValuesFault n earlier count text Range = (texts : List (List ℕ)) × AreValueTexts count text texts × PassesIn n earlier texts
AreValuesFault n earlier count text Memory = Unit {0}

pub record IsFaultOf (n count : ℕ) (scale : Scale) (text : List ℕ) (e : ValuesError) : Type 0 where
  pub fault : (earlier : List (List ℕ)) → IsScaleOf scale earlier → AreValuesFault n earlier count text e
