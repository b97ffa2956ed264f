-- The values of a line, as a stage of a report holds them.
--   AreEach R xs ys                the lists are as long, and R holds item by item
--   IsValueOf order value n text x     the text writes the number x of order n
--   AreFaulty n earlier count text e   the error e of a line comes with the text of count values, behind the earlier ones
--   AreFaultyFrom n count scale text e so behind all texts that have the scale
use Rattle.std.specs.Prelude.{ℕ, ◌≡◌, List, [], ◌∷◌}
use Rattle.irr_number.specs.Number.{Number}
use Rattle.irr_numeral.specs.WrittenValue.{IsReadAs}
use Rattle.irr_report.specs.ReportLimits.{PassesIn}
use Rattle.irr_report.specs.ValueTexts.{AreValueTexts, IsScaleOf}
use Rattle.irr_report.specs.declared.scale.Scale.{Scale}
use Rattle.irr_report.specs.declared.stage.StepError.{StepError}
use Rattle.irr_report.specs.declared.stage.StepError.TheVariants.{Line, Range, Memory}

abbrev pub AreEach : {A B : Type 0} → (A → B → Type 0) → List A → List B → Type 0
AreEach R [] [] = Unit {0}
AreEach R [] (y ∷ ys) = ⊥
AreEach R (x ∷ xs) [] = ⊥
AreEach R (x ∷ xs) (y ∷ ys) = R x y × AreEach R xs ys

abbrev pub IsValueOf : {S : Type 0} (order : S → ℕ) (value : (n : ℕ) → S → Number n) → ℕ → List ℕ → S → Type 0
IsValueOf order value n text x = (order x ≡ n) × IsReadAs n text (value n x)

abbrev pub AreFaulty : ℕ → List (List ℕ) → ℕ → List ℕ → StepError → Type 0
AreFaulty n earlier count text Line = (texts : List (List ℕ)) → ¬ (AreValueTexts count text texts)
AreFaulty n earlier count text Range = (texts : List (List ℕ)) × AreValueTexts count text texts × PassesIn n earlier texts
AreFaulty n earlier count text Memory = Unit {0}

pub record AreFaultyFrom (n count : ℕ) (scale : Scale) (text : List ℕ) (e : StepError) : Type 0 where
  pub fault : (earlier : List (List ℕ)) → IsScaleOf scale earlier → AreFaulty n earlier count text e
