-- `check`: the verdict on a report of small representations.
--   verdict_text v            the line of a verdict, with its line feed, in this project's own form: all numbers count
--                             from 1, and S is before the number of a representation
--   verdict_status v          the status with which a verdict ends
--   IsCheckReply G r s text   s and the text are those of the verdict on the report r of small representations of the
--                             group G, for the sign minus
use Rattle.std.specs.Prelude.{ℕ, ◌≡◌, List, [], ◌∷◌, ◌++◌, codes}
use Rattle.std.specs.Fmt.{decimal}
use Rattle.irr_space.specs.Operation.{Operation}
use Rattle.irr_space.specs.Reciprocal.Sign.{minus}
use Rattle.irr_text.specs.ReportText.{ReportContent}
use Rattle.irr_check.specs.Trials.Reading.{meaning}
use Rattle.irr_check.specs.Verdict.{IsVerdict}
use Rattle.irr_check.specs.declared.verdict.Verdict.{Verdict}
use Rattle.irr_check.specs.declared.verdict.Verdict.TheVariants.{No, Yes}
use Rattle.irr_check.specs.declared.verdict.Clause.TheVariants.{Order, Ops, Unit as UnitMatrix, Multiply, Char, Reducible, Equivalent, Missing}
use Rattle.irr_top.specs.declared.status.Status.{Status}
use Rattle.irr_top.specs.declared.status.Status.TheVariants.{Done, Rejected}

abbrev pub verdict_text : Verdict → List ℕ
verdict_text Yes = codes "yes\n"
verdict_text (No Order rep i j) = codes "no order " ++ decimal i ++ 10 ∷ []
verdict_text (No Ops rep i j) = codes "no ops " ++ decimal i ++ 10 ∷ []
verdict_text (No UnitMatrix rep i j) = codes "no unit S" ++ decimal rep ++ 10 ∷ []
verdict_text (No Multiply rep i j) = codes "no multiply S" ++ decimal rep ++ codes " " ++ decimal i
    ++ codes " " ++ decimal j ++ 10 ∷ []
verdict_text (No Char rep i j) = codes "no char S" ++ decimal rep ++ codes " " ++ decimal i ++ 10 ∷ []
verdict_text (No Reducible rep i j) = codes "no reducible S" ++ decimal rep ++ 10 ∷ []
verdict_text (No Equivalent rep i j) = codes "no equivalent S" ++ decimal rep ++ codes " S" ++ decimal i ++ 10 ∷ []
verdict_text (No Missing rep i j) = codes "no missing\n"

abbrev pub verdict_status : Verdict → Status
verdict_status Yes = Done
verdict_status (No clause rep i j) = Rejected clause rep i j

pub record IsCheckReply (G : Operation → Type 0) (r : ReportContent) (s : Status) (text : List ℕ) : Type 0 where
  pub verdict : Verdict
  pub is_verdict : IsVerdict meaning minus G r verdict
  pub is_status : s ≡ verdict_status verdict
  pub is_text : text ≡ verdict_text verdict
