-- The lines that tell of a refusal: this project's own.
--   refusal_text s     the line of a status that has one, with its line feed, and nothing for another status
--   HasLine s          s is a refusal that has a line
use Rattle.std.specs.Prelude.{ℕ, suc, ⊤, List, [], ◌∷◌, ◌++◌, codes}
use Rattle.std.specs.Fmt.{decimal}
use Rattle.irr_top.specs.declared.status.Status.{Status}
use Rattle.irr_top.specs.declared.status.Status.TheVariants.{Done, Rejected, Usage, BadInput, TooLarge, ReadFault, WriteFault, Memory}
use Rattle.irr_input.specs.declared.input.Reason.{Reason}
use Rattle.irr_input.specs.declared.input.Reason.TheVariants.{Shape, Zero, Range, Determinant, Missing, Report as ReportFault, Singular, NotInGroup}
use Rattle.irr_top.specs.declared.status.Kind.{Kind}
use Rattle.irr_top.specs.declared.status.Kind.TheVariants.{Bytes, Report, Rotations, Denominator, Centrings, Order}

-- the reason, with a column where it has one, which counts from 1
abbrev pub reason_text : Reason → List ℕ
reason_text (Shape place) = codes "shape " ++ decimal (suc place)
reason_text (Zero place) = codes "zero " ++ decimal (suc place)
reason_text (Range place) = codes "range " ++ decimal (suc place)
reason_text Determinant = codes "determinant"
reason_text Missing = codes "missing"
reason_text ReportFault = codes "report"
reason_text Singular = codes "singular"
reason_text NotInGroup = codes "not in group"

abbrev pub kind_text : Kind → List ℕ
kind_text Bytes = codes "bytes"
kind_text (Report n) = codes "report line " ++ decimal n
kind_text Rotations = codes "rotations"
kind_text Denominator = codes "denominator"
kind_text Centrings = codes "centrings"
kind_text (Order n) = codes "order " ++ decimal n

abbrev pub refusal_text : Status → List ℕ
refusal_text Done = []
refusal_text (Rejected clause rep i j) = []
refusal_text (Usage n) = codes "usage " ++ decimal n ++ 10 ∷ []
refusal_text (BadInput line reason) = codes "bad input line " ++ decimal line ++ codes ": " ++ reason_text reason
    ++ 10 ∷ []
refusal_text (TooLarge kind) = codes "too large: " ++ kind_text kind ++ 10 ∷ []
refusal_text ReadFault = []
refusal_text WriteFault = []
refusal_text Memory = []

-- a refusal that has a line
abbrev pub HasLine : Status → Type 0
HasLine Done = ⊥
HasLine (Rejected clause rep i j) = ⊥
HasLine (Usage n) = ⊤
HasLine (BadInput line reason) = ⊤
HasLine (TooLarge kind) = ⊤
HasLine ReadFault = ⊥
HasLine WriteFault = ⊥
HasLine Memory = ⊥
