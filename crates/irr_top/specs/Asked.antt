-- What words and the bytes of an input ask for: a status s, and the text that is to be written with it. The stages
-- follow one another, and at each of them what is wrong first decides.
--   input_limit                        the limit on the bytes of an input
--   Asks words bytes s text            the first faulty word; or what a request asks, where a source has these bytes
--   IsInputOf made bytes input         the input is all that the source has; or the made input of a number
--   AsksOfRequest r bytes s text       what the request asks of its input
--   AsksOfBytes r bytes s text         too many bytes; or what the request asks of their lines
--   AsksOfLines r bytes s text         the first faulty line, or the first that passes a limit; or what it asks of an
--                                      input
--   AsksOfInput r gens sub report n s text the section that the command needs is missing, as is told at the line after
--                                      the last of n lines; or what its question asks of the generators
--   AsksOfGenerators q gens s text     the first limit that the generators pass; or what the question asks of the group
--                                      that they generate (AsksOfGroup in Answer.antt)
--   operations_of lines                the operations on the lines of an input
use Rattle.std.specs.Prelude.{ℕ, ◌≡◌, ◌+◌, ◌<◌, ◌≤◌, Option, None, Some, List, length, map}
use Rattle.irr_space.specs.Operation.{WaveVector}
use Rattle.irr_text.specs.ReportText.{ReportContent}
use Rattle.irr_seitz.specs.declared.op.Op.{Op}
use Rattle.irr_close.specs.StandsFor.{IsRefusal, IsAccepted}
use Rattle.irr_close.specs.declared.CloseError.{CloseError}
use Rattle.irr_gen.specs.MadeInput.{IsMadeInput}
use Rattle.irr_input.specs.Stages.{SubContent}
use Rattle.irr_input.specs.InputLines.{HasLines, IsFaultyLine, IsInput, IsLimitLine}
use Rattle.irr_input.specs.declared.input.GenLine.{GenLine}
use Rattle.irr_input.specs.declared.input.Reason.{Reason}
use Rattle.irr_input.specs.declared.input.Reason.TheVariants.{Missing}
use Rattle.irr_top.specs.GroupOf.{group_of}
use Rattle.irr_top.specs.PassedLimit.{passed_limit}
use Rattle.irr_top.specs.RefusalText.{refusal_text}
use Rattle.irr_top.specs.Request.{IsFaultyWord, IsRequested, made_number}
use Rattle.irr_top.specs.Question.{Question, question_of}
use Rattle.irr_top.specs.Answer.{AsksOfGroup}
use Rattle.irr_top.specs.declared.request.Request.{Request}
use Rattle.irr_top.specs.declared.status.Status.{Status}
use Rattle.irr_top.specs.declared.status.Status.TheVariants.{Usage, BadInput, TooLarge}
use Rattle.irr_top.specs.declared.status.Kind.{Kind}
use Rattle.irr_top.specs.declared.status.Kind.TheVariants.{Bytes, Report}

abbrev pub input_limit : ℕ
input_limit = 4194304

abbrev pub operations_of : List GenLine → List Op
operations_of lines = map (λ (g : GenLine). g.op) lines

pub data AsksOfGenerators (q : Question) (gens : List Op) : Status → List ℕ → Type 0 where
  refused : {kind : Kind} (e : CloseError) → passed_limit e ≡ Some kind → IsRefusal gens e
      → AsksOfGenerators q gens (TooLarge kind) (refusal_text (TooLarge kind))
  group : {s : Status} {text : List ℕ} → IsAccepted gens → AsksOfGroup q (group_of gens) s text
      → AsksOfGenerators q gens s text

pub data AsksOfInput (r : Request) (gens : List Op) (sub : Option SubContent) (report : Option ReportContent) (n : ℕ)
    : Status → List ℕ → Type 0 where
  missing : question_of r sub report n ≡ None
      → AsksOfInput r gens sub report n (BadInput (n + 1) Missing) (refusal_text (BadInput (n + 1) Missing))
  question : {s : Status} {text : List ℕ} (q : Question) → question_of r sub report n ≡ Some q
      → AsksOfGenerators q gens s text → AsksOfInput r gens sub report n s text

pub data AsksOfLines (r : Request) (bytes : List ℕ) : Status → List ℕ → Type 0 where
  faulty_line : {n : ℕ} {reason : Reason} → IsFaultyLine bytes n reason
      → AsksOfLines r bytes (BadInput n reason) (refusal_text (BadInput n reason))
  limited_line : {n : ℕ} → IsLimitLine bytes n
      → AsksOfLines r bytes (TooLarge (Report n)) (refusal_text (TooLarge (Report n)))
  input : {s : Status} {text : List ℕ} (lines : List GenLine) (sub : Option SubContent) (report : Option ReportContent) (n : ℕ)
      → IsInput bytes lines sub report → HasLines bytes n → AsksOfInput r (operations_of lines) sub report n s text
      → AsksOfLines r bytes s text

pub data AsksOfBytes (r : Request) (bytes : List ℕ) : Status → List ℕ → Type 0 where
  too_long : input_limit < length bytes → AsksOfBytes r bytes (TooLarge Bytes) (refusal_text (TooLarge Bytes))
  lines : {s : Status} {text : List ℕ} → length bytes ≤ input_limit → AsksOfLines r bytes s text
      → AsksOfBytes r bytes s text

abbrev pub IsInputOf : Option ℕ → List ℕ → List ℕ → Type 0
IsInputOf None bytes all = all ≡ bytes
IsInputOf (Some n) bytes all = (k : WaveVector) × IsMadeInput n all k

pub record AsksOfRequest (r : Request) (bytes : List ℕ) (s : Status) (text : List ℕ) : Type 0 where
  pub input : List ℕ
  pub is_input : IsInputOf (made_number r) bytes input
  pub asks : AsksOfBytes r input s text

pub data Asks (words : List (List ℕ)) (bytes : List ℕ) : Status → List ℕ → Type 0 where
  faulty_word : {n : ℕ} → IsFaultyWord words n → Asks words bytes (Usage n) (refusal_text (Usage n))
  request : {s : Status} {text : List ℕ} (r : Request) → IsRequested words r → AsksOfRequest r bytes s text
      → Asks words bytes s text
