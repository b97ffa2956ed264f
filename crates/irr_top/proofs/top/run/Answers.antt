-- How a run ends.
use Rattle.std.proofs.Common.{◌≡◌, refl, None, ℕ, List}
use Rattle.irr_io.specs.Views.{SourceView, SinkView, IsAtEnd}
use Rattle.irr_input.specs.Command.{texts}
use Rattle.irr_top.specs.RefusalText.{refusal_text}
use Rattle.irr_top.specs.Request.{IsFaultyWord, IsRequested, made_number}
use Rattle.irr_top.specs.Asked.{AsksOfRequest}
use Rattle.irr_top.specs.Asked.Asks.{faulty_word, request}
use Rattle.irr_top.specs.Outcome.{Ended, OutcomeOf, Outcome}
use Rattle.irr_top.specs.Outcome.Serves.{serves}
use Rattle.irr_top.specs.Outcome.OutcomeOf.{answered}
use Rattle.irr_top.specs.declared.request.Request.{Request}
use Rattle.irr_top.specs.declared.status.Status.{Status}
use Rattle.irr_top.specs.declared.status.Status.TheVariants.{Done, Usage, ReadFault}
use Rattle.irr_top.proofs.OneAnswer.{reads_made}
use Rattle.irr_top.proofs.Outcomes.{ended_other, outcome_more, owed}
use Rattle.irr_top.proofs.InputBytes.{some_bytes}
use Rattle.irr_top.proofs.top.run.Goals as goal

-- the words of a request
asked : {words : List (List ℕ)} {source read : SourceView} {sink written : SinkView} {t : Status} (r : Request)
    → IsRequested words r
    → OutcomeOf (AsksOfRequest r) source read sink written t → (t ≡ ReadFault → made_number r ≡ None)
    → (made_number r ≡ None → t ≡ Done → IsAtEnd read) → (¬ (made_number r ≡ None) → read ≡ source)
    → Outcome words source read sink written t
asked {words} r is o fault end unread = record {
  ends = outcome_more (λ bytes s text a. request r is a) o;
  read_for_an_input = λ e. (r, is, fault e);
  at_end = λ reads. end (reads_made words r is reads);
  unread = λ n. unread (λ e. n (r, is, e));
}

-- faulty words, of which the input is not read
refused : {words : List (List ℕ)} {n : ℕ} {sink written : SinkView} {t : Status} (source : SourceView)
    → IsFaultyWord words n
    → Ended (Usage n) (refusal_text (Usage n)) sink written t → Outcome words source source sink written t
refused source f e = let b = some_bytes source.left in record {
  ends = answered b.0 b.1 (serves (faulty_word f) e);
  read_for_an_input = λ d. absurd (ended_other ReadFault e (λ k. cc) (λ k. cc) (λ k. cc) d);
  at_end = λ reads. absurd (f.no_command (reads.0, reads.1));
  unread = λ n. refl;
}

pub returns-in-Ok-clause-outcome : goal.returns-in-Ok-clause-outcome
returns-in-Ok-clause-outcome g c = asked c.in-Ok.request c.in-Ok.ensures.requested c.answer.ensures.outcome c.answer.ensures.fault
    c.answer.ensures.end c.answer.ensures.unread

pub returns-in-Ok-clause-asked : goal.returns-in-Ok-clause-asked
returns-in-Ok-clause-asked g c = λ s. owed (texts c.args.words.now) (asked c.in-Ok.request c.in-Ok.ensures.requested c.answer.ensures.outcome
    c.answer.ensures.fault c.answer.ensures.end c.answer.ensures.unread)

pub returns-in-Err-clause-outcome : goal.returns-in-Err-clause-outcome
returns-in-Err-clause-outcome g c = refused (g.I.Source.view c.args.source.now) c.in-Err.ensures.faulty c.refuse.ensures

pub returns-in-Err-clause-asked : goal.returns-in-Err-clause-asked
returns-in-Err-clause-asked g c = λ s. owed (texts c.args.words.now)
    (refused (g.I.Source.view c.args.source.now) c.in-Err.ensures.faulty c.refuse.ensures)
