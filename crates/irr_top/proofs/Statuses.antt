-- What an outcome says, status by status.
--   asked_status      what is asked for is no failure
--   outcome_answered, outcome_read_fault, outcome_write_fault, outcome_memory, outcome_done, outcome_unread,
--   outcome_usage     the clauses of the law
--   served_read       what serves a request ends with no failed read
use Rattle.std.proofs.Common.{◌≡◌, sym, subst, refl, ℕ, ◌⊎◌, inl, inr, Option, List}
use Rattle.irr_space.specs.Operation.{Operation}
use Rattle.irr_seitz.specs.declared.op.Op.{Op}
use Rattle.irr_io.specs.Views.{SourceView, SinkView, IsAtEnd, ReadFailed, WriteFailed}
use Rattle.irr_text.specs.ReportText.{ReportContent}
use Rattle.irr_input.specs.Stages.{SubContent}
use Rattle.irr_check.specs.declared.verdict.Verdict.{Verdict}
use Rattle.irr_check.specs.declared.verdict.Verdict.TheVariants.{No, Yes}
use Rattle.irr_top.specs.CheckCommand.{verdict_status}
use Rattle.irr_top.specs.Question.{Question}
use Rattle.irr_top.specs.Question.Question.{star, small, full, product, subduce, compat, real, square, tensor, site, check, summary}
use Rattle.irr_top.specs.Answer.{AsksOfGroup, IsReply}
use Rattle.irr_top.specs.Answer.AsksOfGroup.{order_too_large, reply}
use Rattle.irr_top.specs.Asked.{Asks, AsksOfRequest, AsksOfBytes, AsksOfLines, AsksOfInput, AsksOfGenerators}
use Rattle.irr_top.specs.Asked.AsksOfGenerators.{refused, group}
use Rattle.irr_top.specs.Asked.AsksOfInput.{missing, question}
use Rattle.irr_top.specs.Asked.AsksOfLines.{faulty_line, limited_line, input}
use Rattle.irr_top.specs.Asked.AsksOfBytes.{too_long, lines}
use Rattle.irr_top.specs.Asked.Asks.{faulty_word, request}
use Rattle.irr_top.specs.Request.{IsFaultyWord, ReadsInput}
use Rattle.irr_top.specs.Outcome.{Ended, Serves, IsAllOf, OutcomeOf, Outcome, IsFailure}
use Rattle.irr_top.specs.Outcome.Ended.{whole, cut_off, no_memory}
use Rattle.irr_top.specs.Outcome.Serves.{serves, without_memory}
use Rattle.irr_top.specs.Outcome.OutcomeOf.{answered, read_fault}
use Rattle.irr_top.specs.Answered.{IsAnswered, IsCutOff}
use Rattle.irr_top.specs.declared.request.Request.{Request}
use Rattle.irr_top.specs.declared.status.Status.{Status}
use Rattle.irr_top.specs.declared.status.Status.TheVariants.{Done, Usage, ReadFault, WriteFault, Memory}
use Rattle.irr_top.proofs.OneAnswer.{asked_once}
use Rattle.irr_top.proofs.OneSubgroup.{is_no_failure}

verdict_no_failure : (v : Verdict) → IsFailure (verdict_status v) → ⊥
verdict_no_failure Yes h = h
verdict_no_failure (No clause rep i j) h = h

reply_no_failure : (q : Question) (G : Operation → Type 0) (s : Status) (text : List ℕ) → IsReply q G s text
    → IsFailure s → ⊥
reply_no_failure (star k) G s text a h = subst IsFailure a.0 h
reply_no_failure (small k) G s text a h = subst IsFailure a.0 h
reply_no_failure (full k) G s text a h = subst IsFailure a.0 h
reply_no_failure (product k l) G s text a h = subst IsFailure a.0 h
reply_no_failure (subduce k S) G s text a h = is_no_failure G S k a h
reply_no_failure (compat k others) G s text a h = subst IsFailure a.0 h
reply_no_failure (real k) G s text a h = subst IsFailure a.0 h
reply_no_failure (square k) G s text a h = subst IsFailure a.0 h
reply_no_failure (tensor f) G s text a h = subst IsFailure a.0 h
reply_no_failure (site x k) G s text a h = subst IsFailure a.0 h
reply_no_failure (summary n m k) G s text a h = subst IsFailure a.0 h
reply_no_failure (check r) G s text a h = verdict_no_failure a.verdict (subst IsFailure a.is_status h)

group_no_failure : (q : Question) (G : Operation → Type 0) {s : Status} {text : List ℕ} → AsksOfGroup q G s text
    → IsFailure s → ⊥
group_no_failure q G (order_too_large a) h = h
group_no_failure q G {s = s} {text = text} (reply w a) h = reply_no_failure q G s text a h

generators_no_failure : {q : Question} {gens : List Op} {s : Status} {text : List ℕ} → AsksOfGenerators q gens s text
    → IsFailure s → ⊥
generators_no_failure (refused e p r) h = h
generators_no_failure (group a g) h = group_no_failure _ _ g h

input_no_failure : {r : Request} {gens : List Op} {sub : Option SubContent} {c : Option ReportContent} {n : ℕ} {s : Status} {text : List ℕ}
    → AsksOfInput r gens sub c n s text → IsFailure s → ⊥
input_no_failure (missing e) h = h
input_no_failure (question q e g) h = generators_no_failure g h

lines_no_failure : {r : Request} {bytes : List ℕ} {s : Status} {text : List ℕ} → AsksOfLines r bytes s text
    → IsFailure s → ⊥
lines_no_failure (faulty_line f) h = h
lines_no_failure (limited_line f) h = h
lines_no_failure (input ls sub c n i l a) h = input_no_failure a h

bytes_no_failure : {r : Request} {bytes : List ℕ} {s : Status} {text : List ℕ} → AsksOfBytes r bytes s text
    → IsFailure s → ⊥
bytes_no_failure (too_long l) h = h
bytes_no_failure (lines l a) h = lines_no_failure a h

request_no_failure : {r : Request} {bytes : List ℕ} {s : Status} {text : List ℕ} → AsksOfRequest r bytes s text
    → IsFailure s → ⊥
request_no_failure a h = bytes_no_failure a.asks h

pub asked_status : {words : List (List ℕ)} {bytes : List ℕ} {s : Status} {text : List ℕ} → Asks words bytes s text
    → IsFailure s → ⊥
asked_status (faulty_word f) h = h
asked_status (request r is a) h = request_no_failure a h

module _ (words : List (List ℕ)) (source read : SourceView) (sink written : SinkView) where
  abbrev Ends : Status → Type 0
  Ends t = OutcomeOf (Asks words) source read sink written t

  -- a failure is not the status that is asked for
  not_asked : {bytes : List ℕ} {s t : Status} {text : List ℕ} → Asks words bytes s text → s ≡ t → IsFailure t → ⊥
  not_asked a e h = asked_status a (subst IsFailure (sym e) h)

  ended_answered : {s t : Status} {text : List ℕ} (bytes : List ℕ) → IsAllOf source.left bytes → Asks words bytes s text
      → Ended s text sink written t → (IsFailure t → ⊥) → IsAnswered words source sink written t
  ended_answered {text = text} bytes all a (whole g w) n = record { bytes = bytes; is_all = all; text = text; asks = a; gained = g; counted = w }
  ended_answered bytes all a (cut_off r g w) n = absurd (n tt)
  ended_answered bytes all a (no_memory e) n = absurd (n tt)

  serves_answered : {t : Status} (bytes : List ℕ) → IsAllOf source.left bytes → Serves (Asks words bytes) sink written t
      → (IsFailure t → ⊥) → IsAnswered words source sink written t
  serves_answered bytes all (serves a e) n = ended_answered bytes all a e n
  serves_answered bytes all (without_memory e) n = absurd (n tt)

  ends_answered : {t : Status} → Ends t → (IsFailure t → ⊥) → IsAnswered words source sink written t
  ends_answered (answered bytes all s) n = serves_answered bytes all s n
  ends_answered (read_fault r h) n = absurd (n tt)

  pub outcome_answered : {t : Status} → Outcome words source read sink written t → (IsFailure t → ⊥)
      → IsAnswered words source sink written t
  outcome_answered o n = ends_answered o.ends n

  ended_read : {s t : Status} {text : List ℕ} (bytes : List ℕ) → Asks words bytes s text → Ended s text sink written t
      → t ≡ ReadFault → ⊥
  ended_read bytes a (whole g w) e = not_asked a e tt
  ended_read bytes a (cut_off r g w) e = let k : WriteFault ≡ ReadFault = e in cc
  ended_read bytes a (no_memory h) e = let k : Memory ≡ ReadFault = e in cc

  serves_read : {t : Status} (bytes : List ℕ) → Serves (Asks words bytes) sink written t → t ≡ ReadFault → ⊥
  serves_read bytes (serves a e) f = ended_read bytes a e f
  serves_read bytes (without_memory h) f = let k : Memory ≡ ReadFault = f in cc

  ends_read : {t : Status} → Ends t → t ≡ ReadFault → ReadFailed source read × (written.held ≡ sink.held)
  ends_read (answered bytes all s) e = absurd (serves_read bytes s e)
  ends_read (read_fault r h) e = (r, h)

  pub outcome_read_fault : Outcome words source read sink written ReadFault
      → ReadsInput words × ReadFailed source read × (written.held ≡ sink.held)
  outcome_read_fault o = let e = ends_read o.ends refl in (o.read_for_an_input refl, e.0, e.1)

  ended_write : {s t : Status} {text : List ℕ} (bytes : List ℕ) → IsAllOf source.left bytes → Asks words bytes s text
      → Ended s text sink written t → t ≡ WriteFault → WriteFailed sink written × IsCutOff words source sink written
  ended_write bytes all a (whole g w) e = absurd (not_asked a e tt)
  ended_write {s = s} {text = text} bytes all a (cut_off r g w) e =
      (r, record { bytes = bytes; is_all = all; status = s; text = text; asks = a; gained = g; counted = w })
  ended_write bytes all a (no_memory h) e = absurd (let k : Memory ≡ WriteFault = e in cc)

  serves_write : {t : Status} (bytes : List ℕ) → IsAllOf source.left bytes → Serves (Asks words bytes) sink written t
      → t ≡ WriteFault
      → WriteFailed sink written × IsCutOff words source sink written
  serves_write bytes all (serves a e) f = ended_write bytes all a e f
  serves_write bytes all (without_memory h) f = absurd (let k : Memory ≡ WriteFault = f in cc)

  ends_write : {t : Status} → Ends t → t ≡ WriteFault → WriteFailed sink written × IsCutOff words source sink written
  ends_write (answered bytes all s) e = serves_write bytes all s e
  ends_write (read_fault r h) e = absurd (let k : ReadFault ≡ WriteFault = e in cc)

  pub outcome_write_fault : Outcome words source read sink written WriteFault
      → WriteFailed sink written × IsCutOff words source sink written
  outcome_write_fault o = ends_write o.ends refl

  ended_memory : {s t : Status} {text : List ℕ} (bytes : List ℕ) → Asks words bytes s text
      → Ended s text sink written t → t ≡ Memory
      → written.held ≡ sink.held
  ended_memory bytes a (whole g w) e = absurd (not_asked a e tt)
  ended_memory bytes a (cut_off r g w) e = absurd (let k : WriteFault ≡ Memory = e in cc)
  ended_memory bytes a (no_memory h) e = h

  serves_memory : {t : Status} (bytes : List ℕ) → Serves (Asks words bytes) sink written t → t ≡ Memory
      → written.held ≡ sink.held
  serves_memory bytes (serves a e) f = ended_memory bytes a e f
  serves_memory bytes (without_memory h) f = h

  ends_memory : {t : Status} → Ends t → t ≡ Memory → written.held ≡ sink.held
  ends_memory (answered bytes all s) e = serves_memory bytes s e
  ends_memory (read_fault r h) e = h

  pub outcome_memory : Outcome words source read sink written Memory → written.held ≡ sink.held
  outcome_memory o = ends_memory o.ends refl

  pub outcome_done : Outcome words source read sink written Done → ReadsInput words → IsAtEnd read
  outcome_done o reads = o.at_end reads refl

  pub outcome_unread : {t : Status} → Outcome words source read sink written t → ¬ (ReadsInput words) → read ≡ source
  outcome_unread o n = o.unread n

  -- faulty words
  module _ (n : ℕ) (f : IsFaultyWord words n) where
    ended_usage : {s t : Status} {text : List ℕ} (bytes : List ℕ) → Asks words bytes s text
        → Ended s text sink written t
        → (t ≡ Usage n) ⊎ ((t ≡ Memory) ⊎ (t ≡ WriteFault))
    ended_usage bytes a (whole g w) = inl (asked_once words bytes a (faulty_word f))
    ended_usage bytes a (cut_off r g w) = inr (inr refl)
    ended_usage bytes a (no_memory h) = inr (inl refl)

    serves_usage : {t : Status} (bytes : List ℕ) → Serves (Asks words bytes) sink written t
        → (t ≡ Usage n) ⊎ ((t ≡ Memory) ⊎ (t ≡ WriteFault))
    serves_usage bytes (serves a e) = ended_usage bytes a e
    serves_usage bytes (without_memory h) = inr (inl refl)

    ends_usage : {t : Status} → Ends t → (t ≡ ReadFault → ReadsInput words)
        → (t ≡ Usage n) ⊎ ((t ≡ Memory) ⊎ (t ≡ WriteFault))
    ends_usage (answered bytes all s) c = serves_usage bytes s
    ends_usage (read_fault r h) c = absurd (let reads = c refl in f.no_command (reads.0, reads.1))

    pub outcome_usage : {t : Status} → Outcome words source read sink written t
        → (t ≡ Usage n) ⊎ ((t ≡ Memory) ⊎ (t ≡ WriteFault))
    outcome_usage o = ends_usage o.ends o.read_for_an_input

-- of what serves a request
ended_no_read : {s t : Status} {text : List ℕ} {before after : SinkView} → (IsFailure s → ⊥) → Ended s text before after t
    → t ≡ ReadFault → ⊥
ended_no_read n (whole g w) e = n (subst IsFailure (sym e) tt)
ended_no_read n (cut_off r g w) e = let k : WriteFault ≡ ReadFault = e in cc
ended_no_read n (no_memory h) e = let k : Memory ≡ ReadFault = e in cc

pub served_read : {r : Request} {bytes : List ℕ} {before after : SinkView} {t : Status} → Serves (AsksOfRequest r bytes) before after t
    → t ≡ ReadFault → ⊥
served_read (serves a e) f = ended_no_read (request_no_failure a) e f
served_read (without_memory h) f = let k : Memory ≡ ReadFault = f in cc
