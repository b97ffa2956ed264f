-- How a run ends, and what it leaves behind.
--   Ended s text before after t    t is s and the whole text was written; or t tells of a write that failed, and a front
--                                  of it was written; or t tells of want of memory, and nothing was written
--   Serves asks before after t     so for a status and a text that are asked for; or memory was wanting before it was
--                                  known what is asked for, and nothing was written
--   IsAllOf left bytes             the bytes are all that a source has left, where it tells
--   OutcomeOf asks source read sink written t    so for what all bytes of the source ask for; or t tells of a read that
--                                  failed, and nothing was written. The source was first source and then read, the sink
--                                  first sink and then written
--   Outcome words source read sink written t     so for what words and the bytes ask for. A command that reads an input
--                                  has read it to its end at Done; for all other words the source is as it was
--   IsOwed words source s          the words ask for s whatever the bytes are; or the source tells all its bytes, and
--                                  words and bytes ask for s
--   IsFailure t                    t tells that a stream failed or that memory was wanting
use Rattle.std.specs.Prelude.{ℕ, ◌≡◌, ⊤, Option, None, Some, List, length}
use Rattle.std.specs.Io.{StartsWith}
use Rattle.irr_io.specs.Count.{CountsAtMost}
use Rattle.irr_io.specs.Views.{SourceView, SinkView, IsAtEnd, Gains, Gained, ReadFailed, WriteFailed}
use Rattle.irr_top.specs.Request.{ReadsInput}
use Rattle.irr_top.specs.Asked.{Asks}
use Rattle.irr_top.specs.declared.status.Status.{Status}
use Rattle.irr_top.specs.declared.status.Status.TheVariants.{Done, Rejected, Usage, BadInput, TooLarge, ReadFault, WriteFault, Memory}

pub data Ended (s : Status) (text : List ℕ) (before after : SinkView) : Status → Type 0 where
  whole : Gains before after text → CountsAtMost (length text) before.writes after.writes → Ended s text before after s
  cut_off : WriteFailed before after → Gained before after (StartsWith text)
      → CountsAtMost (length text) before.writes after.writes → Ended s text before after WriteFault
  no_memory : after.held ≡ before.held → Ended s text before after Memory

pub data Serves (asks : Status → List ℕ → Type 0) (before after : SinkView) : Status → Type 0 where
  serves : {s t : Status} {text : List ℕ} → asks s text → Ended s text before after t → Serves asks before after t
  without_memory : after.held ≡ before.held → Serves asks before after Memory

abbrev pub IsAllOf : Option (List ℕ) → List ℕ → Type 0
IsAllOf None bytes = ⊤
IsAllOf (Some left) bytes = bytes ≡ left

pub data OutcomeOf (asks : List ℕ → Status → List ℕ → Type 0) (source read : SourceView) (sink written : SinkView)
    : Status → Type 0 where
  answered : {t : Status} (bytes : List ℕ) → IsAllOf source.left bytes → Serves (asks bytes) sink written t
      → OutcomeOf asks source read sink written t
  read_fault : ReadFailed source read → written.held ≡ sink.held → OutcomeOf asks source read sink written ReadFault

pub record Outcome (words : List (List ℕ)) (source read : SourceView) (sink written : SinkView) (t : Status)
    : Type 0 where
  pub ends : OutcomeOf (Asks words) source read sink written t
  pub read_for_an_input : t ≡ ReadFault → ReadsInput words
  pub at_end : ReadsInput words → t ≡ Done → IsAtEnd read
  pub unread : ¬ (ReadsInput words) → read ≡ source

pub data IsOwed (words : List (List ℕ)) (source : SourceView) : Status → Type 0 where
  by_words : {s : Status} (text : List ℕ) → ((bytes : List ℕ) → Asks words bytes s text) → IsOwed words source s
  by_bytes : {s : Status} (bytes text : List ℕ) → source.left ≡ Some bytes → Asks words bytes s text
      → IsOwed words source s

abbrev pub IsFailure : Status → Type 0
IsFailure Done = ⊥
IsFailure (Rejected clause rep i j) = ⊥
IsFailure (Usage n) = ⊥
IsFailure (BadInput line reason) = ⊥
IsFailure (TooLarge kind) = ⊥
IsFailure ReadFault = ⊤
IsFailure WriteFault = ⊤
IsFailure Memory = ⊤
