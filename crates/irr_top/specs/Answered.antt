-- What a run leaves behind, status by status.
--   IsAnswered words source sink written s    words and all bytes of the input, where they are told, ask for s, and its
--                                             text was written
--   IsCutOff words source sink written        a front of the text that they ask for was written
use Rattle.std.specs.Prelude.{ℕ, List, length}
use Rattle.std.specs.Io.{StartsWith}
use Rattle.irr_io.specs.Count.{CountsAtMost}
use Rattle.irr_io.specs.Views.{SourceView, SinkView, Gains, Gained}
use Rattle.irr_top.specs.Asked.{Asks}
use Rattle.irr_top.specs.Outcome.{IsAllOf}
use Rattle.irr_top.specs.declared.status.Status.{Status}

pub record IsAnswered (words : List (List ℕ)) (source : SourceView) (sink written : SinkView) (s : Status)
    : Type 0 where
  pub bytes : List ℕ
  pub is_all : IsAllOf source.left bytes
  pub text : List ℕ
  pub asks : Asks words bytes s text
  pub gained : Gains sink written text
  pub counted : CountsAtMost (length text) sink.writes written.writes

pub record IsCutOff (words : List (List ℕ)) (source : SourceView) (sink written : SinkView) : Type 0 where
  pub bytes : List ℕ
  pub is_all : IsAllOf source.left bytes
  pub status : Status
  pub text : List ℕ
  pub asks : Asks words bytes status text
  pub gained : Gained sink written (StartsWith text)
  pub counted : CountsAtMost (length text) sink.writes written.writes
