-- What contracts see of a source and of a sink, and what one call changes in it.
--   SourceView                 the bytes that are left and the number of reads, where they are told, and that of faults
--   SinkView                   the bytes that are held and the number of writes, where they are told, and that of faults
--   IsAtEnd view               no byte is left, where that is told
--   Takes before after piece   a source gave piece, from the front of what it had left
--   TakesAll before after bs   a source gave all that it had left, and this is bs
--   Took before after P        a source gave some piece that meets P, from the front
--   Gains before after piece   a sink took piece, at the end of what it held
--   Gained before after P      a sink took some piece that meets P, at the end
--   ReadFailed before after    a read failed, and the source counted it
--   WriteFailed before after   a write failed, and the sink counted it
-- A source or a sink tells its bytes or does not, before and after alike.
use Rattle.std.specs.Prelude.{ℕ, List, Option}
use Rattle.irr_io.specs.Count.{Rose}
use Rattle.irr_io.specs.Told.{IsEmptied, LosesFront, LosesAll, Grows}

pub record SourceView : Type 0 where
  pub left : Option (List ℕ)
  pub reads : Option ℕ
  pub faults : ℕ

pub record SinkView : Type 0 where
  pub held : Option (List ℕ)
  pub writes : Option ℕ
  pub faults : ℕ

abbrev pub IsAtEnd : SourceView → Type 0
IsAtEnd view = IsEmptied view.left

abbrev pub Takes : SourceView → SourceView → List ℕ → Type 0
Takes before after piece = LosesFront before.left after.left piece

abbrev pub TakesAll : SourceView → SourceView → List ℕ → Type 0
TakesAll before after bytes = LosesAll before.left after.left bytes

abbrev pub Took : SourceView → SourceView → (List ℕ → Type 0) → Type 0
Took before after P = (piece : List ℕ) × Takes before after piece × P piece

abbrev pub Gains : SinkView → SinkView → List ℕ → Type 0
Gains before after piece = Grows before.held after.held piece

abbrev pub Gained : SinkView → SinkView → (List ℕ → Type 0) → Type 0
Gained before after P = (piece : List ℕ) × Gains before after piece × P piece

abbrev pub ReadFailed : SourceView → SourceView → Type 0
ReadFailed before after = Rose before.faults after.faults

abbrev pub WriteFailed : SinkView → SinkView → Type 0
WriteFailed before after = Rose before.faults after.faults
