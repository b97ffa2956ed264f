-- What contracts see of a source and a sink over memory.
--   SourceState                what a MemSource is, as a record
--   SinkState                  what a MemSink is, as a record
use Rattle.std.specs.Prelude.{ℕ, List}

-- the bytes that are left, the most that a read hands out, the numbers of the reads that fail, and the counts so far
pub record SourceState : Type 0 where
  pub left : List ℕ
  pub step : ℕ
  pub fails : List ℕ
  pub faults : ℕ
  pub reads : ℕ

-- the bytes that are held, how many there is room for, the most that a write takes, the numbers of the writes
-- that fail, and the counts so far
pub record SinkState : Type 0 where
  pub held : List ℕ
  pub room : ℕ
  pub step : ℕ
  pub fails : List ℕ
  pub faults : ℕ
  pub writes : ℕ
