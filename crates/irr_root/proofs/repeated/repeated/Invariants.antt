-- The numbers so far.
use Rattle.std.proofs.Common.{◌≡◌, ◌+◌, ◌*◌, ◌++◌, replicate, slice_index}
use Rattle.irr_root.proofs.Repetitions.{repetitions}
use Rattle.irr_root.proofs.repeated.repeated.Given as goal

abbrev pub invariant-loop-a : goal.invariant-loop-a
invariant-loop-a l = l.numbers.items ≡ repetitions l.first l.step (slice_index l.times) l.a

abbrev pub invariant-loop : goal.invariant-loop
invariant-loop l = l.numbers.items ≡ repetitions l.first l.step (slice_index l.times) l.a ++ replicate l.counter (l.first + l.a * l.step)
