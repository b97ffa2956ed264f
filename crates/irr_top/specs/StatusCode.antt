-- Exit statuses.
--   code_of s     the exit status of a program that ends with the status s
use Rattle.std.specs.Prelude.{ℕ}
use Rattle.irr_top.specs.declared.status.Status.{Status}
use Rattle.irr_top.specs.declared.status.Status.TheVariants.{Done, Rejected, Usage, BadInput, TooLarge, ReadFault, WriteFault, Memory}

abbrev pub code_of : Status → ℕ
code_of Done = 0
code_of (Rejected clause rep i j) = 1
code_of (Usage n) = 2
code_of (BadInput line reason) = 3
code_of (TooLarge kind) = 4
code_of ReadFault = 5
code_of WriteFault = 6
code_of Memory = 7
