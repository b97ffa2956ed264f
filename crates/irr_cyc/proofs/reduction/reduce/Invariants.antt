-- The primes below p have been passed.
use Rattle.std.proofs.Common.{◌+◌, ◌-◌, ◌^◌, length}
use Rattle.irr_cyc.specs.Form.{at}
use Rattle.irr_cyc.proofs.Factors.{Reached}
use Rattle.irr_cyc.proofs.reduction.reduce.Given as goal

abbrev pub invariant-loop-rest : goal.invariant-loop-rest
invariant-loop-rest l = Reached (length l.initial.coefficients) (2 ^ 110) (at l.initial.coefficients) (at l.coefficients) l.p l.rest

abbrev pub decreases-loop-rest : goal.decreases-loop-rest
decreases-loop-rest l = length l.initial.coefficients + 1 - l.p
