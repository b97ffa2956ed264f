-- Three zeros over 1 are in lowest terms.
use Rattle.std.proofs.Common.{arith}
use native.Mathlib.Nat as Nat
use Rattle.irr_power.proofs.FormSpaces.{zero_is}
use Rattle.irr_power.proofs.tensors.zero_wave.Goals as goal

pub invariant_of-result : goal.invariant_of-result
invariant_of-result c = record { lowest = record { positive = omega arith; lowest = λ d v w. Nat.eq-one_of_dvd-one v } }

pub returns-clause-wave : goal.returns-clause-wave
returns-clause-wave c = zero_is
