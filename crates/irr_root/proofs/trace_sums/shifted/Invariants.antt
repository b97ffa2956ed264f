-- The sums so far.
use Rattle.std.proofs.Common.{◌≡◌, ◌+◌, ◌%◌, map, take}
use Rattle.irr_root.proofs.trace_sums.shifted.Given as goal

abbrev pub invariant-loop-e : goal.invariant-loop-e
invariant-loop-e l = l.sums.items ≡ map (λ e. (e + l.more) % l.order) (take l.e-index l.exponents)
