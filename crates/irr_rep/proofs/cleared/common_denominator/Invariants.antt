-- What divides each common denominator of the entries.
use Rattle.std.proofs.Common.{ℕ}
use Rattle.std.specs.Int.{◌∣◌}
use Rattle.irr_rep.specs.Defects.{IsLimited}
use Rattle.irr_rep.proofs.cleared.common_denominator.Given as goal

abbrev pub invariant-loop-m : goal.invariant-loop-m
invariant-loop-m g l = (n h d : ℕ) → IsLimited n h l.f.dim d l.f.mats.items → l.common ∣ d
