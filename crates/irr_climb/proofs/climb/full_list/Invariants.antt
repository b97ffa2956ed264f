-- The families have come up the first levels.
use Rattle.irr_rep.specs.Twisted.{phase_table}
use Rattle.irr_climb.specs.Climbed.{IsClimbed}
use Rattle.irr_climb.proofs.climb.full_list.Given as goal

abbrev pub invariant-loop-k : goal.invariant-loop-k
invariant-loop-k g l = IsClimbed (phase_table l.t) l.levels l.k l.families.items
