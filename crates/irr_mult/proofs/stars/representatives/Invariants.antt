-- The stars so far.
use Rattle.std.proofs.Common.{take}
use Rattle.irr_mult.specs.OrderedWaves.{waves_of}
use Rattle.irr_mult.specs.StarSearch.{AreSearched}
use Rattle.irr_mult.proofs.stars.representatives.Given as goal

abbrev pub invariant-loop-wave : goal.invariant-loop-wave
invariant-loop-wave l = AreSearched l.group (waves_of (take l.wave-index l.waves)) l.found.items l.seen.keys
