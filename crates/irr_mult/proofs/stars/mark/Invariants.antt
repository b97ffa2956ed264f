-- What is known of the keys so far.
use Rattle.std.proofs.Common.{List}
use Rattle.std.specs.List.{All}
use Rattle.irr_kvec.specs.declared.wave.Wave.{Wave}
use Rattle.irr_close.specs.declared.group.Group.{Group}
use Rattle.irr_little.specs.declared.arms.Arm.{Arm}
use Rattle.irr_mult.specs.StarSearch.{IsKnown, key}
use Rattle.irr_mult.proofs.stars.mark.Given as goal

abbrev pub invariant-loop-arm : goal.invariant-loop-arm
invariant-loop-arm l = (group : Group) (found : List Wave) → All (IsKnown group found) l.fn.seen.keys
    → All (λ (a : Arm). IsKnown group found (key a.wave)) l.arms → All (IsKnown group found) l.seen.keys
