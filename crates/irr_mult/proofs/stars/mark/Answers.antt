-- Arm by arm.
use Rattle.std.proofs.Common.{sym, subst}
use Rattle.std.specs.List.{All, list_any}
use Rattle.irr_mult.specs.StarSearch.{IsKnown, key}
use Rattle.irr_mult.proofs.SeenKeys.{arm_key, key_same, known_more}
use Rattle.irr_mult.proofs.stars.mark.Goals as goal

pub loop-arm-init : goal.loop-arm-init
loop-arm-init c group found known arms = known

pub loop-arm-preserved : goal.loop-arm-preserved
loop-arm-preserved c group found known arms =
    let a = c.arm-item.result in
    subst (All (IsKnown group found)) (sym c.in_ok-insert.ensures.keys)
    (known_more group found c.loop-arm.seen.keys (key a.wave) (list_any (key_same (key a.wave)) c.loop-arm.seen.keys)
    (c.loop-arm.invariant group found known arms)
    (arm_key group found c.args.arms.now c.loop-arm.arm-index a c.loop-arm-test.true c.arm-item.is arms))

pub returns : goal.returns
returns c = c.loop-arm.invariant
