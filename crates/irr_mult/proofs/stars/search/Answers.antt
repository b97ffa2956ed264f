-- One wave vector more.
use Rattle.std.proofs.Common.{sym, subst}
use Rattle.irr_kvec.specs.WaveMeaning.{wave_vector}
use Rattle.irr_little.specs.Arms.{AreArms}
use Rattle.irr_star.proofs.WaveLimits.{arms_limited}
use Rattle.irr_mult.proofs.LeastArms.{limits_of_least}
use Rattle.irr_mult.proofs.SearchedStars.{arms_known, keys_kept, known_star, new_star, some_arm}
use Rattle.irr_mult.proofs.stars.search.Goals as goal

pub least_arm-least-requires : goal.least_arm-least-requires
least_arm-least-requires c = some_arm c.args.group.now c.args.wave.now c.as_slice-arms.result.now
    (subst (AreArms c.args.group.now (wave_vector c.args.wave.now)) (sym c.as_slice-arms.ensures.value)
    c.in_ok-arms.ensures)

pub insert-requires : goal.insert-requires
insert-requires c = c.requires.order

pub returns-then-is_seen : goal.returns-then-is_seen
returns-then-is_seen c ws h = known_star c.args.group.now ws c.args.found.now.items c.args.seen.now.keys
    c.args.wave.now h (c.is_seen.ensures c.if-is_seen.true)

pub returns : goal.returns
returns c ws h =
    let group = c.args.group.now in
    let w = c.args.wave.now in
    let arms = c.as_slice-arms.result.now in
    let found = c.args.found.now.items in
    let new = c.insert.new.found.items in
    let r = c.least_arm-least.result in
    let chosen = c.least_arm-least.ensures in
    let with = c.in_ok-insert.ensures.found in
    let are : AreArms group (wave_vector w) arms = subst (AreArms group (wave_vector w))
    (sym c.as_slice-arms.ensures.value) c.in_ok-arms.ensures in
    let limits = limits_of_least arms r (arms_limited group w arms c.requires.limits are) chosen.arm in
    new_star group w arms are r chosen.arm chosen.least found new with ws c.args.seen.now.keys c.mark.new.seen.keys h
    (c.in_ok-insert.ensures.limits h.limits limits)
    (c.in_ok-mark.ensures group new
    (keys_kept group w arms are r chosen.arm chosen.least found new with c.args.seen.now.keys h.known)
    (arms_known group w arms are r chosen.arm chosen.least found new with))
