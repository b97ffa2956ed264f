-- The level is one of the series, and so is the next one.
use Rattle.std.proofs.Common.{◌≡◌, ◌<◌, ◌+◌, sym, subst, ℕ, length, arith}
use Rattle.irr_rep.specs.Twisted.{phase_table}
use Rattle.irr_chain.specs.Series.{IsLevel}
use Rattle.irr_climb.specs.Lists.{IsFullOn}
use Rattle.irr_climb.proofs.ClimbedSeries.{last_climbed, last_level, level_list, next_climbed, next_level}
use Rattle.irr_climb.proofs.climb.climb_level.Goals as goal

pub climb-requires-clause-level : goal.climb-requires-clause-level
climb-requires-clause-level g c =
    last_level (phase_table c.args.t.now) c.args.levels.now c.args.k c.requires.inside c.index-levels-k.result c.index-levels-k.is c.args.families.now
    c.requires.climbed
    c.if-k-levels.true c.args.whole.now c.requires.whole

pub climb-requires-clause-list : goal.climb-requires-clause-list
climb-requires-clause-list g c =
    level_list (phase_table c.args.t.now) c.args.levels.now c.args.k c.requires.inside c.index-levels-k.result c.index-levels-k.is c.args.families.now
    c.requires.climbed

pub returns-then-k-levels : goal.returns-then-k-levels
returns-then-k-levels g c =
    last_climbed (phase_table c.args.t.now) c.args.levels.now c.args.k c.requires.inside c.index-levels-k.result c.index-levels-k.is
    c.args.families.now c.requires.climbed
    c.if-k-levels.true c.args.whole.now c.requires.whole c.in_ok-last.last.items c.in_ok-last.ensures

pub climb-requires-2-clause-level : goal.climb-requires-2-clause-level
climb-requires-2-clause-level g c =
    let k = c.args.k in
    let more : k + 1 < length c.args.levels.now = omega (arith, c.requires.inside, c.if-k-levels.false) in
    subst (IsLevel (phase_table c.args.t.now) c.index-levels-k.result) (sym c.as_slice.ensures.value)
    (next_level (phase_table c.args.t.now) c.args.levels.now k c.requires.inside c.index-levels-k.result c.index-levels-k.is c.args.families.now
    c.requires.climbed
    more c.index-levels-k-2.result c.index-levels-k-2.is)

pub climb-requires-2-clause-list : goal.climb-requires-2-clause-list
climb-requires-2-clause-list g c =
    level_list (phase_table c.args.t.now) c.args.levels.now c.args.k c.requires.inside c.index-levels-k.result c.index-levels-k.is c.args.families.now
    c.requires.climbed

pub returns : goal.returns
returns g c =
    let T = phase_table c.args.t.now in
    let k = c.args.k in
    let climbed = c.in_ok-climbed.climbed.items in
    let more : k + 1 < length c.args.levels.now = omega (arith, c.requires.inside, c.if-k-levels.false) in
    next_climbed T c.args.levels.now k c.requires.inside c.index-levels-k.result c.index-levels-k.is c.args.families.now c.requires.climbed
    more c.index-levels-k-2.result c.index-levels-k-2.is climbed
    (subst (λ xs. IsFullOn T T.order xs climbed) c.as_slice.ensures.value c.in_ok-climbed.ensures)
